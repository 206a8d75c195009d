-- Listings: what is true of all entries, sorted ones, a listing put under a path.
use Rattle.std.specs.Prelude.{◌⊎◌, [], ◌∷◌, ◌++◌, ℕ, ◌+◌, drop}
use Rattle.std.proofs.Math.Logic.{ite}
use Rattle.std.proofs.Math.Option.{Option, none, some}
use Rattle.art.specs.Tags.{Tag, Listing, Before, Begins, Aim, tag_dec, begins_dec, fits_dec}
use Rattle.art.specs.Members.{In}

module _ {A : Type 0} where
  -- every entry's tag
  abbrev pub Every : (Tag → Type 0) → Listing A → Type 0
  Every P [] = Unit {0}
  Every P (e ∷ l) = P e.0 × Every P l

  -- each tag comes before all later ones, and begins none of them
  abbrev pub Sorted : Listing A → Type 0
  Sorted [] = Unit {0}
  Sorted (e ∷ l) = Every (Before e.0) l × Sorted l

  -- the listing with p before each tag
  abbrev pub under : Tag → Listing A → Listing A
  under p [] = []
  under p (e ∷ l) = (p ++ e.0, e.1) ∷ under p l

  -- the listing with the first n bytes of each tag left off
  abbrev pub strip : ℕ → Listing A → Listing A
  strip n [] = []
  strip n (e ∷ l) = (drop n e.0, e.1) ∷ strip n l

  -- ── the first held tag that fits ──
  -- in the listing's order
  abbrev pub find : Aim → Tag → Listing A → Option A
  find m s [] = none
  find m s (e ∷ l) = ite (fits_dec m s e.0) (some e.1) (find m s l)

  -- what is held for a tag
  abbrev pub lookup : Tag → Listing A → Option A
  lookup s [] = none
  lookup s (e ∷ l) = ite (tag_dec s e.0) (some e.1) (lookup s l)

  -- what the first tag holds that begins the bytes
  abbrev pub lookup_begun : Tag → Listing A → Option A
  lookup_begun s [] = none
  lookup_begun s (e ∷ l) = ite (begins_dec e.0 s) (some e.1) (lookup_begun s l)

  -- a held tag begins with the bytes, or they begin with it; one that is equal to them does both
  abbrev pub Clashes : Tag → Listing A → Type 0
  Clashes s l = (e : Tag × A) × In e l × (Begins s e.0 ⊎ Begins e.0 s)

  -- ── the tags that begin with given bytes ──
  -- those entries, in the listing's order
  abbrev pub begun_with : Tag → Listing A → Listing A
  begun_with s [] = []
  begun_with s (e ∷ l) = ite (begins_dec s e.0) (e ∷ begun_with s l) (begun_with s l)

-- what a listing of numbers adds up to
abbrev pub added_up : Listing ℕ → ℕ
added_up [] = 0
added_up (e ∷ l) = e.1 + added_up l
