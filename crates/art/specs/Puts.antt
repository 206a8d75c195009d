-- A tag put into a sorted listing, and left out of one.
use Rattle.std.specs.Prelude.{◌⊎◌, [], ◌∷◌}
use Rattle.std.proofs.Math.Logic.{ite}
use Rattle.std.proofs.Math.Option.{Option, none, some}
use Rattle.std.proofs.Math.Decide.{ℕ_discrete, dec_lt}
use Rattle.art.specs.Decisions.{both_dec, either_dec}
use Rattle.art.specs.Tags.{Tag, Listing, Before, Less, tag_dec}

-- whether s is less than t
unfoldable pub less_dec : (s t : Tag) → Dec (Less s t)
unfolding dec_lt ℕ_discrete
less_dec [] [] = no (λ h. h)
less_dec [] (y ∷ t) = yes tt
less_dec (x ∷ s) [] = no (λ h. h)
less_dec (x ∷ s) (y ∷ t) = either_dec (dec_lt x y) (both_dec (ℕ_discrete x y) (less_dec s t))

-- neither equal, nor does one begin the other
abbrev pub Apart : Tag → Tag → Type 0
Apart s t = Before s t ⊎ Before t s

module _ {A : Type 0} where
  -- ── put in ──
  -- before the first tag that is greater
  abbrev pub put : Tag → A → Listing A → Listing A
  put s a [] = (s, a) ∷ []
  put s a (e ∷ l) = ite (less_dec s e.0) ((s, a) ∷ e ∷ l) (e ∷ put s a l)

  -- ── what is held for a tag, changed or left out ──
  -- an entry, where something is held
  abbrev pub keep : Tag → Option A → Listing A → Listing A
  keep t none l = l
  keep t (some a) l = (t, a) ∷ l

  -- for each entry with the tag
  abbrev pub alter : (A → Option A) → Tag → Listing A → Listing A
  alter g s [] = []
  alter g s (e ∷ l) = ite (tag_dec s e.0) (keep e.0 (g e.1) (alter g s l)) (e ∷ alter g s l)

  -- left out
  abbrev pub leave : Tag → Listing A → Listing A
  leave s l = alter (λ a. none) s l
