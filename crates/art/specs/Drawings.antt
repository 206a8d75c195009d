-- The drawing of a set of tags, from the tags alone, and what a tree draws.
use Rattle.std.proofs.Math.Logic.{ite}
use Rattle.std.specs.Prelude.{List, [], ◌∷◌, ◌++◌, ℕ, zero, suc, max, length, take}
use Rattle.std.proofs.Math.Decide.{ℕ_discrete}
use Rattle.art.specs.Tags.{Tag, Listing}
use Rattle.art.specs.Listings.{strip}
use Rattle.art.specs.Trees.{Tree, leaf, inner, Row, end, child}

-- a drawing has tags, lengths, first eight bytes and child bytes, and no address
mutual
  pub data Drawing (A : Type 0) : Type 0 where
    nothing : Drawing A
    one : (tag : Tag) (held : A) → Drawing A
    branch : (len : ℕ) (first : List ℕ) (kids : Kids A) → Drawing A

  -- the children of a branching: each has a byte, and what is drawn below it
  pub data Kids (A : Type 0) : Type 0 where
    done : Kids A
    kid : (byte : ℕ) (below : Drawing A) (more : Kids A) → Kids A

-- the longest run that two tags share
abbrev pub common : Tag → Tag → Tag
common [] t = []
common (x ∷ s) [] = []
common (x ∷ s) (y ∷ t) = ite (ℕ_discrete x y) (x ∷ common s t) []

-- entries by a byte
abbrev pub Groups : Type 0 → Type 0
Groups A = List (ℕ × Listing A)

module _ {A : Type 0} where
  -- the longest run that s and all of a listing share
  abbrev pub shared_with : Tag → Listing A → Tag
  shared_with s [] = s
  shared_with s (e ∷ l) = shared_with (common s e.0) l

  -- the longest run that all of a listing share
  abbrev pub shared_run : Listing A → Tag
  shared_run [] = []
  shared_run (e ∷ l) = shared_with e.0 l

  -- an entry more, in the first group where that has its byte
  abbrev pub add : ℕ → Tag × A → Groups A → Groups A
  add b e [] = (b, e ∷ []) ∷ []
  add b e (g ∷ gs) = ite (ℕ_discrete b g.0) ((g.0, e ∷ g.1) ∷ gs) ((b, e ∷ []) ∷ g ∷ gs)

  -- an entry more, by its first byte
  abbrev pub add_entry : Tag → A → Groups A → Groups A
  add_entry [] a gs = gs
  add_entry (b ∷ s) a gs = add b (s, a) gs

  -- the entries by the first byte, one group for each run of equal ones, with that byte left off
  abbrev pub groups : Listing A → Groups A
  groups [] = []
  groups (e ∷ l) = add_entry e.0 e.1 (groups l)

  -- a child for each group
  abbrev pub kids_of : (ℕ → Listing A → Drawing A) → Groups A → Kids A
  kids_of f [] = done
  kids_of f (g ∷ gs) = kid g.0 (f g.0 g.1) (kids_of f gs)

  -- the drawing of what stands below the path p; the first argument is above the length of every tag
  abbrev pub draw_at : ℕ → Tag → Listing A → Drawing A
  draw_at zero p l = nothing
  draw_at (suc f) p [] = nothing
  draw_at (suc f) p (e ∷ []) = one (p ++ e.0) e.1
  draw_at (suc f) p (e ∷ e' ∷ l) =
      let run : Tag = shared_run (e ∷ e' ∷ l) in
      branch (length run) (take 8 run) (kids_of (λ b g. draw_at f (p ++ run ++ b ∷ []) g) (groups (strip (length run) (e ∷ e' ∷ l))))

  -- the length of the longest tag
  abbrev pub longest : Listing A → ℕ
  longest [] = 0
  longest (e ∷ l) = max (length e.0) (longest l)

  -- the drawing of a set of tags
  abbrev pub draw : Listing A → Drawing A
  draw l = draw_at (suc (longest l)) [] l

  -- what a tree draws
  abbrev mutual
    pub sketch : Tag → Tree A → Drawing A
    sketch p (leaf n s a) = one (p ++ s) a
    sketch p (inner k n run r) = branch (length run) (take 8 run) (sketch_row (p ++ run) r)

    -- and so for each child of a row, below the path q and its byte
    pub sketch_row : Tag → Row A → Kids A
    sketch_row q end = done
    sketch_row q (child b t r) = kid b (sketch (q ++ b ∷ []) t) (sketch_row q r)

  -- ── how many entries ──
  -- one entry or more
  abbrev pub Filled : Listing A → Type 0
  Filled [] = ⊥
  Filled (e ∷ l) = Unit {0}

  -- two entries or more
  abbrev pub Two : Listing A → Type 0
  Two [] = ⊥
  Two (e ∷ []) = ⊥
  Two (e ∷ e' ∷ l) = Unit {0}

  -- one child or more
  abbrev pub Some : Row A → Type 0
  Some end = ⊥
  Some (child b t r) = Unit {0}
