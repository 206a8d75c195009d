-- The tags of a good tree are sorted, and none begins another.
use mathlib.Core.Logic.{inl}
use mathlib.Core.List.{[], ◌∷◌}
use Prim.Native.Nat.{ℕ, ◌<◌}
use native.Mathlib.Omega.{arith}
use lib.ListN.{length}
use Rattle.art.specs.Tags.{Tag, Before}
use Rattle.art.proofs.Listings.{every_append, every_all, every_imp, every_under, sorted_append, sorted_under}
use Rattle.art.specs.Listings.{Every, Sorted, under}
use Rattle.art.specs.Trees.{Tree, Row, leaf, inner, end, child, HeadAbove, contents, row_contents, Above, Good, GoodRow}

-- a tag comes before one that begins with a higher byte
pub above_before : (b : ℕ) (s t : Tag) → HeadAbove b t → Before (b ∷ s) t
above_before b s [] h = elim h [ ]
above_before b s (c ∷ t) h = inl h

module _ {A : Type 0} where
  -- ── the bytes that a row's tags begin with ──
  -- the tags of a row whose bytes are above a byte begin above it
  pub row_above : (b : ℕ) (r : Row A) → Above b r → Every (HeadAbove b) (row_contents r)
  row_above b end h = tt
  row_above b (child c t r) h = every_append (HeadAbove b) (under (c ∷ []) (contents t)) (row_contents r)
      (every_under (HeadAbove b) (c ∷ []) (contents t) (every_all _ (λ x. h.0) (contents t)))
      (row_above b r h.1)

  -- no tag of a row is empty
  pub row_filled : (r : Row A) → Every (λ s. 0 < length s) (row_contents r)
  row_filled end = tt
  row_filled (child c t r) = every_append _ (under (c ∷ []) (contents t)) (row_contents r)
      (every_under (λ s. 0 < length s) (c ∷ []) (contents t) (every_all _ (λ x. omega arith) (contents t)))
      (row_filled r)

  -- ── theorem S ──
  mutual
    -- the tags of a good tree are sorted, and none begins another
    pub sorted : (t : Tree A) → Good t → Sorted (contents t)
    sorted (leaf n s a) g = (tt, tt)
    sorted (inner k n run r) g = sorted_under run (row_contents r) (row_sorted r g.1)

    -- and so are those of a row
    pub row_sorted : (r : Row A) → GoodRow r → Sorted (row_contents r)
    row_sorted end g = tt
    row_sorted (child b t r) g = sorted_append (under (b ∷ []) (contents t)) (row_contents r)
        (sorted_under (b ∷ []) (contents t) (sorted t g.0))
        (row_sorted r g.2)
        (every_under _ (b ∷ []) (contents t) (every_all _ (λ x. every_imp (HeadAbove b) _ (above_before b x) (row_contents r) (row_above b r g.1)) (contents t)))
