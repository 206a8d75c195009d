-- The writes of a delete for the record above touch inner records alone.
use Prim.Native.Nat.{ℕ}
use mathlib.Core.List.{List, [], ◌∷◌}
use Rattle.art.specs.Deletes.{Home}
use Rattle.art.specs.Stores.{Place, leaf_place, inner_place, Cell, unused, leaf_cell, inner_cell, Store}
use Rattle.art.specs.Refs.{Refs, cut_ref}
use Rattle.art.specs.Points.{Up, top, via, relink_up, merge_into, settle_refs, settle_cell, settled, delete_under}
use Rattle.art.proofs.Stores.{leaf_inner}
use Rattle.pointed.proofs.Inners.{Inners, inners_append, relink_inners}

module _ {A : Type 0} where
  merge_inners : (len : ℕ) (st : List ℕ) (b : ℕ) (y : Place) (c : Cell A) → Inners (merge_into len st b y c)
  merge_inners len st b (leaf_place n) c = tt
  merge_inners len st b (inner_place k n) c = (λ m. leaf_inner m k n, tt)

  refs_inners : (σ : Store A) (hm : Home) (k n len : ℕ) (st : List ℕ) (rs : Refs) → Inners (settle_refs σ hm k n len st rs)
  refs_inners σ hm k n len st [] = (λ m. leaf_inner m k n, tt)
  refs_inners σ hm k n len st (e ∷ []) = (λ m. leaf_inner m k n, merge_inners len st e.0 e.1 (σ e.1))
  refs_inners σ hm k n len st (e ∷ g ∷ rs) = (λ m. leaf_inner m k n, (λ m. leaf_inner m _ _, tt))

  cell_inners : (σ : Store A) (hm : Home) (k n b : ℕ) (c : Cell A) → Inners (settle_cell σ hm k n b c)
  cell_inners σ hm k n b unused = tt
  cell_inners σ hm k n b (leaf_cell t a) = tt
  cell_inners σ hm k n b (inner_cell len st rs) = refs_inners σ hm k n len st (cut_ref b rs)

  pub under_inners : (σ : Store A) (hm : Home) (upper up : Up) → Inners (delete_under σ hm upper up)
  under_inners σ hm upper top = tt
  under_inners σ hm upper (via k n b) =
      inners_append (settle_cell σ hm k n b (σ (inner_place k n))) (relink_up σ upper (inner_place k n) (settled σ hm k n b)) (cell_inners σ hm k n b (σ (inner_place k n)))
      (relink_inners σ upper (inner_place k n) (settled σ hm k n b))
