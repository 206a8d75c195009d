-- Writes that touch inner records alone leave every leaf as it is, so a leaf may be written before them or after.
use Prim.Native.Nat.{ℕ}
use mathlib.Core.Path.{◌≡◌, refl, sym, ap, ◌∙◌}
use mathlib.Core.Logic.{◌≢◌, ite}
use mathlib.Core.List.{[], ◌∷◌, ◌++◌}
use Rattle.art.specs.Stores.{Place, leaf_place, inner_place, place_dec, Cell, Store, Edits, write, apply}
use Rattle.art.specs.Refs.{re_cell}
use Rattle.art.specs.Points.{Up, top, via, relink_up}
use Rattle.art.proofs.Stores.{leaf_inner, write_other, write_comm}

module _ {A : Type 0} where
  -- no write is at a leaf
  abbrev pub Inners : Edits A → Type 0
  Inners [] = Unit {0}
  Inners (e ∷ es) = ((n : ℕ) → leaf_place n ≢ e.0) × Inners es

  pub inners_append : (es fs : Edits A) → Inners es → Inners fs → Inners (es ++ fs)
  inners_append [] fs h k = k
  inners_append (e ∷ es) fs h k = (h.0, inners_append es fs h.1 k)

  -- a leaf stays as it is, and may be written before or after
  pub leaf_stays : (σ : Store A) (es : Edits A) → Inners es → (n : ℕ) → apply σ es (leaf_place n) ≡ σ (leaf_place n)
  leaf_stays σ [] h n = refl
  leaf_stays σ (e ∷ es) h n = leaf_stays (write σ e.0 e.1) es h.1 n ∙ write_other σ e.0 e.1 (leaf_place n) (h.0 n)

  pub leaf_first : (σ : Store A) (es : Edits A) → Inners es → (n : ℕ) (c : Cell A) → apply (write σ (leaf_place n) c) es ≡ write (apply σ es) (leaf_place n) c
  leaf_first σ [] h n c = refl
  leaf_first σ (e ∷ es) h n c =
      ap (λ (τ : Store A). apply τ es) (write_comm σ (leaf_place n) e.0 c e.1 (λ i. h.0 n (sym i)))
      ∙ leaf_first (write σ e.0 e.1) es h.1 n c

  -- the write that gives the record above another child
  pub relink_inners : (σ : Store A) (up : Up) (x y : Place) → Inners (relink_up σ up x y)
  relink_inners σ top x y = tt
  relink_inners σ (via k n b) x y = go (place_dec x y)
    where
      go : (d : Dec (x ≡ y)) → Inners (ite {C = Edits A} d [] ((inner_place k n, re_cell (σ (inner_place k n)) b y) ∷ []))
      go (yes e) = tt
      go (no e) = (λ m. leaf_inner m k n, tt)
