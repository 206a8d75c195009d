-- A row has a child for a byte among its references just where it has one among its places, since the two rows have the same bytes.
use Prim.Native.Nat.{ℕ, suc, ◌<◌}
use mathlib.Core.Path.{◌≡◌, refl, sym, ap, ◌∙◌}
use mathlib.Core.Logic.{ite}
use mathlib.Core.List.{[], ◌∷◌}
use mathlib.Core.Option.{none, some}
use mathlib.Core.Bool.{Bool}
use native.Mathlib.Decide.{ℕ_discrete}
use native.Mathlib.Omega.{arith}
use borrow.Author.Tests.{eq-eqb}
use Rattle.lists.specs.Scan.{choose}
use Rattle.frames.specs.Place.{place_at}
use Rattle.records.specs.Row.{ref_for, Climbs}
use Rattle.records.specs.View.{places}
use Rattle.art.specs.Stores.{Place}
use Rattle.art.specs.Refs.{find_ref}
use Rattle.edits.specs.Rows.{Row}
use Rattle.edits.proofs.RowChanges.{refs_later}

-- a place is not none
found : {y : Place} → some y ≡ none → ⊥
found h = let z : ◌≡◌ {A = ℕ} 0 1 = cc in omega arith

module _ (b : ℕ) where
  -- no place for b: no reference
  pub find_none : (row : Row) → find_ref (places row) b ≡ none → ref_for b row ≡ 0
  find_none [] h = refl
  find_none (e ∷ es) h = go (ℕ_discrete b e.0) (find_none es) h
    where
      go : (d : Dec (b ≡ e.0)) → (find_ref (places es) b ≡ none → ref_for b es ≡ 0) → ite d (some (place_at e.1)) (find_ref (places es) b) ≡ none → ref_for b (e ∷ es) ≡ 0
      go (yes q) ih g = absurd (found g)
      go (no n) ih g = refs_later b e es n ∙ ih g

  -- a place for b: b is a byte, and has a reference
  pub find_some : (lo : ℕ) (row : Row) (y : Place) → Climbs lo row → find_ref (places row) b ≡ some y → (b < 256) × (0 < ref_for b row)
  find_some lo [] y c h = absurd (found (sym h))
  find_some lo (e ∷ es) y c h = go (ℕ_discrete b e.0) (find_some (suc e.0) es y c.1) h
    where
      go : (d : Dec (b ≡ e.0)) → (find_ref (places es) b ≡ some y → (b < 256) × (0 < ref_for b es)) → ite d (some (place_at e.1)) (find_ref (places es) b) ≡ some y
          → (b < 256) × (0 < ref_for b (e ∷ es))
      go (yes q) ih g =
          let r : ref_for b (e ∷ es) ≡ e.1 = ap (λ (t : Bool). choose t e.1 (ref_for b es)) (eq-eqb e.0 b (sym q)) in
          (omega (arith, c.0.byte), omega (arith, c.0.some))
      go (no n) ih g =
          let i = ih g in
          (i.0, omega (arith, i.1, refs_later b e es n))
