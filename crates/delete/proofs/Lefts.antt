-- A row without the child for a byte: one of two children leaves the other, of more two at least; and what the writes of a delete are by how many are left.
use Prim.Native.Nat.{ℕ, suc, ◌≤◌}
use mathlib.Core.Path.{◌≡◌, refl, sym, ap, ◌∙◌}
use mathlib.Core.Logic.{◌≢◌, ite, if_pos, if_neg}
use mathlib.Core.List.{List, [], ◌∷◌}
use mathlib.Core.Option.{Option, none, some}
use mathlib.Core.Bool.{Bool, true, false}
use native.Mathlib.Decide.{ℕ_discrete}
use native.Mathlib.Omega.{arith}
use borrow.Author.Tests.{eqb-true, eqb-false}
use lib.ListN.{length}
use lib.Dec.{eqb}
use Rattle.lists.specs.Scan.{choose}
use Rattle.frames.specs.Place.{place_at}
use Rattle.records.specs.View.{places}
use Rattle.std.specs.Prelude.{Some}
use Rattle.art.specs.Deletes.{Home}
use Rattle.art.specs.Drops.{new_home}
use Rattle.art.specs.Stores.{Place, inner_place, unused, inner_cell, Store}
use Rattle.art.specs.Refs.{Refs, find_ref, cut_ref}
use Rattle.art.specs.Points.{settle_refs, settle_place}
use Rattle.delete.specs.Plan.{other_entry}

-- one less
pub cut_length : (b : ℕ) (rs : Refs) (y : Place) → find_ref rs b ≡ some y → suc (length (cut_ref b rs)) ≡ length rs
cut_length b [] y e = absurd (let z : ◌≡◌ {A = ℕ} 0 1 = cc in omega arith)
cut_length b (e ∷ rs) y h = go (ℕ_discrete b e.0) (cut_length b rs y) h
  where
    go : (d : Dec (b ≡ e.0)) → (find_ref rs b ≡ some y → suc (length (cut_ref b rs)) ≡ length rs) → ite {C = Option Place} d (some e.1) (find_ref rs b) ≡ some y
        → suc (length (ite {C = Refs} d rs (e ∷ cut_ref b rs))) ≡ suc (length rs)
    go (yes i) ih h = refl
    go (no i) ih h = ap suc (ih h)

-- the one of two that is left
pub record Other (b : ℕ) (row : List (ℕ × ℕ)) : Type 0 where
  pub byte : ℕ
  pub ref : ℕ
  pub is : other_entry b row ≡ Some (byte, ref)
  pub left : cut_ref b (places row) ≡ (byte, place_at ref) ∷ []

pub other_left : (b : ℕ) (row : List (ℕ × ℕ)) (y : Place) → length row ≡ 2 → find_ref (places row) b ≡ some y → Other b row
unfolding other_entry
other_left b [] y l h = absurd (omega arith)
other_left b (e ∷ []) y l h = absurd (omega arith)
other_left b (e ∷ g ∷ []) y l h = go (eqb e.0 b) refl
  where
    entries : other_entry b (e ∷ g ∷ []) ≡ choose (eqb e.0 b) (Some (g.0, g.1)) (Some (e.0, e.1))
    entries = refl

    second : b ≢ e.0 → cut_ref b (places (g ∷ [])) ≡ []
    second n = go (ℕ_discrete b g.0) (sym (if_neg (ℕ_discrete b e.0) n (some (place_at e.1)) (find_ref (places (g ∷ [])) b)) ∙ h)
      where
        go : (d : Dec (b ≡ g.0)) → ite {C = Option Place} d (some (place_at g.1)) none ≡ some y → ite {C = Refs} d [] ((g.0, place_at g.1) ∷ []) ≡ []
        go (yes i) h = refl
        go (no i) h = absurd (let z : ◌≡◌ {A = ℕ} 0 1 = cc in omega arith)

    go : (t : Bool) → eqb e.0 b ≡ t → Other b (e ∷ g ∷ [])
    go true t = record {
      byte = g.0;
      ref = g.1;
      is = entries ∙ ap (λ (x : Bool). choose x (Some (g.0, g.1)) (Some (e.0, e.1))) t;
      left = if_pos (ℕ_discrete b e.0) (sym (eqb-true _ _ t)) _ _;
    }
    go false t = record {
      byte = e.0;
      ref = e.1;
      is = entries ∙ ap (λ (x : Bool). choose x (Some (g.0, g.1)) (Some (e.0, e.1))) t;
      left = if_neg (ℕ_discrete b e.0) (λ i. eqb-false _ _ t (sym i)) _ _ ∙ ap (λ (l : Refs). (e.0, place_at e.1) ∷ l) (second (λ i. eqb-false _ _ t (sym i)));
    }
other_left b (e ∷ g ∷ d ∷ row) y l h = absurd (omega arith)

-- ── the writes by how many are left ──
module _ {A : Type 0} where
  pub settle_many : (σ : Store A) (hm : Home) (k n len : ℕ) (st : List ℕ) (rs : Refs) → 2 ≤ length rs
      → settle_refs σ hm k n len st rs ≡ (inner_place k n, unused) ∷ (new_home hm k n (length rs), inner_cell len st rs) ∷ []
  settle_many σ hm k n len st [] h = absurd (omega arith)
  settle_many σ hm k n len st (e ∷ []) h = absurd (omega arith)
  settle_many σ hm k n len st (e ∷ g ∷ rs) h = refl

pub settle_home : (hm : Home) (k n : ℕ) (rs : Refs) → 2 ≤ length rs → settle_place hm k n rs ≡ new_home hm k n (length rs)
settle_home hm k n [] h = absurd (omega arith)
settle_home hm k n (e ∷ []) h = absurd (omega arith)
settle_home hm k n (e ∷ g ∷ rs) h = refl
