-- A record's row has the same bytes and children in the code as in the mathematics, so both find the same child for a byte, or none.
use Prim.Native.Nat.{ℕ, ◌≤◌}
use mathlib.Core.Path.{◌≡◌, refl, sym, ap, ◌∙◌}
use mathlib.Core.Logic.{◌⊎◌, inl, inr, ite}
use mathlib.Core.List.{List, [], ◌∷◌, ◌++◌, head-eq_of_cons-eq, tail-eq_of_cons-eq}
use mathlib.Core.Option.{Option, none, some}
use mathlib.Core.Bool.{Bool, true, false}
use native.Mathlib.Omega.{arith}
use native.Mathlib.Decide.{ℕ_discrete}
use borrow.Author.Tests.{eqb-true, eqb-false}
use lib.Dec.{eqb}
use Rattle.lists.specs.Scan.{choose}
use Rattle.frames.specs.Place.{place_at}
use Rattle.records.specs.Row.{ref_for}
use Rattle.records.specs.View.{Held, places}
use Rattle.art.specs.Tags.{Tag}
use Rattle.art.specs.Trees.{Tree, Row, end, child, Good, GoodRow}
use Rattle.art.specs.Facts.{height, row_height}
use Rattle.art.specs.Stores.{Place, Store, root, refs}
use Rattle.art.specs.Refs.{find_ref}
use Rattle.art.specs.Walks.{walk_refs, Shows, ShowsRow}
use Rattle.art.specs.Visit.{and_then}

-- a tree of a row that the store shows, one byte on from the path
pub record KidOf (σ : Store Held) (r : Row Held) (q : Tag) (ref : ℕ) (found : Option Place) : Type 0 where
  pub tree : Tree Held
  pub good : GoodRow r → Good tree
  pub byte : ℕ
  pub shows : Shows tree (q ++ byte ∷ []) σ
  pub low : height tree ≤ row_height r
  pub names : place_at ref ≡ root tree
  pub finds : found ≡ some (root tree)

-- the code and the mathematics find the same child, or none
pub row_kid : (σ : Store Held) (r : Row Held) (q : Tag) → ShowsRow r q σ → (row : List (ℕ × ℕ)) → refs r ≡ places row → (b : ℕ)
    → ((ref_for b row ≡ 0) × (find_ref (refs r) b ≡ none)) ⊎ KidOf σ r q (ref_for b row) (find_ref (refs r) b)
row_kid σ end q h [] e b = inl (refl, refl)
row_kid σ end q h (x ∷ row) e b = absurd (let z : ◌≡◌ {A = ℕ} 0 1 = cc in omega arith)
row_kid σ (child c t r) q h [] e b = absurd (let z : ◌≡◌ {A = ℕ} 0 1 = cc in omega arith)
row_kid σ (child c t r) q h (x ∷ row) e b = by (eqb x.0 b) refl (ℕ_discrete b c) (row_kid σ r q h.1 row (tail-eq_of_cons-eq e) b)
  where
    key : c ≡ x.0
    key = ap (λ (y : ℕ × Place). y.0) (head-eq_of_cons-eq e)

    at : root t ≡ place_at x.1
    at = ap (λ (y : ℕ × Place). y.1) (head-eq_of_cons-eq e)

    by : (u : Bool) → eqb x.0 b ≡ u → (d : Dec (b ≡ c)) → ((ref_for b row ≡ 0) × (find_ref (refs r) b ≡ none)) ⊎ KidOf σ r q (ref_for b row) (find_ref (refs r) b)
        → ((choose u x.1 (ref_for b row) ≡ 0) × (ite d (some (root t)) (find_ref (refs r) b) ≡ none))
        ⊎ KidOf σ (child c t r) q (choose u x.1 (ref_for b row)) (ite d (some (root t)) (find_ref (refs r) b))
    by true i (yes d) ih = inr (record { tree = t; good = λ g. g.0; byte = c; shows = h.0; low = omega arith; names = sym at; finds = refl })
    by true i (no d) ih = absurd (d (sym (eqb-true x.0 b i) ∙ sym key))
    by false i (yes d) ih = absurd (eqb-false x.0 b i (sym key ∙ sym d))
    by false i (no d) (inl z) = inl z
    by false i (no d) (inr k) = inr (record { tree = k.tree; good = λ g. k.good g.2; byte = k.byte; shows = k.shows; low = omega (arith, k.low); names = k.names; finds = k.finds })

-- the walk goes on at the child that is found
pub walk_found : (rs : List (ℕ × Place)) (b : ℕ) (go : Place → Option Held) → walk_refs rs b go ≡ and_then (find_ref rs b) go
walk_found [] b go = refl
walk_found (e ∷ rs) b go = by (ℕ_discrete b e.0) (walk_found rs b go)
  where
    by : (d : Dec (b ≡ e.0)) → walk_refs rs b go ≡ and_then (find_ref rs b) go → ite d (go e.1) (walk_refs rs b go) ≡ and_then (ite d (some e.1) (find_ref rs b)) go
    by (yes d) ih = refl
    by (no d) ih = ih
