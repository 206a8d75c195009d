-- Where every used place obeys its rule, a walk arrives at each record that the view shows: no reference to one is broken.
use Prim.Native.Nat.{ℕ, ◌<◌}
use mathlib.Core.Path.{◌≡◌, refl, sym, ap, ◌∙◌}
use mathlib.Core.List.{List}
use mathlib.Core.Bool.{true}
use native.Mathlib.Omega.{arith}
use Rattle.frames.specs.Place.{place_at, start_at}
use Rattle.frames.specs.declared.frame.Frame.{Frame}
use Rattle.records.specs.View.{Held, cell_of, rule_at}
use Rattle.tree.specs.Arrive.{arrival_at}
use Rattle.tree.specs.declared.arrive.Arrival.TheVariants.{Leaf, Inner}
use Rattle.tree.proofs.Arrivals.{arrive_leaf, arrive_inner}
use Rattle.art.specs.Tags.{Tag}
use Rattle.art.specs.Stores.{Place, leaf_place, inner_place, leaf_cell, inner_cell, Used}
use Rattle.view.proofs.Seen.{seen_leaf, seen_inner}

module _ (f : Frame) (words keys : List ℕ) (rules : (x : Place) → Used (cell_of f words keys x) → rule_at f words keys x ≡ true) (left ref : ℕ) where
  -- at a leaf
  pub at_leaf : (n : ℕ) (t : Tag) (a : Held) → cell_of f words keys (leaf_place n) ≡ leaf_cell t a → place_at ref ≡ leaf_place n
      → arrival_at f words keys left (place_at ref) ≡ Leaf n (start_at f (leaf_place n))
  at_leaf n t a h e =
      ap (arrival_at f words keys left) e
      ∙ sym (arrive_leaf f words keys left (leaf_place n) (seen_leaf f words keys n t a h).pool (rules (leaf_place n) (rw h tt)) (start_at f (leaf_place n)) refl n refl)

  -- at an inner record, where one is left on the path
  pub at_inner : (k n len : ℕ) (stored : List ℕ) (refs : List (ℕ × Place)) → cell_of f words keys (inner_place k n) ≡ inner_cell len stored refs → place_at ref ≡ inner_place k n → 0 < left
      → arrival_at f words keys left (place_at ref) ≡ Inner k (start_at f (inner_place k n))
  at_inner k n len stored refs h e l =
      ap (arrival_at f words keys left) e
      ∙ sym (arrive_inner f words keys left (inner_place k n) (seen_inner f words keys k n len stored refs h).pool (rules (inner_place k n) (rw h tt)) (start_at f (inner_place k n)) refl k n refl
      (λ z. omega arith))
