-- The first leaf below a record was seen: the way down by the lowest child ends at a leaf only where it arrives at one.
use Prim.Native.Nat.{ℕ, zero, suc, ◌+◌, ◌*◌, ◌/◌, ◌≤◌}
use mathlib.Core.Path.{◌≡◌, refl, sym, ap, subst, ◌∙◌}
use mathlib.Core.List.{List}
use native.Mathlib.Omega.{arith}
use borrow.Author.Tests.{ltb-true}
use Rattle.std.specs.Prelude.{Ok, Err}
use Rattle.std.specs.declared.ops.ControlFlow.TheVariants.{Continue, Break}
use Rattle.tree.specs.Answer.{Found}
use Rattle.tree.specs.declared.answer.Leaf.{Leaf}
use Rattle.tree.specs.Edge.{EdgeStep, edge_from, edge_step, edge_ended, edge_of}
use lib.ListN.{get_or}
use Rattle.frames.specs.Frame.{FrameOf}
use Rattle.frames.specs.Place.{place_at, start_at}
use Rattle.frames.proofs.Frames.{framed, caps_most}
use Rattle.frames.specs.declared.frame.Frame.{Frame}
use Rattle.records.specs.View.{rule_at}
use Rattle.tree.specs.Arrive.{arrival_at}
use Rattle.tree.specs.declared.arrive.Arrival.{Arrival}
use Rattle.tree.specs.declared.arrive.Arrival.TheVariants as arrival
use Rattle.tree.specs.declared.minmax.Edge.{Edge}
use Rattle.tree.proofs.Arrivals.{leaf_named, arrive_leaf}
use Rattle.tree.specs.Seen.{LeafSeen}
use Rattle.tree.proofs.Leaves.{leaf_arrived, seen_pool}
use Rattle.points.specs.Point.{lowest_of, leaf_ref_of}

module _ (f : Frame) (words keys : List ℕ) where
  -- a leaf that is arrived at has the number of its reference
  leaf_number : (left ref n start : ℕ) → arrival_at f words keys left (place_at ref) ≡ arrival.Leaf n start → ref ≡ n * 8 + 5
  leaf_number left ref n start e =
      let l = leaf_arrived f words keys left ref n start e in
      let x : place_at ref ≡ _ = leaf_named ref l.kind in
      let q : arrival.Leaf (ref / 8) (start_at f (place_at ref)) ≡ arrival.Leaf n start =
      arrive_leaf f words keys left (place_at ref) (seen_pool l) (ap (rule_at f words keys) x ∙ l.rule) (start_at f (place_at ref)) refl (ref / 8) x ∙ e in
      let k : ref / 8 ≡ n = cc in
      omega (arith, l.kind)

  -- an answer that is a leaf names one that was seen
  abbrev FoundSeen : Found → Type 0
  FoundSeen (Ok leaf) = LeafSeen f words keys (leaf.number * 8 + 5)
  FoundSeen (Err refusal) = Unit {0}

  abbrev StepSeen : EdgeStep → Type 0
  StepSeen (Continue r) = Unit {0}
  StepSeen (Break a) = FoundSeen a

  step_seen : (edge : Edge) (left ref : ℕ) → StepSeen (edge_step f words keys edge left ref)
  unfolding edge_step
  step_seen edge left ref = go (arrival_at f words keys left (place_at ref)) refl
    where
      go : (a : Arrival) → arrival_at f words keys left (place_at ref) ≡ a → StepSeen (edge_from f words edge a)
      go (arrival.Leaf n start) e = subst (LeafSeen f words keys) (leaf_number left ref n start e) (leaf_arrived f words keys left ref n start e)
      go (arrival.Inner kind start) e = tt
      go arrival.Broken e = tt

  ended_seen : (s : EdgeStep) → StepSeen s → FoundSeen (edge_ended s)
  ended_seen (Continue r) h = tt
  ended_seen (Break a) h = h

  go_on : Edge → ℕ → EdgeStep → Found
  go_on edge left s = elim s [ Continue r ↦ edge_of f words keys edge left r | Break a ↦ a ]

  on_seen : (edge : Edge) (left : ℕ) → ((r : ℕ) → FoundSeen (edge_of f words keys edge left r)) → (s : EdgeStep) → StepSeen s → FoundSeen (go_on edge left s)
  unfolding go_on
  on_seen edge left ih (Continue r) h = ih r
  on_seen edge left ih (Break a) h = h

  edge_seen : (edge : Edge) (left ref : ℕ) → FoundSeen (edge_of f words keys edge left ref)
  unfolding edge_of go_on
  edge_seen edge zero ref = ended_seen (edge_step f words keys edge 0 ref) (step_seen edge 0 ref)
  edge_seen edge (suc left) ref =
      on_seen edge left (λ r. edge_seen edge left r) (edge_step f words keys edge (suc left) ref) (step_seen edge (suc left) ref)

  -- the first leaf below
  pub lowest_seen : (ref leaf : ℕ) → leaf ≡ leaf_ref_of (lowest_of f words keys ref) → (leaf ≡ 0 → ⊥) → LeafSeen f words keys leaf
  lowest_seen ref leaf e z = go (lowest_of f words keys ref) (edge_seen _ f.form.limit ref) e
    where
      go : (a : Found) → FoundSeen a → leaf ≡ leaf_ref_of a → LeafSeen f words keys leaf
      go (Ok leaf) h e = subst (LeafSeen f words keys) (sym e) h
      go (Err refusal) h e = absurd (z e)

  pub lowest_small : FrameOf f words keys → (ref : ℕ) {leaf : Leaf} {x : Found} → x ≡ lowest_of f words keys ref → x ≡ Ok leaf → leaf.number ≤ 4096
  lowest_small w ref {leaf} e q =
      let l : LeafSeen f words keys (leaf.number * 8 + 5) = subst FoundSeen (sym e ∙ q) (edge_seen _ f.form.limit ref) in
      omega (arith, ltb-true ((leaf.number * 8 + 5) / 8) (get_or f.caps 5 0) l.pool, caps_most (framed w) 5 (omega arith))
