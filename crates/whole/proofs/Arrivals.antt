-- What an arrival gives: the record lies within the words, and obeys its rule.
use Prim.Native.Nat.{ℕ}
use mathlib.Core.Path.{◌≡◌, refl}
use mathlib.Core.List.{List}
use Rattle.frames.specs.Frame.{FrameOf}
use Rattle.frames.specs.declared.frame.Frame.{Frame}
use Rattle.art.specs.Stores.{Place}
use Rattle.tree.specs.Arrive.{arrival_at}
use Rattle.tree.specs.declared.arrive.Arrival.{Arrival}
use Rattle.tree.specs.declared.arrive.Arrival.TheVariants.{Leaf, Inner, Broken}
use Rattle.tree.proofs.Arrivals.{leaf_there, inner_there}
use Rattle.whole.specs.Arrive.{There}

module _ {f : Frame} {words keys : List ℕ} (w : FrameOf f words keys) (left : ℕ) (x : Place) where
  -- what was arrived at lies within the words
  pub there : There f words (arrival_at f words keys left x)
  there = go (arrival_at f words keys left x) refl
    where
      go : (a : Arrival) → arrival_at f words keys left x ≡ a → There f words a
      go (Leaf n start) e = (leaf_there w left x n start e).room
      go (Inner k start) e = inner_there w left x k start e
      go Broken e = tt
