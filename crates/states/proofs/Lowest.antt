-- The record that a search of the words gives is the lowest free one of what the block shows.
use Prim.Native.Nat.{ℕ, ◌<◌}
use mathlib.Core.Path.{◌≡◌, subst}
use mathlib.Core.Logic.{◌≢◌}
use mathlib.Core.List.{List}
use mathlib.Core.Bool.{true}
use native.Mathlib.Omega.{arith}
use lib.ListN.{get_or}
use lib.Dec.{leb, ltb}
use borrow.Author.Tests.{lt-ltb}
use Rattle.lists.proofs.Tests.{both, and_both}
use Rattle.frames.specs.Place.{in_pool}
use Rattle.frames.specs.declared.frame.Frame.{Frame}
use Rattle.records.specs.View.{Held}
use Rattle.art.specs.Stores.{Place, leaf_place, inner_place, Store, Used}
use Rattle.art.specs.Chain.{Links}
use Rattle.pools.specs.Pool.{lowest_free}
use Rattle.view.specs.Cells.{word_zero}
use Rattle.view.proofs.Apart.{number_few}
use Rattle.view.proofs.Pools.{lowest_used, free_leaf}
use Rattle.view.proofs.Views.{cell_used}
use Rattle.states.specs.State.{State}
use Rattle.states.specs.Lowest.{Lowest}
use Rattle.states.proofs.Standing.{shown_at}
use Rattle.states.proofs.Steps.{state_zero}

module _ {f : Frame} {words keys : List ℕ} {σ : Store Held} {links : Links} {root count : ℕ} (s : State f words keys σ links root count) where
  -- a record whose word 0 is not 0 is in use
  pub state_used : (x : Place) → in_pool f x ≡ true → word_zero f words x ≢ 0 → Used (σ x)
  state_used x pool h = subst Used (shown_at s x) (cell_used f words keys x pool h)

  -- an inner record whose word 0 is 0, where that of every lower one is not
  pub lowest_inner : (k n : ℕ) → in_pool f (inner_place k n) ≡ true → word_zero f words (inner_place k n) ≡ 0 → ((m : ℕ) → m < n → word_zero f words (inner_place k m) ≢ 0) → Lowest f σ (inner_place k) n
  lowest_inner k n pool zero lower = record {
    pool = pool;
    free = state_zero s (inner_place k n) pool zero;
    lower = λ m h. state_used (inner_place k m) (and_both (both (leb k 4) (ltb n (get_or f.caps k 0)) pool).0 (lt-ltb m _ (omega (arith, number_few f (inner_place k n) pool)))) (lower m h);
  }

  -- and the leaf that is found
  pub lowest_leaf : (n : ℕ) → lowest_free f words 5 ≡ n → lowest_free f words 5 < get_or f.caps 5 0 → Lowest f σ leaf_place n
  lowest_leaf n e room =
      let q = free_leaf f words room in
      subst (Lowest f σ leaf_place) e (record {
        pool = q.0;
        free = state_zero s (leaf_place (lowest_free f words 5)) q.0 q.1;
        lower = λ m h. state_used (leaf_place m) (lt-ltb m _ (omega arith)) (lowest_used f words (leaf_place m) h);
      })
