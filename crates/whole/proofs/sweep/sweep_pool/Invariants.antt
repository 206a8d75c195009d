-- `sweep::sweep_pool` meets its contract: the records before `i` were reached, or are blank.
use Prim.Native.Nat.{◌+◌, ◌*◌}
use mathlib.Core.Path.{◌≡◌}
use mathlib.Core.Bool.{true}
use Rattle.frames.specs.Place.{place_at}
use Rattle.whole.specs.Sweep.{all_under, swept_at}
use Rattle.whole.proofs.sweep.sweep_pool.Given as goal

abbrev pub invariant-loop-i : goal.invariant-loop-i
invariant-loop-i l = all_under l.i (λ j. swept_at l.block.frame l.block.words.now l.block.keys.now l.marks (place_at (j * 8 + l.kind))) ≡ true
