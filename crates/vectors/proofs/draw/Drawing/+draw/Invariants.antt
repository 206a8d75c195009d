-- `draw` is safe and ends: each call goes down with one record fewer left.
use Prim.Native.Nat.{◌<◌}
use Rattle.vectors.proofs.draw.Drawing.+draw.Given as goal

abbrev pub decreases-draw : goal.decreases-draw
decreases-draw g l = l.left

abbrev pub invariant-loop-i : goal.invariant-loop-i
invariant-loop-i g l = 0 < l.left
