-- `directory_c::tag_start` meets its contract: the leaf's number by the limit of the frame's form.
use native.Mathlib.Nat.{mul-le-mul}
use native.Mathlib.Omega.{arith}
use Prim.Native.Nat.{◌≤◌}
use Rattle.frames.proofs.Frames.{limit_small}
use Rattle.directory_c.proofs.tag_start.Goals as goal

pub overflow_mul-result : goal.overflow_mul-result
overflow_mul-result c = omega (arith, mul-le-mul (let h : c.args.leaf ≤ 4294967295 = omega arith in h) (limit_small c.in-Ok.block.framed))
