-- `frame::pool` meets its contract: a capacity of at most 4,096 times a size of at most 512 fits.
use mathlib.Core.Path.{refl}
use native.Mathlib.Omega.{arith}
use native.Mathlib.Nat.{mul-le-mul_right}
use Rattle.frames.proofs.frame.pool.Goals as goal

pub overflow_mul-result : goal.overflow_mul-result
overflow_mul-result c = omega (arith, mul-le-mul_right c.args.z c.requires.0)

pub returns : goal.returns
returns c = (refl, omega (arith, mul-le-mul_right c.args.z c.requires.0))
