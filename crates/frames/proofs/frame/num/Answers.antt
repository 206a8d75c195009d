-- `frame::num` meets its contract: a word is below 2^32, so it keeps its value as a size.
use mathlib.Core.Path.{refl}
use native.Mathlib.Omega.{arith}
use Rattle.frames.proofs.frame.num.Goals as goal

pub overflow_cast-result : goal.overflow_cast-result
overflow_cast-result c = omega (arith, c.shared_slice_known-1.given c.args.i)

pub returns : goal.returns
returns c = (refl, omega (arith, c.shared_slice_known-1.given c.args.i))
