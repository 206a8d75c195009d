-- `frame::start_at` meets its contract: a place of a pool has a first word that is a small number.
use native.Mathlib.Omega.{arith}
use Rattle.frames.proofs.Places.{start_by, start_small}
use Rattle.frames.proofs.frame.start_at.Goals as goal

pub overflow_mul-result : goal.overflow_mul-result
overflow_mul-result c = omega (arith, start_small c.requires.0 c.args.reference c.requires.1)

pub overflow_add-result : goal.overflow_add-result
overflow_add-result c = omega (arith, start_small c.requires.0 c.args.reference c.requires.1)

pub returns : goal.returns
returns c = start_by c.args.f.now c.args.reference
