-- `frame::backs_of` meets its contract: each distance is the pool's words and the distance of the pool after it.
use native.Mathlib.Omega.{arith}
use Rattle.frames.proofs.frame.backs_of.Goals as goal

pub returns : goal.returns
returns c = (rw (c.pool-b5.ensures.0, c.pool.ensures.0, c.pool-2.ensures.0, c.pool-3.ensures.0, c.pool-4.ensures.0), omega arith)
