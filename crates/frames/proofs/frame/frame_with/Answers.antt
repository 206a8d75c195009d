-- `frame::frame_with` meets its contract: each pool starts where the one before it ends.
use Rattle.frames.proofs.frame.frame_with.Goals as goal

pub returns : goal.returns
returns c = rw (c.pool-s2.ensures.0, c.pool.ensures.0, c.pool-2.ensures.0, c.pool-3.ensures.0)
