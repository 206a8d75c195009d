-- `frame::backs_match` meets its contract: five words against the five distances.
use Rattle.frames.proofs.frame.backs_match.Goals as goal

pub returns : goal.returns
returns c = rw (c.num-t1.ensures.0, c.num-t2.ensures.0, c.num-t3.ensures.0, c.num-t4.ensures.0, c.num-t5.ensures.0)
