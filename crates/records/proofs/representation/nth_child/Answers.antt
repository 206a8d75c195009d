-- `representation::nth_child` meets its contract: the body obeys its part of the record's rule.
use Rattle.records.proofs.Owns.{body_fits}
use Rattle.records.proofs.representation.nth_child.Goals as goal

pub body_nth-requires : goal.body_nth-requires
body_nth-requires c = rw (c.body_part.ensures, c.num-n.ensures.0) (body_fits c.requires)

pub returns : goal.returns
returns c = rw (← c.body_part.ensures, ← c.num-n.ensures.0) c.body_nth.ensures
