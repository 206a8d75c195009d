-- `representation::child_from` meets its contract: the body obeys its part of the record's rule.
use Rattle.records.proofs.Owns.{body_fits}
use Rattle.records.proofs.representation.child_from.Goals as goal

pub body_from-requires : goal.body_from-requires
body_from-requires c = rw (c.body_part.ensures, c.num-n.ensures.0) (c.requires.0, body_fits c.requires.1)

pub returns : goal.returns
returns c = rw (← c.body_part.ensures, ← c.num-n.ensures.0) c.body_from.ensures
