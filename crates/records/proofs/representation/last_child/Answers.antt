-- `representation::last_child` meets its contract: the body obeys its part of the record's rule, with two children or more.
use native.Mathlib.Omega.{arith}
use Rattle.records.proofs.Owns.{inner_rule, body_fits}
use Rattle.records.proofs.representation.last_child.Goals as goal

pub body_last-requires : goal.body_last-requires
body_last-requires c = rw (c.body_part.ensures, c.num-n.ensures.0) (omega (arith, (inner_rule _ _ _ c.requires.ok).head.two), body_fits c.requires)

pub returns : goal.returns
returns c = rw (← c.body_part.ensures, ← c.num-n.ensures.0) c.body_last.ensures
