-- `representation::spread_of` meets its contract: the body obeys its part of the record's rule.
use Rattle.records.proofs.Owns.{body_fits}
use Rattle.edits.specs.Record.{spread_of}
use Rattle.edits.proofs.representation.spread_of.Goals as goal

pub body_spread-requires : goal.body_spread-requires
body_spread-requires c = rw (c.body_part.ensures, c.num-n.ensures.0) (body_fits c.requires)

pub returns : goal.returns
unfolding spread_of
returns c = rw (← c.body_part.ensures, ← c.num-n.ensures.0) c.body_spread.ensures
