-- `representation::lookup_child` meets its contract: the body is the part of the record after its head.
use Rattle.records.specs.Own.{child_at}
use Rattle.records.proofs.Owns.{body_length}
use Rattle.records.proofs.representation.lookup_child.Goals as goal

pub body_child-requires : goal.body_child-requires
body_child-requires c = rw (c.body_part.ensures, c.num-n.ensures.0) (c.requires.0, (body_length c.args.form c.args.kind c.args.rec.now c.requires.1.0, c.requires.1.1))

pub returns : goal.returns
unfolding child_at
returns c = rw (← c.body_part.ensures, ← c.num-n.ensures.0) c.body_child.ensures
