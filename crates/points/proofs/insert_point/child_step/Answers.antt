-- `insert_point::child_step` meets its contract, by the cases of `child_step`.
use Rattle.records.proofs.Owns.{inner_rule}
use Rattle.points.proofs.insert_point.child_step.Goals as goal

pub lookup_child-child-requires : goal.lookup_child-child-requires
lookup_child-child-requires c = let w = c.requires in ((w.low, w.high), (w.long, (inner_rule _ _ _ w.ok).few))
