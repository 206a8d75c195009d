-- `inner_node_indirect::indirect_replace` meets its contract: the place that the byte's slot names is written.
use Rattle.edits.specs.Body.{slot_replace}
use Rattle.edits.proofs.inner_node_indirect.indirect_replace.Goals as goal

pub returns : goal.returns
unfolding slot_replace
returns c = rw (← c.num-slot.ensures.0)
