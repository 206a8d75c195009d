-- `inner_node_indirect::indirect_remove` meets its contract: the byte's slot and the place that it named become 0, and no other word changes.
use native.Mathlib.Omega.{arith}
use lib.ListN.{length-set}
use Rattle.edits.specs.Body.{slot_remove}
use Rattle.edits.proofs.inner_node_indirect.indirect_remove.Goals as goal

pub bounds-body-hole : goal.bounds-body-hole
bounds-body-hole c = simp length-set (omega (arith, c.num-slot.ensures.0))

pub returns : goal.returns
unfolding slot_remove
returns c = rw (← c.num-slot.ensures.0)
