use native.Mathlib.Omega.{arith}
use Rattle.records.proofs.Slots.{tally_start, tally_few, tally_on, tally_end}
use Rattle.records.proofs.inner_node_indirect.tally.Goals as goal

pub loop-slot-init : goal.loop-slot-init
loop-slot-init c = tally_start

pub overflow_add-t : goal.overflow_add-t
overflow_add-t c = omega (arith, tally_few c.loop-slot.invariant c.slot_of.result c.slot_of.ensures.1)

pub loop-slot-preserved : goal.loop-slot-preserved
loop-slot-preserved c = tally_on c.loop-slot.invariant _ c.slot_of.ensures.0 (omega arith)

pub returns : goal.returns
returns c = tally_end c.loop-slot.invariant (omega arith)
