-- `inner_node_indirect::tally` meets its contract: the counts are those of the slot numbers so far; numbers past 48 count in one place that no one reads.
use Rattle.records.proofs.Slots.{Tally}
use Rattle.records.proofs.inner_node_indirect.tally.Given as goal

abbrev pub invariant-loop-slot : goal.invariant-loop-slot
invariant-loop-slot l = Tally l.slots l.t l.slot-index
