-- `inner_node_indirect::indirect_spread` meets its contract: each byte gets the reference that its slot names.
use Rattle.lists.proofs.Built.{Built}
use Rattle.records.specs.Own.{indirect_child}
use Rattle.edits.proofs.inner_node_indirect.indirect_spread.Given as goal

abbrev pub invariant-loop-byte : goal.invariant-loop-byte
invariant-loop-byte l = Built (indirect_child l.body) 256 l.place-items l.byte
