-- `inner_node_indirect::indirect_fill` meets its contract: before each byte the body is that of the row of the lower places, so that the slots are numbered in byte order.
use Rattle.edits.specs.Body.{slot_body}
use Rattle.edits.proofs.Fills.{Filling}
use Rattle.edits.proofs.inner_node_indirect.indirect_fill.Given as goal

abbrev pub invariant-loop-byte : goal.invariant-loop-byte
invariant-loop-byte l = Filling slot_body l.reference-items l.body l.byte l.used
