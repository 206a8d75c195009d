-- `inner_node_sorted::sorted_fill` meets its contract: before each byte the body is that of the row of the lower places.
use Rattle.edits.specs.Body.{sorted_body}
use Rattle.edits.proofs.Fills.{Filling}
use Rattle.edits.proofs.inner_node_sorted.sorted_fill.Given as goal

abbrev pub invariant-loop-byte : goal.invariant-loop-byte
invariant-loop-byte l = Filling (sorted_body l.k) l.reference-items l.body l.byte l.used
