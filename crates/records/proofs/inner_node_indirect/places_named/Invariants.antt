-- `inner_node_indirect::places_named` meets its contract: the places so far passed, so what is left decides; a place's count is how often it is named.
use Rattle.records.proofs.Slots.{Named}
use Rattle.records.proofs.inner_node_indirect.places_named.Given as goal

abbrev pub invariant-loop-place : goal.invariant-loop-place
invariant-loop-place l = Named l.slots l.refs l.place
