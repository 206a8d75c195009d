-- `inner_node_sorted::sorted_replace` meets its contract: the reference stands as many places after the first half as the byte in it.
use Rattle.edits.specs.Body.{sorted_replace}
use Rattle.edits.proofs.inner_node_sorted.sorted_replace.Goals as goal

pub returns : goal.returns
unfolding sorted_replace
returns c = rw (← c.first_equal-i.ensures)
