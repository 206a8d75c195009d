-- `inner_node_sorted::sorted_child` meets its contract: the reference stands beside the first key that is the byte.
use borrow.Author.Tests.{lt-ltb, le-ltb}
use Rattle.records.specs.Own.{sorted_child}
use Rattle.records.proofs.inner_node_sorted.sorted_child.Goals as goal

pub returns-then-i-n : goal.returns-then-i-n
unfolding sorted_child
returns-then-i-n c = simp (← c.first_equal-i.ensures, lt-ltb _ _ c.if-i-n.true)

pub returns-else-i-n : goal.returns-else-i-n
unfolding sorted_child
returns-else-i-n c = simp (← c.first_equal-i.ensures, le-ltb _ _ c.if-i-n.false)
