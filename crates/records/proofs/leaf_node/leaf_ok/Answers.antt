-- `leaf_node::leaf_ok` meets its contract: a length within the limit lets the later key bytes be tested.
use borrow.Author.Tests.{le-leb, lt-leb}
use Rattle.records.specs.Own.{leaf_ok}
use Rattle.records.proofs.leaf_node.leaf_ok.Goals as goal

pub returns-then-n-limit : goal.returns-then-n-limit
unfolding leaf_ok
returns-then-n-limit c = simp (← c.tag_len-n.ensures.0, le-leb _ _ c.if-n-limit.true, c.bytes_zero-rest.ensures)

pub returns-else-n-limit : goal.returns-else-n-limit
unfolding leaf_ok
returns-else-n-limit c = simp (← c.tag_len-n.ensures.0, lt-leb _ _ c.if-n-limit.false)
