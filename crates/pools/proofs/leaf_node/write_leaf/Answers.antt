-- `leaf_node::write_leaf` meets its contract: the six words are built by value and copied.
use Rattle.pools.specs.Leaf.{leaf_words}
use Rattle.pools.proofs.leaf_node.write_leaf.Goals as goal

pub returns : goal.returns
unfolding leaf_words
returns c = rw (← c.low_half.ensures, ← c.high_half.ensures) c.copy_from_slice.ensures.after
