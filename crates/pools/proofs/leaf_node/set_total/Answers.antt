-- `leaf_node::set_total` meets its contract: the two halves in their words.
use Rattle.pools.specs.Leaf.{set_total}
use Rattle.pools.proofs.leaf_node.set_total.Goals as goal

pub returns : goal.returns
unfolding set_total
returns c = rw (c.low_half.ensures, c.high_half.ensures)
