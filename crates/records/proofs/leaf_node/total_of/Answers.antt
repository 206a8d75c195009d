-- `leaf_node::total_of` meets its contract: both halves are below 2^32, so their sum fits 64 bits.
use Rattle.records.specs.Own.{total_of}
use Rattle.records.proofs.leaf_node.total_of.Goals as goal

pub returns : goal.returns
unfolding total_of
returns c = cc
