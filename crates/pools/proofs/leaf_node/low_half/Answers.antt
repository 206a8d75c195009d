-- `leaf_node::low_half` meets its contract: a remainder by 2 ^ 32 fits a word, and is the low half.
use mathlib.Core.Path.{refl}
use Rattle.pools.proofs.leaf_node.low_half.Goals as goal

pub returns : goal.returns
returns c = refl
