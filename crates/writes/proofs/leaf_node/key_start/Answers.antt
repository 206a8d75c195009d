-- `leaf_node::key_start` meets its contract: a leaf's key bytes have their room.
use mathlib.Core.Path.{refl}
use native.Mathlib.Omega.{arith}
use Rattle.frames.proofs.Places.{leaf_room}
use Rattle.writes.proofs.leaf_node.key_start.Goals as goal

pub overflow_mul-result : goal.overflow_mul-result
overflow_mul-result c = omega (arith, leaf_room c.requires.0 c.args.n c.requires.1)

pub returns : goal.returns
returns c = (refl, leaf_room c.requires.0 c.args.n c.requires.1)
