-- `leaf_node::leaf_in` meets its contract: each write leaves the frame as it was, so that the next one can be made.
use mathlib.Core.Path.{refl}
use native.Mathlib.Omega.{arith}
use Rattle.points.proofs.Here.{leaf_small}
use Rattle.writes.proofs.Spots.{tag_fits, leaf_in_by}
use Rattle.writes.proofs.Kept.{keys_kept}
use Rattle.writes.proofs.leaf_node.leaf_in.Goals as goal

pub reference_to-reference-requires : goal.reference_to-reference-requires
reference_to-reference-requires c = (omega arith, search leaf_small)

pub link_gap-requires : goal.link_gap-requires
link_gap-requires c = (search keys_kept, search)

pub overflow_cast-tag : goal.overflow_cast-tag
overflow_cast-tag c = search tag_fits

pub returns : goal.returns
returns c = let linked = c.link_gap in (search (leaf_in_by _ _ _ _ linked.ensures.0 refl), search)
