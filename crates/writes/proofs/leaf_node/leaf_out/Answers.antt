-- `leaf_node::leaf_out` meets its contract: each write leaves the frame as it was, so that the next one can be made.
use Rattle.writes.proofs.Spots.{leaf_out_by}
use Rattle.writes.proofs.Kept.{keys_kept}
use Rattle.writes.proofs.leaf_node.leaf_out.Goals as goal

pub link_gap-requires : goal.link_gap-requires
link_gap-requires c = (search keys_kept, search)

pub returns : goal.returns
returns c = (search leaf_out_by, search)
