-- `leaf_node::link_gap` meets its contract: each link leaves the frame as it was, so that the next one can be set.
use Rattle.view.proofs.Links.{next_fits, previous_fits}
use Rattle.writes.proofs.Spots.{fits_words}
use Rattle.writes.proofs.leaf_node.link_gap.Goals as goal

pub set_previous-requires : goal.set_previous-requires
set_previous-requires c = search (fits_words, next_fits)

pub returns : goal.returns
returns c = (cc, search (fits_words, next_fits, previous_fits))
