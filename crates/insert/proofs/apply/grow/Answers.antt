-- `apply::grow` meets its contract: each write leaves the frame as it was, so that the next one can be made.
use Rattle.writes.proofs.Spots.{here_place}
use Rattle.insert.proofs.Made.{grow_moved, grow_room, grow_added, grow_freed, grow_above, grow_linked, grow_framed}
use Rattle.insert.proofs.apply.grow.Goals as goal

pub change_at-requires : goal.change_at-requires
change_at-requires c = (search grow_moved, search grow_room)

pub clear_at-requires : goal.clear_at-requires
clear_at-requires c = (search grow_added, search here_place)

pub link_up-requires : goal.link_up-requires
link_up-requires c = (search (grow_freed c.requires.1 c.requires.0), search (grow_above c.requires.1 c.requires.0))

pub returns : goal.returns
returns c = (search grow_linked, search grow_framed)
