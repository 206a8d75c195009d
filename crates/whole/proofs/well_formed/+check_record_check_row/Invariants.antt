-- The cycle of `check_record` and `check_row`: at each turn of a row's loop the row with the places left answers what the whole row does.
-- The records left on the path fall: the measures are 2 for each, and one more for a row; in a row's loop the places left fall.
use Rattle.std.proofs.Common.{◌+◌, ◌*◌}
use Rattle.whole.proofs.Turning.{Going}
use Rattle.whole.proofs.well_formed.+check_record_check_row.Given as goal

abbrev pub decreases-check_record : goal.decreases-check_record
decreases-check_record l = 2 * l.left

abbrev pub decreases-check_row : goal.decreases-check_row
decreases-check_row l = 2 * l.left + 1

abbrev pub invariant-check_row-loop-places_left : goal.invariant-check_row-loop-places_left
invariant-check_row-loop-places_left l = Going l.block.frame l.block.words.now l.block.keys.now l.left l.row l.fn.marks l.fn.s l.places_left l.w l.marks l.seen

abbrev pub decreases-check_row-loop-places_left : goal.decreases-check_row-loop-places_left
decreases-check_row-loop-places_left l = l.places_left
