-- The cycle of `check_record` and `check_row`: each return is a case of the definition that goes by turns.
use Rattle.std.proofs.Common.{◌∙◌, arith}
use Rattle.whole.proofs.Turning.{row_next, record_stops, some_left, row_ready, row_sees, record_closes, row_over, row_stops, child_next, child_visited, child_sees, row_breaks, row_goes}
use Rattle.whole.proofs.well_formed.+check_record_check_row.Goals as goal

-- ── a record ──
pub check_record-returns-in-Break : goal.check_record-returns-in-Break
check_record-returns-in-Break t c = record_stops c.args.block.now.framed c.requires c.args.reference c.turn_at.ensures c.in-Break.is

pub check_record-overflow_sub-left : goal.check_record-overflow_sub-left
check_record-overflow_sub-left t c = omega (arith, some_left (row_next c.args.block.now.framed c.requires c.args.reference c.turn_at.ensures c.in-Continue.is))

pub check_record-check_row-v-requires : goal.check_record-check_row-v-requires
check_record-check_row-v-requires t c =
    let h = row_next c.args.block.now.framed c.requires c.args.reference c.turn_at.ensures c.in-Continue.is in
    (omega (arith, some_left h), row_ready h)

pub check_record-record_end-requires : goal.check_record-record_end-requires
check_record-record_end-requires t c =
    let h = row_next c.args.block.now.framed c.requires c.args.reference c.turn_at.ensures c.in-Continue.is in
    ((row_ready h).there, row_sees h c.check_row-v.ensures)

pub check_record-returns-in-Continue : goal.check_record-returns-in-Continue
check_record-returns-in-Continue t c = record_closes (row_next c.args.block.now.framed c.requires c.args.reference c.turn_at.ensures c.in-Continue.is) c.check_row-v.ensures c.record_end.ensures

-- ── a row ──
pub check_row-returns-in_default : goal.check_row-returns-in_default
check_row-returns-in_default t c = row_stops c.loop-places_left.invariant c.row_child-c.ensures c.in_default.is c.row_end.ensures

pub check_row-child_end-requires : goal.check_row-child_end-requires
check_row-child_end-requires t c =
    let g = c.loop-places_left.invariant in
    let h = child_visited (child_next g c.row_child-c.ensures c.in-Some.is) c.check_record-v.ensures c.check_record-v.auto.marks in
    (g.ready.witness, child_sees h)

pub check_row-returns-in_err-w : goal.check_row-returns-in_err-w
check_row-returns-in_err-w t c =
    let h = child_visited (child_next c.loop-places_left.invariant c.row_child-c.ensures c.in-Some.is) c.check_record-v.ensures c.check_record-v.auto.marks in
    let a = row_breaks h c.child_end.ensures c.in_err-w.was in
    (c.from_residual.ensures ∙ a.0, a.1)

pub check_row-overflow_sub-places_left-in-loop-places_left-2 : goal.check_row-overflow_sub-places_left-in-loop-places_left-2
check_row-overflow_sub-places_left-in-loop-places_left-2 t c = omega (arith, (child_next c.loop-places_left.invariant c.row_child-c.ensures c.in-Some.is).starts.byte)

pub check_row-loop-places_left-smaller : goal.check_row-loop-places_left-smaller
check_row-loop-places_left-smaller t c =
    let s = (child_next c.loop-places_left.invariant c.row_child-c.ensures c.in-Some.is).starts in
    omega (arith, s.low, s.byte)

pub check_row-loop-places_left-preserved : goal.check_row-loop-places_left-preserved
check_row-loop-places_left-preserved t c =
    let h = child_visited (child_next c.loop-places_left.invariant c.row_child-c.ensures c.in-Some.is) c.check_record-v.ensures c.check_record-v.auto.marks in
    row_goes h c.child_end.ensures c.in_ok-w.was

pub check_row-returns : goal.check_row-returns
check_row-returns t c = row_over c.loop-places_left.invariant c.loop-places_left-test.false c.row_end-2.ensures
