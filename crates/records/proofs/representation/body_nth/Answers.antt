-- `representation::body_nth` meets its contract: by the kind; in kinds 3 and 4 the n-th word that is not 0 is the n-th child's.
use mathlib.Core.Path.{◌∙◌}
use native.Mathlib.Omega.{arith}
use borrow.Author.Tests.{le-leb}
use Rattle.records.specs.Row.{body_row}
use Rattle.records.proofs.Owns.{sorted_fits}
use Rattle.records.proofs.Rows.{row_at}
use Rattle.records.proofs.RowRules.{body_scanned}
use Rattle.records.proofs.representation.body_nth.Goals as goal

pub sorted_entry-requires : goal.sorted_entry-requires
sorted_entry-requires c = omega (arith, c.requires.few, sorted_fits c.requires (omega arith), c.children_of.ensures)

pub slice_bounds-nth_nonzero-end : goal.slice_bounds-nth_nonzero-end
slice_bounds-nth_nonzero-end c = (body_scanned c.requires (omega arith)).short

pub returns-in-0-to-2 : goal.returns-in-0-to-2
unfolding body_row
returns-in-0-to-2 c = simp (le-leb c.args.kind 2 (omega arith), ← c.children_of.ensures, c.sorted_entry.ensures)

pub returns-in_default : goal.returns-in_default
returns-in_default c = c.body_entry.ensures ∙ row_at (body_scanned c.requires (omega arith)) c.args.i _ c.nth_nonzero.ensures
