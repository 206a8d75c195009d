-- `representation::body_from` meets its contract: by the kind; in kinds 3 and 4 the first word from the byte on that is not 0 is the child's.
use mathlib.Core.Path.{◌∙◌}
use native.Mathlib.Omega.{arith}
use borrow.Author.Tests.{le-leb}
use Rattle.records.specs.Row.{body_row}
use Rattle.records.proofs.Owns.{sorted_fits}
use Rattle.records.proofs.Rows.{row_within, row_from}
use Rattle.records.proofs.RowRules.{body_scanned}
use Rattle.records.proofs.representation.body_from.Goals as goal

pub sorted_from-requires : goal.sorted_from-requires
sorted_from-requires c = omega (arith, c.requires.1.few, sorted_fits c.requires.1 (omega arith), c.children_of.ensures)

pub slice_bounds-first_at_least-end : goal.slice_bounds-first_at_least-end
slice_bounds-first_at_least-end c = (body_scanned c.requires.1 (omega arith)).short

pub overflow_add-byte : goal.overflow_add-byte
overflow_add-byte c = omega (arith, row_within (body_scanned c.requires.1 (omega arith)) c.args.byte _ c.requires.0 c.first_at_least-i.ensures)

pub returns-in-0-to-2 : goal.returns-in-0-to-2
unfolding body_row
returns-in-0-to-2 c = simp (le-leb c.args.kind 2 (omega arith), ← c.children_of.ensures, c.sorted_from.ensures)

pub returns-in_default : goal.returns-in_default
returns-in_default c = c.body_entry.ensures ∙ row_from (body_scanned c.requires.1 (omega arith)) c.args.byte _ c.requires.0 c.first_at_least-i.ensures
