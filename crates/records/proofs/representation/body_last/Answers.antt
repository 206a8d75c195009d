-- `representation::body_last` meets its contract: by the kind; a sorted row's last child is its number n - 1, and in kinds 3 and 4 the last word that is not 0 is the last child's.
use mathlib.Core.Path.{sym, ◌∙◌}
use native.Mathlib.Omega.{arith}
use borrow.Author.Tests.{le-leb}
use Rattle.records.specs.Row.{body_row}
use Rattle.records.proofs.Owns.{sorted_fits}
use Rattle.records.proofs.Rows.{sorted_last, row_none, row_last}
use Rattle.records.proofs.RowRules.{body_scanned}
use Rattle.records.proofs.representation.body_last.Goals as goal

pub sorted_entry-requires : goal.sorted_entry-requires
sorted_entry-requires c = omega (arith, c.requires.1.few, sorted_fits c.requires.1 c.if-kind-le2.true, c.children_of.ensures)

pub slice_bounds-past_nonzero-end : goal.slice_bounds-past_nonzero-end
slice_bounds-past_nonzero-end c = (body_scanned c.requires.1 c.if-kind-le2.false).short

pub returns-then-kind-le2 : goal.returns-then-kind-le2
unfolding body_row
returns-then-kind-le2 c = let a = c.args in
    let k = c.children_of.ensures in
    simp (le-leb _ _ c.if-kind-le2.true, ← k) (c.sorted_entry.ensures ∙ sym (sorted_last c.children_of.result a.body.now a.n (omega (arith, sorted_fits c.requires.1 c.if-kind-le2.true, k)) (omega (arith, c.requires.1.few, k))))

pub returns-then-end-eq0 : goal.returns-then-end-eq0
returns-then-end-eq0 c = row_none (body_scanned c.requires.1 c.if-kind-le2.false) _ c.past_nonzero-end.ensures c.if-end-eq0.true

pub returns : goal.returns
returns c = c.body_entry.ensures ∙ row_last (body_scanned c.requires.1 c.if-kind-le2.false) _ c.past_nonzero-end.ensures c.if-end-eq0.false
