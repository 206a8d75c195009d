-- `merge_cut` meets its contract: of the record's two children the other one is left.
use Prim.Native.Nat.{◌%◌}
use mathlib.Core.Path.{sym, ap, ◌∙◌}
use Rattle.records.specs.Row.{row_at}
use Rattle.delete.specs.Plan.{other_entry, merge_cut}
use Rattle.delete.proofs.plan.merge_cut.Goals as goal

pub returns-in_default : goal.returns-in_default
returns-in_default c = let a = c.args in
    let block = a.block.now in
    ap (merge_cut a.upper a.reference a.byte)
    (sym c.in_default.is ∙ c.other_entry-entry.ensures ∙ ap (λ rec. other_entry a.byte (row_at block.frame.form (a.reference % 8) rec)) c.inner_at-rec.ensures.0)

pub returns : goal.returns
returns c = let a = c.args in
    let block = a.block.now in
    ap (merge_cut a.upper a.reference a.byte)
    (sym c.in-Some.is ∙ c.other_entry-entry.ensures ∙ ap (λ rec. other_entry a.byte (row_at block.frame.form (a.reference % 8) rec)) c.inner_at-rec.ensures.0)
