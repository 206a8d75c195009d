-- `cut_under` meets its contract: two children merge, a count at or below the mark and one shrinks, and any other stays.
use Prim.Native.Nat.{◌%◌}
use mathlib.Core.Path.{ap}
use native.Mathlib.Omega.{arith}
use Rattle.frames.specs.declared.kind.KindRow.{KindRow}
use Rattle.frames.proofs.KindTable.{kind_rules}
use Rattle.points.proofs.Here.{here_kind}
use Rattle.delete.proofs.Planning.{mark_two, under_two, under_low, under_stay}
use Rattle.delete.proofs.plan.cut_under.Goals as goal

pub returns-then-n-le2 : goal.returns-then-n-le2
returns-then-n-le2 c = under_two _ _ _ _ _ c.children_at-n.ensures c.if-n-le2.true c.merge_cut.ensures

pub row_of-row-requires : goal.row_of-row-requires
row_of-row-requires c = here_kind _ c.requires

pub overflow_add-row : goal.overflow_add-row
overflow_add-row c = let k = here_kind c.args.reference c.requires in
    let r = kind_rules (c.args.reference % 8) k.0 k.1 in
    omega (arith, ap (λ (x : KindRow). x.mark) c.row_of-row.ensures, r.mark, r.rise, r.most)

pub shrink_cut-requires : goal.shrink_cut-requires
shrink_cut-requires c = let k = here_kind c.args.reference c.requires in
    (mark_two (c.args.reference % 8) k.0 k.1 (omega (arith, ap (λ (x : KindRow). x.mark) c.row_of-row.ensures, c.if-n-row.true, c.if-n-le2.false)), k.1)

pub returns-then-n-row : goal.returns-then-n-row
returns-then-n-row c = under_low _ _ _ _ _ c.children_at-n.ensures c.if-n-le2.false c.row_of-row.ensures c.if-n-row.true c.shrink_cut.ensures

pub returns : goal.returns
returns c = under_stay _ _ _ _ _ c.children_at-n.ensures c.if-n-le2.false c.row_of-row.ensures c.if-n-row.false
