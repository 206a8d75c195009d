-- `point_plan` meets its contract, by the cases of the point; the records that it names are there.
use mathlib.Core.Path.{sym, ap, subst, ◌∙◌}
use Rattle.points.specs.There.{PointThere}
use Rattle.delete.specs.Plan.{point_plan}
use Rattle.delete.proofs.Planning.{out_by, out_none}
use Rattle.delete.proofs.plan.point_plan.Goals as goal

pub cut_of-cut-requires : goal.cut_of-cut-requires
cut_of-cut-requires c = let b = c.args.block.now in
    (subst (PointThere b.frame b.words.now b.keys.now c.args.tag.now) c.in-Holds.is c.requires).above

pub gap_of-gap-requires : goal.gap_of-gap-requires
gap_of-gap-requires c = let b = c.args.block.now in
    (subst (PointThere b.frame b.words.now b.keys.now c.args.tag.now) c.in-Holds.is c.requires).seen.pool

pub returns-in-Holds : goal.returns-in-Holds
returns-in-Holds c = let b = c.args.block.now in
    out_by _ _ _ _ _ c.cut_of-cut.ensures c.gap_of-gap.ensures ∙ ap (point_plan b.frame b.words.now) (sym c.in-Holds.is)

pub returns-in-Clash : goal.returns-in-Clash
returns-in-Clash c = out_none _ _ c.in-Clash.is

pub returns-in-Broken : goal.returns-in-Broken
unfolding point_plan
returns-in-Broken c = let b = c.args.block.now in
    ap (point_plan b.frame b.words.now) (sym c.in-Broken.is)
