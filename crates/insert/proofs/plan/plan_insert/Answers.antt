-- `plan_insert` meets its contract: the first leaf becomes the root, and else the plan is made at the tag's point.
use mathlib.Core.Path.{sym, subst}
use native.Mathlib.Omega.{arith}
use Rattle.points.specs.There.{PointThere}
use Rattle.points.proofs.There.{point_there}
use Rattle.insert.proofs.Planning.{plan_root, plan_point}
use Rattle.insert.proofs.plan.plan_insert.Goals as goal

pub trailer_word-root-requires : goal.trailer_word-root-requires
trailer_word-root-requires c = omega arith

pub returns-then-root-eq0 : goal.returns-then-root-eq0
returns-then-root-eq0 c = plan_root _ _ _ _ c.trailer_word-root.ensures c.if-root-eq0.true c.leaf_plan.ensures

pub point_plan-requires : goal.point_plan-requires
point_plan-requires c = let b = c.args.block.now in
    subst (PointThere b.frame b.words.now b.keys.now c.args.tag.now) (sym c.search_for_insert_point-p.ensures) (point_there b.framed c.args.tag.now _)

pub returns : goal.returns
returns c = plan_point _ _ _ _ c.trailer_word-root.ensures c.if-root-eq0.false c.search_for_insert_point-p.ensures c.point_plan.ensures
