use mathlib.Core.Path.{sym, ◌∙◌}
use native.Mathlib.Omega.{arith}
use Rattle.points.proofs.Steps.{seeking_start, step_depth, point_next, point_end, point_over}
use Rattle.points.proofs.insert_point.search_for_insert_point.Goals as goal

pub loop-left-init : goal.loop-left-init
loop-left-init c = let block = c.args.block.now in seeking_start block.frame block.words.now block.keys.now c.args.tag.now c.args.root

pub step_at-requires : goal.step_at-requires
step_at-requires c = c.loop-left.invariant.within

pub returns-in-Break : goal.returns-in-Break
returns-in-Break c = sym (c.loop-left.invariant.same_answer ∙ point_end _ _ _ _ _ _ _ _ _ _ (sym c.step_at.ensures ∙ c.in-Break.is))

pub loop-left-preserved : goal.loop-left-preserved
loop-left-preserved c = let e = sym c.step_at.ensures ∙ c.in-Continue.is in
    record {
      within = step_depth _ _ _ _ _ _ _ _ _ _ _ _ e;
      same_answer = c.loop-left.invariant.same_answer ∙ point_next _ _ _ _ _ _ _ _ _ _ _ _ (omega arith) e;
    }

pub returns-in-Continue : goal.returns-in-Continue
returns-in-Continue c = let e = sym c.step_at.ensures ∙ c.in-Continue.is in
    sym (c.loop-left.invariant.same_answer ∙ point_over _ _ _ _ _ _ _ _ _ _ _ _ (omega arith) e)
