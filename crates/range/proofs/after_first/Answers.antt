-- `after_first` meets its contract: each turn is a step of `after_from`.
use mathlib.Core.Path.{sym, ◌∙◌}
use native.Mathlib.Omega.{arith}
use Rattle.range.proofs.Steps.{after_next, after_end, after_over}
use Rattle.range.proofs.after_first.Goals as goal

pub returns-in-Break : goal.returns-in-Break
returns-in-Break c = sym (c.loop.invariant ∙ after_end _ _ _ _ _ _ (omega arith) (sym c.step_at.ensures ∙ c.in-Break.is))

pub loop-preserved : goal.loop-preserved
loop-preserved c = c.loop.invariant ∙ after_next _ _ _ _ _ (omega arith) (sym c.step_at.ensures ∙ c.in-Continue.is)

pub returns-in-Continue : goal.returns-in-Continue
returns-in-Continue c = sym (c.loop.invariant ∙ after_over _ _ _ _ _ (omega arith) (sym c.step_at.ensures ∙ c.in-Continue.is))
