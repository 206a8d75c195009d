use mathlib.Core.Path.{ap, ◌∙◌}
use native.Mathlib.Omega.{arith}
use Rattle.tree.specs.Walk.{ended_of}
use Rattle.tree.proofs.Walks.{walking_ends, walking_spent, walking_on}
use Rattle.tree.proofs.lookup.walk.Goals as goal

pub loop-left-preserved : goal.loop-left-preserved
loop-left-preserved c = walking_on c.loop-left.invariant c.step_at-step.ensures c.in-Continue.is (omega arith)

pub returns-in_default : goal.returns-in_default
returns-in_default c = c.ended.ensures ∙ ap ended_of c.in_default.is ∙ walking_ends c.loop-left.invariant c.step_at-step.ensures c.in_default.is

pub returns-in-Continue : goal.returns-in-Continue
returns-in-Continue c = walking_spent c.loop-left.invariant c.step_at-step.ensures c.in-Continue.is (omega arith)
