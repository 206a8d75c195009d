use native.Mathlib.Omega.{arith}
use Rattle.tree.proofs.Edges.{descending_ends, descending_spent, descending_on}
use Rattle.tree.proofs.minmax.edge_walk.Goals as goal

pub loop-left-preserved : goal.loop-left-preserved
loop-left-preserved c = descending_on c.loop-left.invariant c.edge_step.ensures c.in-Continue.is (omega arith)

pub returns-in-Break : goal.returns-in-Break
returns-in-Break c = descending_ends c.loop-left.invariant c.edge_step.ensures c.in-Break.is

pub returns-in-Continue : goal.returns-in-Continue
returns-in-Continue c = descending_spent c.loop-left.invariant c.edge_step.ensures c.in-Continue.is (omega arith)
