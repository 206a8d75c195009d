use native.Mathlib.Omega.{arith}
use Rattle.frames.proofs.KindFor.{past_start, past_at, past_on, past_end}
use Rattle.frames.proofs.kind.kind_for.Goals as goal

pub loop-kind-init : goal.loop-kind-init
loop-kind-init c = past_start _

pub returns-then-children-row : goal.returns-then-children-row
returns-then-children-row c = past_at _ c.loop-kind.invariant c.loop-kind.auto.kind c.loop-kind-test.true c.row_of-row.ensures (omega (arith, c.if-children-row.true))

pub loop-kind-preserved : goal.loop-kind-preserved
loop-kind-preserved c = past_on _ c.loop-kind.invariant c.loop-kind.auto.kind c.loop-kind-test.true c.row_of-row.ensures (omega (arith, c.if-children-row.false))

pub returns : goal.returns
returns c = past_end _ c.loop-kind.invariant c.loop-kind-test.false (c.loop-kind.auto.kind-end (omega arith))
