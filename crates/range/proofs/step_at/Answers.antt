-- `step_at` meets its contract: each return is a case of `step_of`, and a leaf of the pool lies within the slices.
use Rattle.tree.proofs.Arrivals.{fails, holds, leaf_named, leaf_in}
use Rattle.range.proofs.Steps.{step_end, step_other, step_outside, step_leaf}
use Rattle.range.proofs.step_at.Goals as goal

pub returns-then-reference-eq0 : goal.returns-then-reference-eq0
returns-then-reference-eq0 c = step_end _ _ _ _ _ c.if-reference-eq0.true

pub returns-then-reference-ne-LEAF : goal.returns-then-reference-ne-LEAF
returns-then-reference-ne-LEAF c = step_other _ _ _ _ _ c.if-reference-eq0.false c.if-reference-ne-LEAF.true

pub returns-then-not-has : goal.returns-then-not-has
returns-then-not-has c = step_outside _ _ _ _ _ c.if-reference-ne-LEAF.false (fails c.has.ensures c.if-not-has.true)

pub leaf_at-requires : goal.leaf_at-requires
leaf_at-requires c = leaf_in c.args.block.now.framed _ _ _ (leaf_named c.args.reference c.if-reference-ne-LEAF.false) c.start_at-start.ensures (holds c.has.ensures c.if-not-has.false)

pub returns : goal.returns
returns c = step_leaf _ _ _ _ _ c.if-reference-ne-LEAF.false (holds c.has.ensures c.if-not-has.false) c.start_at-start.ensures c.leaf_at.ensures
