-- `leaves::next_of` meets its contract: each return is a case of `next_of`; a leaf of the pool lies within the words.
use mathlib.Core.Path.{ap, ◌∙◌}
use Rattle.records.specs.Words.{used_as}
use Rattle.tree.proofs.Arrivals.{fails, holds, leaf_named, inner_named, leaf_in}
use Rattle.leaves.proofs.Leaves.{next_none, next_inner, next_outside, next_unused, next_found}
use Rattle.leaves.proofs.next_of.Goals as goal

pub returns-then-next-eq0 : goal.returns-then-next-eq0
returns-then-next-eq0 c = next_none _ _ _ c.if-next-eq0.true

pub returns-then-next-ne-LEAF : goal.returns-then-next-ne-LEAF
returns-then-next-ne-LEAF c = next_inner _ _ _ c.if-next-eq0.false _ _ (inner_named c.args.next c.if-next-ne-LEAF.true)

pub returns-then-not-has : goal.returns-then-not-has
returns-then-not-has c = next_outside _ _ _ c.if-next-eq0.false _ (leaf_named c.args.next c.if-next-ne-LEAF.false) (fails c.has.ensures c.if-not-has.true)

pub leaf_words-requires : goal.leaf_words-requires
leaf_words-requires c = (leaf_in c.args.block.now.framed _ _ _ (leaf_named c.args.next c.if-next-ne-LEAF.false) c.start_at-start.ensures (holds c.has.ensures c.if-not-has.false)).0

pub returns-then-used_as-ne1 : goal.returns-then-used_as-ne1
returns-then-used_as-ne1 c = next_unused _ _ _ c.if-next-eq0.false _ (leaf_named c.args.next c.if-next-ne-LEAF.false) (holds c.has.ensures c.if-not-has.false) _ c.start_at-start.ensures
    (c.used_as.ensures ∙ ap used_as c.leaf_words.ensures.0) c.if-used_as-ne1.true

pub returns : goal.returns
returns c = c.leaf_found.ensures
    ∙ next_found _ _ _ c.if-next-eq0.false _ (leaf_named c.args.next c.if-next-ne-LEAF.false) (holds c.has.ensures c.if-not-has.false) _ c.start_at-start.ensures
    (c.used_as.ensures ∙ ap used_as c.leaf_words.ensures.0) c.if-used_as-ne1.false
