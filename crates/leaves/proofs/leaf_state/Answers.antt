-- `leaves::leaf_state` meets its contract: each return is a case of `leaf_state`; a leaf of the pool lies within the slices.
use mathlib.Core.Path.{ap, ◌∙◌}
use native.Mathlib.Omega.{arith}
use borrow.Author.Tests.{le-ltb}
use Rattle.frames.proofs.Frames.{framed, caps_most}
use Rattle.frames.proofs.Places.{ref_leaf}
use Rattle.records.specs.Words.{used_as}
use Rattle.tree.proofs.Arrivals.{fails, holds, leaf_in}
use Rattle.leaves.proofs.Leaves.{ref_pooled, state_outside, state_free, state_broken, state_good}
use Rattle.leaves.proofs.leaf_state.Goals as goal

pub returns-then-block-number : goal.returns-then-block-number
returns-then-block-number c = state_outside _ _ _ _ (le-ltb _ _ c.if-block-number.true)

pub reference_to-reference-requires : goal.reference_to-reference-requires
reference_to-reference-requires c = (omega arith, omega (arith, c.if-block-number.false, caps_most (framed c.args.block.now.framed) 5 (omega arith)))

pub start_at-start-requires : goal.start_at-start-requires
start_at-start-requires c = ref_pooled c.args.block.now.frame c.reference_to-reference.ensures c.if-block-number.false

pub leaf_words-requires : goal.leaf_words-requires
leaf_words-requires c = let p = ref_pooled c.args.block.now.frame c.reference_to-reference.ensures c.if-block-number.false in
    (leaf_in c.args.block.now.framed _ _ _ (ref_leaf c.reference_to-reference.ensures) c.start_at-start.ensures p).0

pub returns-then-used_as-eq0 : goal.returns-then-used_as-eq0
returns-then-used_as-eq0 c = state_free _ _ _ _ c.reference_to-reference.ensures c.if-block-number.false _ c.start_at-start.ensures (c.used_as.ensures ∙ ap used_as c.leaf_words.ensures.0) c.if-used_as-eq0.true

pub rule_at-requires : goal.rule_at-requires
rule_at-requires c = ref_pooled c.args.block.now.frame c.reference_to-reference.ensures c.if-block-number.false

pub returns-then-not-rule_at : goal.returns-then-not-rule_at
returns-then-not-rule_at c = state_broken _ _ _ _ c.reference_to-reference.ensures c.if-block-number.false _ c.start_at-start.ensures (c.used_as.ensures ∙ ap used_as c.leaf_words.ensures.0) c.if-used_as-eq0.false
    (fails c.rule_at.ensures c.if-not-rule_at.true)

pub returns : goal.returns
returns c = state_good _ _ _ _ c.reference_to-reference.ensures c.if-block-number.false _ c.start_at-start.ensures (c.used_as.ensures ∙ ap used_as c.leaf_words.ensures.0) c.if-used_as-eq0.false
    (holds c.rule_at.ensures c.if-not-rule_at.false)
