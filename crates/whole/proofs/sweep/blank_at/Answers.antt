-- `sweep::blank_at` meets its contract: a reference of kind 5 names a leaf, any other an inner record, and a record of a pool lies within the slices.
use Rattle.std.proofs.Common.{arith}
use Rattle.whole.proofs.Sweeping.{record_here, leaf_within, inner_within}
use Rattle.whole.proofs.sweep.blank_at.Goals as goal

pub overflow_add-z : goal.overflow_add-z
overflow_add-z c = omega (arith, leaf_within (record_here c.args.block.now.framed c.requires c.start_at-start.ensures) c.if-reference-eq-LEAF.true)

pub slice_bounds-bytes_zero-end : goal.slice_bounds-bytes_zero-end
slice_bounds-bytes_zero-end c = omega (arith, leaf_within (record_here c.args.block.now.framed c.requires c.start_at-start.ensures) c.if-reference-eq-LEAF.true)

pub offset_bounds-block-start : goal.offset_bounds-block-start
offset_bounds-block-start c = omega (arith, leaf_within (record_here c.args.block.now.framed c.requires c.start_at-start.ensures) c.if-reference-eq-LEAF.true)

pub slice_bounds-all_at_most-end : goal.slice_bounds-all_at_most-end
slice_bounds-all_at_most-end c = omega (arith, leaf_within (record_here c.args.block.now.framed c.requires c.start_at-start.ensures) c.if-reference-eq-LEAF.true)

pub record_words-requires : goal.record_words-requires
record_words-requires c = (inner_within (record_here c.args.block.now.framed c.requires c.start_at-start.ensures) c.if-reference-eq-LEAF.false).0

pub overflow_add-z-2 : goal.overflow_add-z-2
overflow_add-z-2 c = omega (arith, inner_within (record_here c.args.block.now.framed c.requires c.start_at-start.ensures) c.if-reference-eq-LEAF.false, c.record_words.ensures.0)

pub offset_bounds-block-start-2 : goal.offset_bounds-block-start-2
offset_bounds-block-start-2 c = omega (arith, inner_within (record_here c.args.block.now.framed c.requires c.start_at-start.ensures) c.if-reference-eq-LEAF.false, c.record_words.ensures.0)

pub slice_bounds-all_at_most-end-2 : goal.slice_bounds-all_at_most-end-2
slice_bounds-all_at_most-end-2 c = omega (arith, inner_within (record_here c.args.block.now.framed c.requires c.start_at-start.ensures) c.if-reference-eq-LEAF.false, c.record_words.ensures.0)
