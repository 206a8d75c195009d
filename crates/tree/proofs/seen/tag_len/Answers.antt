-- `seen::tag_len` meets its contract: a leaf that obeys its rule lies within the words, and its length is at most the limit.
use native.Mathlib.Omega.{arith}
use Rattle.tree.proofs.Leaves.{seen_room, seen_length}
use Rattle.tree.proofs.seen.tag_len.Goals as goal

pub overflow_add-e : goal.overflow_add-e
overflow_add-e c = omega (arith, seen_room c.args.block.now.framed c.requires c.start_at-start.result c.start_at-start.ensures)

pub offset_bounds-block-start : goal.offset_bounds-block-start
offset_bounds-block-start c = omega (arith, seen_room c.args.block.now.framed c.requires c.start_at-start.result c.start_at-start.ensures)

pub slice_bounds-tag_len-end : goal.slice_bounds-tag_len-end
slice_bounds-tag_len-end c = omega (arith, seen_room c.args.block.now.framed c.requires c.start_at-start.result c.start_at-start.ensures)

pub returns : goal.returns
returns c = let s = c.start_at-start in
    seen_length c.args.block.now.framed c.requires s.result s.ensures c.tag_len.result c.tag_len.ensures.0
