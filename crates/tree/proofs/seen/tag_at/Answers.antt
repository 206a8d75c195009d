-- `seen::tag_at` meets its contract: the tag is the front of the leaf's key bytes.
use native.Mathlib.Omega.{arith}
use Rattle.tree.proofs.Leaves.{seen_bytes, seen_tag}
use Rattle.tree.proofs.seen.tag_at.Goals as goal

pub slice_bounds-result-end : goal.slice_bounds-result-end
slice_bounds-result-end c = omega (arith, seen_bytes c.args.block.now.framed c.requires)

pub returns : goal.returns
returns c = let block = c.args.block.now in
    seen_tag block.frame block.words.now block.keys.now c.args.leaf c.tag_len.result c.tag_len.ensures.0 c.tag_len.ensures.1
