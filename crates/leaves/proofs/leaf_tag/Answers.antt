-- `leaves::leaf_tag` meets its contract: a tag with bytes is a good leaf's, and lies within its key bytes.
use mathlib.Core.Path.{sym, ap, ◌∙◌}
use native.Mathlib.Omega.{arith}
use lib.ListN.{length}
use Rattle.tree.proofs.Arrivals.{frame_out}
use Rattle.leaves.proofs.Leaves.{tag_short, tag_part, tag_by}
use Rattle.leaves.proofs.leaf_tag.Goals as goal

pub returns-in_default : goal.returns-in_default
returns-in_default c = frame_out _ _ _ _ (sym c.in_default.ensures.fits)

pub returns-then-n-eq0 : goal.returns-then-n-eq0
returns-then-n-eq0 c = let e = c.in-Ok.ensures.lent in
    rw (← e.0, ← e.1) (tag_by c.in-Ok.block.framed _ 0 (sym c.if-n-eq0.true ∙ c.tag_len-n.ensures))

pub overflow_add-result : goal.overflow_add-result
overflow_add-result c = omega (arith, tag_short c.in-Ok.block.framed c.args.number (omega (arith, c.tag_len-n.ensures)), ap length c.in-Ok.ensures.lent.1)

pub slice_bounds-result-end-2 : goal.slice_bounds-result-end-2
slice_bounds-result-end-2 c = omega (arith, tag_short c.in-Ok.block.framed c.args.number (omega (arith, c.tag_len-n.ensures)), ap length c.in-Ok.ensures.lent.1)

pub returns : goal.returns
returns c = let n = c.args.number in
    let w = c.in-Ok.block.framed in
    let e = c.in-Ok.ensures.lent in
    let t = c.tag_len-n.ensures in
    rw (← e.0, ← e.1) (tag_part w n c.tag_len-n.result (omega (arith, t, tag_short w n (omega (arith, t)))) ∙ tag_by w n _ t)
