-- `apply::apply_out` meets its contract: the tree, then the list and the leaf, then the tag count, which was read first.
use Prim.Native.Nat.{◌-◌}
use mathlib.Core.Path.{ap, ◌∙◌}
use native.Mathlib.Omega.{arith}
use Rattle.frames.proofs.Frames.{totals}
use Rattle.pools.specs.Link.{set_trailer}
use Rattle.writes.specs.Leaf.{leaf_out}
use Rattle.delete.specs.Apply.{pruned, gone_words}
use Rattle.delete.proofs.apply.apply_out.Goals as goal

pub trailer_word-count-requires : goal.trailer_word-count-requires
trailer_word-count-requires c = ((totals _ _ c.requires.0.fits).long, omega arith)

pub set_trailer-requires : goal.set_trailer-requires
set_trailer-requires c = (omega (arith, c.leaf_out.auto.words, (totals _ _ c.prune.ensures.1.fits).long), omega arith)

pub returns : goal.returns
unfolding gone_words
returns c = let a = c.args in
    let g = a.gap in
    let leaf = leaf_out a.f a.n g.previous g.next in
    (c.set_trailer.ensures ∙ ap (set_trailer 14 (c.trailer_word-count.result - 1)) (c.leaf_out.ensures.0 ∙ ap leaf c.prune.ensures.0) ∙ ap (λ n. set_trailer 14 (n - 1) (leaf (pruned a.f a.cut a.words.now))) c.trailer_word-count.ensures, c.leaf_out.ensures.1)
