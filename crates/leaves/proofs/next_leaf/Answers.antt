-- `leaves::next_leaf` meets its contract: the next reference is read from a leaf that lies within the words, and each way out is a case of `next_from`.
use mathlib.Core.Path.{sym, ap, ◌∙◌}
use Rattle.std.proofs.lemmas.Result.{err_from_is_err_and}
use Rattle.records.specs.Words.{next_leaf_word}
use Rattle.leaves.specs.Leaf.{next_of}
use Rattle.tree.proofs.Arrivals.{frame_out}
use Rattle.leaves.proofs.Leaves.{good_leaf, good_record, next_by}
use Rattle.leaves.proofs.next_leaf.Goals as goal

pub returns-in_err-block : goal.returns-in_err-block
returns-in_err-block c = let p = err_from_is_err_and c.from_residual.result c.from_residual.ensures.1 in
    let e = c.in_err-block.ensures in
    rw (p.1, p.2, e.refused) (frame_out _ _ _ _ (sym e.fits))

pub returns-in_err-start : goal.returns-in_err-start
returns-in_err-start c = let p = err_from_is_err_and c.from_residual-in_err-start.result c.from_residual-in_err-start.ensures.1 in
    let e = c.in_ok-block.ensures.lent in
    rw (p.1, p.2, ← e.0, ← e.1) (next_by c.in_ok-block.block.framed _ _ (sym c.in_err-start.ensures))

pub leaf_words-requires : goal.leaf_words-requires
leaf_words-requires c = (good_leaf c.in_ok-block.block.framed _ _ (sym c.in_ok-start.ensures)).there.room

pub returns : goal.returns
returns c = let w = c.in_ok-block.block.framed in
    let g = sym c.in_ok-start.ensures in
    let e = c.in_ok-block.ensures.lent in
    rw (← e.0, ← e.1)
    (c.next_of.ensures
    ∙ ap (next_of _ _) (c.next.ensures ∙ ap next_leaf_word (c.leaf_words.ensures.0 ∙ sym (good_record (good_leaf w _ _ g))))
    ∙ next_by w _ _ g)
