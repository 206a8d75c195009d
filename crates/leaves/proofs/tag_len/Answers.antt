-- `leaves::tag_len` meets its contract: the length is read from the leaf's words.
use mathlib.Core.Path.{sym, ap, ◌∙◌}
use Rattle.records.specs.Words.{tag_length}
use Rattle.leaves.proofs.Leaves.{good_leaf, good_record, len_by}
use Rattle.leaves.proofs.tag_len.Goals as goal

pub leaf_words-requires : goal.leaf_words-requires
leaf_words-requires c = (good_leaf c.args.block.now.framed _ _ (sym c.in-Ok.ensures)).there.room

pub returns-in-Ok : goal.returns-in-Ok
returns-in-Ok c = let w = c.args.block.now.framed in
    let e = sym c.in-Ok.ensures in
    c.tag_len.ensures.0 ∙ ap tag_length (c.leaf_words.ensures.0 ∙ sym (good_record (good_leaf w _ _ e))) ∙ len_by w _ _ e

pub returns-in-Err : goal.returns-in-Err
returns-in-Err c = len_by c.args.block.now.framed _ _ (sym c.in-Err.ensures)
