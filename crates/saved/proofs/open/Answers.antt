-- `open` meets its contract: the words of a block have room where they are lent, since its file has 60,000 bytes at most.
use Rattle.saved.proofs.Blocks.{open_other, lent_there, lent_fits, open_block}
use borrow.Author.Rules.{rules}
use Rattle.saved.proofs.open.Goals as goal

pub returns-in_err-n : goal.returns-in_err-n
returns-in_err-n c = open_other _ _ c.block_of.ensures c.from_residual.ensures c.in_err-n.was

pub slice_bounds-take_words-end : goal.slice_bounds-take_words-end
slice_bounds-take_words-end c = search (lent_there _ _ c.block_of.ensures c.requires c.in_ok-n.was, rules)

pub take_words-requires : goal.take_words-requires
take_words-requires c = lent_fits _ _ c.block_of.ensures c.requires c.in_ok-n.was

pub returns : goal.returns
returns c = open_block _ _ c.block_of.ensures c.requires c.in_ok-n.was c.take_words.ensures
