-- `Block::trailer_word` meets its contract: the words of a block have a trailer.
use Rattle.frames.proofs.Frames.{totals}
use Rattle.frames.proofs.block.Block.trailer_word.Goals as goal

pub trailer_word-requires : goal.trailer_word-requires
trailer_word-requires c = ((totals _ _ c.args.self.now.framed.fits).long, c.requires)
