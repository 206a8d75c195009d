-- `Block::start_at` meets its contract: the frame of a block has pools.
use Rattle.frames.proofs.Frames.{framed}
use Rattle.frames.proofs.block.Block.start_at.Goals as goal

pub start_at-requires : goal.start_at-requires
start_at-requires c = (framed c.args.self.now.framed, c.requires)
