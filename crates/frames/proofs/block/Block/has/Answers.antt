-- `Block::has` meets its contract: the frame of a block has pools.
use Rattle.frames.proofs.Frames.{framed}
use Rattle.frames.proofs.block.Block.has.Goals as goal

pub in_pool-requires : goal.in_pool-requires
in_pool-requires c = framed c.args.self.now.framed
