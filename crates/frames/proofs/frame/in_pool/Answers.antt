-- `frame::in_pool` meets its contract: kinds without records have capacity 0, so the number below the capacity tells it all.
use Rattle.frames.proofs.Places.{pool_by}
use Rattle.frames.proofs.frame.in_pool.Goals as goal

pub returns : goal.returns
returns c = pool_by c.args.f.now c.args.reference c.requires
