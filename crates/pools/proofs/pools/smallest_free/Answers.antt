use Rattle.pools.proofs.Lowest.{smallest_start, smallest_on}
use Rattle.pools.proofs.pools.smallest_free.Goals as goal

pub loop-k-init : goal.loop-k-init
loop-k-init c = smallest_start

pub loop-k-preserved : goal.loop-k-preserved
loop-k-preserved c = smallest_on c.loop-k.invariant _ c.lowest_free-n.ensures c.if-n-block.false c.loop-k-test.true
