-- `pools::smallest_free` meets its contract: no kind before the present one has a free record.
use Rattle.pools.proofs.Lowest.{Smallest}
use Rattle.pools.proofs.pools.smallest_free.Given as goal

abbrev pub invariant-loop-k : goal.invariant-loop-k
invariant-loop-k l = Smallest l.block.frame l.block.words.now l.kind l.k
