-- `pools::lowest_free` meets its contract: the records before the n-th are not free, and the n-th begins n records after the pool's first word.
use lib.ListN.{get_or}
use Rattle.pools.proofs.Lowest.{Lowest}
use Rattle.pools.proofs.pools.lowest_free.Given as goal

abbrev pub invariant-loop-n : goal.invariant-loop-n
invariant-loop-n l = let f = l.block.frame in Lowest l.block.words.now (get_or f.starts l.kind 0) (get_or f.sizes l.kind 0) (get_or f.caps l.kind 0) l.at l.n
