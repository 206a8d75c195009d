-- `sweep::sweep` meets its contract: there are five pools.
use Rattle.whole.proofs.Sweeping.{swept_by}
use Rattle.whole.proofs.sweep.sweep.Goals as goal

pub returns : goal.returns
returns c = let b = c.args.block.now in
    swept_by b.frame b.words.now b.keys.now c.args.marks.now c.sweep_pool-a.ensures c.sweep_pool-b.ensures c.sweep_pool-c.ensures c.sweep_pool-d.ensures c.sweep_pool-e.ensures
