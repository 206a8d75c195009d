-- `sweep::sweep_pool` meets its contract: the first record that was not reached and is not blank ends the loop, and without one the records before `i` are all.
use Rattle.std.proofs.Common.{arith, rules}
use Rattle.whole.proofs.Sweeping.{pool_small, pool_fails, pool_end}
use Rattle.whole.proofs.sweep.sweep_pool.Goals as goal

pub reference_to-reference-requires : goal.reference_to-reference-requires
reference_to-reference-requires c = (search rules, pool_small c.args.block.now.framed c.args.kind c.loop-i.i c.requires c.loop-i-test.true)

pub returns-then-not-swept_at : goal.returns-then-not-swept_at
returns-then-not-swept_at c = let b = c.args.block.now in
    pool_fails b.frame b.words.now b.keys.now c.args.marks.now c.args.kind c.loop-i.i c.loop-i-test.true c.reference_to-reference.ensures c.swept_at.ensures c.if-not-swept_at.true

pub returns : goal.returns
returns c = let b = c.args.block.now in
    pool_end b.frame b.words.now b.keys.now c.args.marks.now c.args.kind c.loop-i.i (omega arith) c.loop-i.invariant
