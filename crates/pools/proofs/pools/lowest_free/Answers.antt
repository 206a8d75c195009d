use native.Mathlib.Omega.{arith}
use Rattle.frames.proofs.Frames.{framed, framed_room, frame_room}
use Rattle.pools.specs.Pool.{lowest_free}
use Rattle.pools.proofs.Lowest.{lowest_on, lowest_at, lowest_end}
use Rattle.pools.proofs.pools.lowest_free.Goals as goal

pub offset_bounds-block-at : goal.offset_bounds-block-at
offset_bounds-block-at c = omega (arith, c.loop-n.invariant.here, framed_room (framed c.args.block.now.framed) c.loop-n.n c.args.kind (omega (arith, c.requires)) c.loop-n-test.true)

pub bounds-block-at : goal.bounds-block-at
bounds-block-at c = omega (arith, c.loop-n.invariant.here, frame_room c.args.block.now.framed c.loop-n.n c.args.kind (omega (arith, c.requires)) c.loop-n-test.true)

pub returns-then-block-at-eq0 : goal.returns-then-block-at-eq0
unfolding lowest_free
returns-then-block-at-eq0 c = lowest_at c.loop-n.invariant c.if-block-at-eq0.true c.loop-n-test.true

pub overflow_add-at : goal.overflow_add-at
overflow_add-at c = omega (arith, c.loop-n.invariant.here, frame_room c.args.block.now.framed c.loop-n.n c.args.kind (omega (arith, c.requires)) c.loop-n-test.true)

pub loop-n-preserved : goal.loop-n-preserved
loop-n-preserved c = lowest_on c.loop-n.invariant c.if-block-at-eq0.false c.loop-n-test.true

pub returns : goal.returns
unfolding lowest_free
returns c = lowest_end c.loop-n.invariant c.loop-n-test.false
