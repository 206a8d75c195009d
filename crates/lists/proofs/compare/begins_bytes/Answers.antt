use native.Mathlib.Omega.{arith}
use Rattle.lists.proofs.Compares.{begins_long, begins_start, begins_on, begins_end}
use Rattle.lists.proofs.compare.begins_bytes.Goals as goal

pub returns-then-t-s : goal.returns-then-t-s
returns-then-t-s c = begins_long c.args.s.now c.args.t.now c.if-t-s.true

pub loop-i-init : goal.loop-i-init
loop-i-init c = begins_start c.if-t-s.false

pub bounds-t-i : goal.bounds-t-i
bounds-t-i c = omega (arith, c.loop-i.invariant.fits)

pub loop-i-preserved : goal.loop-i-preserved
loop-i-preserved c = begins_on c.loop-i.invariant c.loop-i-test.true

pub returns : goal.returns
returns c = begins_end c.loop-i.invariant c.loop-i-test.false
