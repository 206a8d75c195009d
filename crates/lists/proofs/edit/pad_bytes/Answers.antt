use mathlib.Core.Path.{refl}
use native.Mathlib.Omega.{arith}
use lib.ListN.{length}
use Rattle.lists.specs.Edit.{padded}
use Rattle.lists.proofs.Built.{built_start, built_on, built_end}
use Rattle.lists.proofs.Edits.{padded_length, padded_at}
use Rattle.lists.proofs.edit.pad_bytes.Goals as goal

pub loop-j-init : goal.loop-j-init
loop-j-init c = built_start refl

pub bounds-to-j : goal.bounds-to-j
bounds-to-j c = omega (arith, c.loop-j.invariant.long, c.loop-j-test.true, c.requires)

pub loop-j-preserved : goal.loop-j-preserved
loop-j-preserved c = built_on c.loop-j.invariant _ c.byte_at.ensures (omega (arith, c.loop-j-test.true, c.requires))

pub shape_of-to : goal.shape_of-to
shape_of-to c = c.loop-j.invariant.long

pub returns : goal.returns
returns c = let n = length c.args.to.now in
    let l = c.args.from.now in
    built_end c.loop-j.invariant (omega (arith, c.loop-j-test.false)) (padded n l) (padded_length n l c.requires) (λ k h. padded_at n l k)
