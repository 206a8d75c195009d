-- `check::whole` meets its contract: the way from the root, its end, and the sweep.
use Rattle.frames.proofs.Frames.{totals}
use Rattle.whole.proofs.Calls.{whole_by_lem}
use Rattle.whole.proofs.check.whole.Goals as goal

pub ended_well-ended-requires : goal.ended_well-ended-requires
ended_well-ended-requires c = (totals _ _ c.args.block.now.framed.fits).long

pub returns : goal.returns
returns c = let b = c.args.block.now in
    (whole_by_lem b.frame b.words.now b.keys.now c.from_root-v.ensures c.ended_well-ended.ensures c.sweep-swept.ensures, c.from_root-v.auto.marks)
