-- `check::from_root` meets its contract: a root of 0 is none, and before the first leaf nothing is seen.
use native.Mathlib.Omega.{arith}
use Rattle.frames.proofs.Frames.{limit_small}
use Rattle.whole.proofs.Calls.{root_none, root_goes}
use Rattle.whole.proofs.check.from_root.Goals as goal

pub returns-then-root-eq0 : goal.returns-then-root-eq0
returns-then-root-eq0 c = let b = c.args.block.now in
    root_none b.frame b.words.now b.keys.now c.args.marks.now c.trailer_word-root.ensures c.trailer_word.ensures c.if-root-eq0.true

pub check_record-requires : goal.check_record-requires
check_record-requires c = record { counted = omega arith; shallow = omega (arith, limit_small c.args.block.now.framed) }

pub returns : goal.returns
returns c = let b = c.args.block.now in
    let r = c.check_record.ensures in
    root_goes b.frame b.words.now b.keys.now c.args.marks.now c.trailer_word-root.ensures c.trailer_word.ensures c.if-root-eq0.false r.0 r.1
