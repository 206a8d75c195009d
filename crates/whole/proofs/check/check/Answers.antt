-- `check::check` meets its contract: each return is a case of `check_of`, which the block answers as its slices do.
use Rattle.std.proofs.Common.{true, false, sym, ◌∙◌, arith, rules}
use Rattle.frames.proofs.Frames.{framed}
use Rattle.whole.proofs.Calls.{check_unframed, check_short, check_finished, check_lent}
use Rattle.whole.proofs.check.check.Goals as goal

pub returns-in_err-block : goal.returns-in_err-block
returns-in_err-block c =
    let e = c.in_err-block.ensures in
    check_unframed c.args.words.now c.args.keys.now c.args.scratch.now (sym e.fits) (search (rules, e.refused, c.from_residual.ensures))

pub places_in-n-requires : goal.places_in-n-requires
places_in-n-requires c = framed c.in_ok-block.block.framed

pub returns-then-scratch-n : goal.returns-then-scratch-n
returns-then-scratch-n c =
    check_short c.args.scratch.now c.in_ok-block.block.framed (omega (arith, c.places_in-n.ensures)) ∙ check_lent c.args.scratch.now c.in_ok-block.ensures.lent

-- the marks are cleared again
pub returns-then-sound : goal.returns-then-sound
returns-then-sound c =
    check_finished
    record {
      frame = c.in_ok-block.block.framed;
      places = c.places_in-n.ensures;
      room = omega arith;
      sound = c.whole_anew-sound.ensures.0;
      long = c.whole_anew-sound.ensures.1;
      zeros = c.fill.ensures.after (λ y e. e);
    } true c.if-sound.true
    ∙ check_lent c.args.scratch.now c.in_ok-block.ensures.lent

pub returns : goal.returns
returns c =
    check_finished
    record {
      frame = c.in_ok-block.block.framed;
      places = c.places_in-n.ensures;
      room = omega arith;
      sound = c.whole_anew-sound.ensures.0;
      long = c.whole_anew-sound.ensures.1;
      zeros = c.fill.ensures.after (λ y e. e);
    } false c.if-sound.false
    ∙ check_lent c.args.scratch.now c.in_ok-block.ensures.lent
