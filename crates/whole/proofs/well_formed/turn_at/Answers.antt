-- `well_formed::turn_at` meets its contract: a record that is not fresh ends the way.
use mathlib.Core.Path.{subst, sym, ◌∙◌}
use Rattle.frames.proofs.Frames.{framed}
use Rattle.whole.specs.Arrive.{There}
use Rattle.whole.proofs.Arrivals.{there}
use Rattle.whole.proofs.Marking.{fresh_room}
use Rattle.whole.proofs.Turning.{turn_new, turn_old}
use native.Mathlib.Omega.{arith}
use Rattle.whole.proofs.well_formed.turn_at.Goals as goal

pub reach-requires : goal.reach-requires
reach-requires c = framed c.args.block.now.framed

pub turn_of-requires : goal.turn_of-requires
turn_of-requires c = let a = c.args in
    let b = a.block.now in
    let e = sym c.reach.ensures.0 ∙ c.if-reach.true in (
      subst (There b.frame b.words.now) (sym c.arrive-a.ensures) (there b.framed a.left _),
      (omega (arith, fresh_room b.frame a.reference a.marks.now e), omega (arith, c.requires.shallow)),
    )

pub returns-then-reach : goal.returns-then-reach
returns-then-reach c = let a = c.args in
    let b = a.block.now in (
      turn_new b.frame b.words.now b.keys.now a.left a.reference a.depth a.marks.now a.s (sym c.reach.ensures.0 ∙ c.if-reach.true) c.arrive-a.ensures c.turn_of.ensures,
      c.reach.ensures.1,
    )

pub returns : goal.returns
returns c = let a = c.args in
    let b = a.block.now in (
      turn_old b.frame b.words.now b.keys.now a.left a.reference a.depth a.marks.now a.s (sym c.reach.ensures.0 ∙ c.if-reach.false),
      c.reach.ensures.1,
    )
