-- `representation::inner_ok` meets its contract: a child count within the kind's lets the body be tested.
use native.Mathlib.Omega.{arith}
use borrow.Author.Tests.{le-leb, lt-leb}
use Rattle.records.specs.Own.{inner_ok}
use Rattle.records.proofs.Owns.{body_length}
use Rattle.records.proofs.representation.inner_ok.Goals as goal

pub body_ok-body-requires : goal.body_ok-body-requires
body_ok-body-requires c = rw c.body_part.ensures (c.requires.0, (body_length c.args.form c.args.kind c.args.rec.now c.requires.1, omega (arith, c.children_of.ensures)))

pub returns-then-n-children_of : goal.returns-then-n-children_of
unfolding inner_ok
returns-then-n-children_of c = simp (← c.children_of.ensures, ← c.num-n.ensures.0, le-leb _ _ c.if-n-children_of.true, c.head_ok-head.ensures, c.body_ok-body.ensures, c.body_part.ensures)

pub returns-else-n-children_of : goal.returns-else-n-children_of
unfolding inner_ok
returns-else-n-children_of c = simp (← c.children_of.ensures, ← c.num-n.ensures.0, lt-leb _ _ c.if-n-children_of.false)
