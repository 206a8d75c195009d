-- `representation::body_ok` meets its contract: by the kind, whose table row gives the body's length.
use mathlib.Core.Path.{◌≡◌}
use native.Mathlib.Omega.{arith}
use borrow.Author.Tests.{le-leb}
use Rattle.records.specs.Own.{body_ok}
use Rattle.frames.proofs.KindTable.{sorted_words, kind_3, kind_4}
use Rattle.records.proofs.representation.body_ok.Goals as goal

pub indirect_ok-requires : goal.indirect_ok-requires
indirect_ok-requires c = omega (arith, kind_3 c.args.kind c.in-3.is)

pub sorted_ok-requires : goal.sorted_ok-requires
sorted_ok-requires c = omega (arith, c.children_of.ensures, sorted_words c.args.kind c.requires.0.0 (omega arith))

pub direct_ok-requires : goal.direct_ok-requires
direct_ok-requires c = omega (arith, kind_4 c.args.kind (omega arith))

pub returns-in-3 : goal.returns-in-3
unfolding body_ok
returns-in-3 c = rw c.in-3.is c.indirect_ok.ensures

pub returns-in-0-to-2 : goal.returns-in-0-to-2
unfolding body_ok
returns-in-0-to-2 c = simp (le-leb c.args.kind 2 (omega arith), ← c.children_of.ensures, c.sorted_ok.ensures)

pub returns-in_default : goal.returns-in_default
unfolding body_ok
returns-in_default c = let four : c.args.kind ≡ 4 = omega arith in rw four c.direct_ok.ensures
