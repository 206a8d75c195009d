-- `representation::body_child` meets its contract: by the kind, whose table row gives the body's length.
use mathlib.Core.Path.{◌≡◌, refl}
use native.Mathlib.Omega.{arith}
use borrow.Author.Tests.{le-leb}
use Rattle.records.specs.Own.{child_of}
use Rattle.frames.proofs.KindTable.{sorted_words, kind_3, kind_4}
use Rattle.records.proofs.representation.body_child.Goals as goal

pub indirect_child-requires : goal.indirect_child-requires
indirect_child-requires c = omega (arith, kind_3 c.args.kind c.in-3.is)

pub sorted_child-requires : goal.sorted_child-requires
sorted_child-requires c = omega (arith, c.children_of.ensures, sorted_words c.args.kind c.requires.0.0 (omega arith))

pub bounds-body-byte : goal.bounds-body-byte
bounds-body-byte c = omega (arith, kind_4 c.args.kind (omega arith))

pub returns-in-3 : goal.returns-in-3
unfolding child_of
returns-in-3 c = rw c.in-3.is c.indirect_child.ensures

pub returns-in-0-to-2 : goal.returns-in-0-to-2
unfolding child_of
returns-in-0-to-2 c = simp (le-leb c.args.kind 2 (omega arith), ← c.children_of.ensures, c.sorted_child.ensures)

pub returns-in_default : goal.returns-in_default
unfolding child_of
returns-in_default c = let four : c.args.kind ≡ 4 = omega arith in rw four refl
