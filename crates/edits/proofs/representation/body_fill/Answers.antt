-- `representation::body_fill` meets its contract: by the kind; the table of kind 4 is its own row's.
use Prim.Native.Nat.{◌+◌}
use mathlib.Core.Path.{◌≡◌, sym, ap, ◌∙◌}
use native.Mathlib.Omega.{arith}
use lib.ListN.{length, replicate, length-replicate}
use borrow.Author.Tests.{le-leb}
use Rattle.frames.proofs.KindTable.{sorted_words, kind_3, kind_4}
use Rattle.edits.specs.Body.{body_of}
use Rattle.edits.proofs.Builds.{table_own}
use Rattle.edits.proofs.Rooms.{three_children}
use Rattle.edits.proofs.representation.body_fill.Goals as goal

pub indirect_fill-requires : goal.indirect_fill-requires
indirect_fill-requires c = let e = c.in-3.is in
    (c.requires.0.1 ∙ ap (λ n. replicate n 0) (kind_3 c.args.kind e), omega (arith, three_children c.args.kind e, c.requires.1))

pub direct_fill-requires : goal.direct_fill-requires
direct_fill-requires c = ap length c.requires.0.1 ∙ length-replicate _ 0 ∙ kind_4 c.args.kind (omega arith)

pub sorted_fill-requires : goal.sorted_fill-requires
sorted_fill-requires c = let e = c.children_of.ensures in
    (c.requires.0.1 ∙ ap (λ n. replicate n 0) (sorted_words c.args.kind c.requires.0.0.0 (omega arith)) ∙ ap (λ k. replicate (k + k) 0) (sym e), omega (arith, e, c.requires.1))

pub returns-in-3 : goal.returns-in-3
unfolding body_of
returns-in-3 c = rw c.in-3.is c.indirect_fill.ensures

pub returns-in-0-to-2 : goal.returns-in-0-to-2
unfolding body_of
returns-in-0-to-2 c = simp (le-leb c.args.kind 2 (omega arith), ← c.children_of.ensures, c.sorted_fill.ensures)

pub returns-in_default : goal.returns-in_default
unfolding body_of
returns-in_default c = let four : c.args.kind ≡ 4 = omega arith in
    rw four (c.direct_fill.ensures ∙ table_own c.args.places (omega arith))
