-- `representation::body_spread` meets its contract: by the kind.
use mathlib.Core.Path.{◌≡◌}
use native.Mathlib.Omega.{arith}
use borrow.Author.Tests.{le-leb}
use Rattle.records.proofs.Owns.{sorted_fits, indirect_fits, direct_fits}
use Rattle.edits.specs.Body.{body_spread}
use Rattle.edits.proofs.representation.body_spread.Goals as goal

pub indirect_spread-requires : goal.indirect_spread-requires
indirect_spread-requires c = (indirect_fits c.requires c.in-3.is).0

pub direct_spread-requires : goal.direct_spread-requires
direct_spread-requires c = (direct_fits c.requires (omega (arith, c.requires.high))).0

pub sorted_spread-requires : goal.sorted_spread-requires
sorted_spread-requires c = let e = c.children_of.ensures in
    let f = sorted_fits c.requires (omega arith) in
    (omega (arith, e, f.0, c.requires.few), rw e f.1)

pub returns-in-3 : goal.returns-in-3
unfolding body_spread
returns-in-3 c = rw c.in-3.is c.indirect_spread.ensures

pub returns-in-0-to-2 : goal.returns-in-0-to-2
unfolding body_spread
returns-in-0-to-2 c = simp (le-leb c.args.kind 2 (omega arith), ← c.children_of.ensures, c.sorted_spread.ensures)

pub returns-in_default : goal.returns-in_default
unfolding body_spread
returns-in_default c = let four : c.args.kind ≡ 4 = omega (arith, c.requires.high) in rw four c.direct_spread.ensures
