-- `representation::body_change` meets its contract: by the kind, whose rule says that there is a free place, or where the child stands.
use mathlib.Core.Path.{◌≡◌, ap, ◌∙◌}
use native.Mathlib.Omega.{arith}
use lib.ListN.{set}
use borrow.Author.Tests.{le-leb}
use Rattle.records.proofs.Owns.{sorted_fits, indirect_fits, direct_fits}
use Rattle.edits.specs.Body.{body_change}
use Rattle.edits.proofs.Rooms.{needs_as, sorted_room, slot_room, empty_room}
use Rattle.edits.proofs.representation.body_change.Goals as goal

pub indirect_change-requires : goal.indirect_change-requires
indirect_change-requires c = let w = c.requires.0 in
    let three = c.in-3.is in
    ((omega arith, (indirect_fits w three).0), needs_as (empty_room w three) (λ h. slot_room w c.args.byte h three (omega arith)) c.args.change c.requires.1)

pub direct_set-requires : goal.direct_set-requires
direct_set-requires c = (omega arith, (direct_fits c.requires.0 (omega (arith, c.requires.0.high))).0)

pub sorted_change-requires : goal.sorted_change-requires
sorted_change-requires c = let w = c.requires.0 in
    let k = c.children_of.ensures in
    (omega (arith, k, (sorted_fits w (omega arith)).0, w.few), needs_as (λ r. omega (arith, k, r)) (λ h. sorted_room w c.args.byte h (omega arith)) c.args.change c.requires.1)

pub returns-in-3 : goal.returns-in-3
unfolding body_change
returns-in-3 c = rw c.in-3.is c.indirect_change.ensures

pub returns-in-0-to-2 : goal.returns-in-0-to-2
unfolding body_change
returns-in-0-to-2 c = simp (le-leb c.args.kind 2 (omega arith), ← c.children_of.ensures, c.sorted_change.ensures)

pub returns-in_default : goal.returns-in_default
unfolding body_change
returns-in_default c = let a = c.args in
    let four : a.kind ≡ 4 = omega (arith, c.requires.0.high) in
    rw four (c.direct_set.ensures ∙ ap (set a.body.now a.byte) c.reference_in.ensures)
