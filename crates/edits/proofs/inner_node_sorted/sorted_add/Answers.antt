-- `inner_node_sorted::sorted_add` meets its contract: byte and reference are shifted in at the same place, the one in the first half of the body, the other in the second.
use Prim.Native.Nat.{◌-◌, ◌+◌}
use mathlib.Core.List.{◌++◌}
use mathlib.Core.Path.{ap, ◌∙◌}
use native.Mathlib.Omega.{arith}
use lib.ListN.{length-take}
use Rattle.lists.specs.Scan.{at_least}
use Rattle.lists.specs.Edit.{shift_in}
use Rattle.lists.specs.Part.{between, splice}
use Rattle.edits.specs.Body.{sorted_add}
use Rattle.lists.proofs.Pieces.{first_within, later_length, both_halves}
use Rattle.edits.proofs.inner_node_sorted.sorted_add.Goals as goal

pub shift_in-requires : goal.shift_in-requires
shift_in-requires c = omega (arith, length-take (c.args.k - 0) c.args.body.now, first_within (at_least c.args.byte) c.args.body.now c.args.n c.first_at_least-i.result (omega arith) c.first_at_least-i.ensures)

pub shift_in-requires-2 : goal.shift_in-requires-2
unfolding splice
shift_in-requires-2 c = let b = c.args.body.now in
    let k = c.args.k in
    omega (arith, later_length b k (k + k) c.shift_in.new.s (omega arith) c.requires.1 c.shift_in.auto.s, first_within (at_least c.args.byte) b c.args.n c.first_at_least-i.result (omega arith) c.first_at_least-i.ensures)

pub returns : goal.returns
unfolding sorted_add splice
returns c = let b = c.args.body.now in
    let k = c.args.k in
    let i = c.first_at_least-i.result in
    both_halves b k (k + k) c.shift_in.new.s (omega arith) c.requires.1 c.shift_in.auto.s (shift_in i c.args.byte) (shift_in i c.args.reference) c.shift_in-2.new.s c.shift_in.ensures c.shift_in-2.ensures
    ∙ ap (λ j. shift_in j c.args.byte (between b 0 k) ++ shift_in j c.args.reference (between b k (k + k))) c.first_at_least-i.ensures
