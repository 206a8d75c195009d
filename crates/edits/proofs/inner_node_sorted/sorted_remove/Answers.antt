-- `inner_node_sorted::sorted_remove` meets its contract: byte and reference are shifted out at the same place of the two halves.
use Prim.Native.Nat.{◌+◌}
use mathlib.Core.List.{◌++◌}
use mathlib.Core.Path.{ap, ◌∙◌}
use native.Mathlib.Omega.{arith}
use Rattle.lists.specs.Edit.{shift_out}
use Rattle.lists.specs.Part.{between, splice}
use Rattle.edits.specs.Body.{sorted_remove}
use Rattle.lists.proofs.Pieces.{both_halves}
use Rattle.edits.proofs.inner_node_sorted.sorted_remove.Goals as goal

pub returns : goal.returns
unfolding sorted_remove splice
returns c = let b = c.args.body.now in
    let k = c.args.k in
    let i = c.first_equal-i.result in
    both_halves b k (k + k) c.shift_out.new.s (omega arith) c.requires.0.1 c.shift_out.auto.s (shift_out i) (shift_out i) c.shift_out-2.new.s c.shift_out.ensures c.shift_out-2.ensures
    ∙ ap (λ j. shift_out j (between b 0 k) ++ shift_out j (between b k (k + k))) c.first_equal-i.ensures
