-- `inner_node_indirect::indirect_ok` meets its contract: three tests of two parts of the body.
use Prim.Native.Nat.{ℕ}
use mathlib.Core.Path.{◌≡◌}
use mathlib.Core.List.{List}
use mathlib.Core.Bool.{Bool, ◌&&◌}
use lib.Dec.{eqb}
use Rattle.lists.specs.Scan.{at_most, nonzero, all_pass, how_many}
use Rattle.frames.specs.Kind.{slot_places}
use Rattle.records.specs.Own.{slot_numbers, slot_refs, named, indirect_ok}
use Rattle.records.proofs.inner_node_indirect.indirect_ok.Goals as goal

three_tests : (body : List ℕ) (n : ℕ) {low ok : Bool} {m : ℕ} → low ≡ all_pass (at_most slot_places) (slot_numbers body) → m ≡ how_many nonzero (slot_refs body)
    → ok ≡ named (slot_numbers body) 0 (slot_refs body) → low && eqb m n && ok ≡ indirect_ok body n
unfolding indirect_ok
three_tests body n a b c = rw (a, b, c)

pub returns : goal.returns
returns c = three_tests c.args.body.now _ c.all_at_most-low.ensures c.count_nonzero-m.ensures c.places_named-ok.ensures
