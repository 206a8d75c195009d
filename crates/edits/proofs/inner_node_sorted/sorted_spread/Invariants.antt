-- `inner_node_sorted::sorted_spread` meets its contract: after i turns the table is that of the first i children; as the bytes ascend, no turn writes where another did.
use mathlib.Core.Path.{◌≡◌}
use lib.ListN.{length}
use Rattle.edits.specs.Body.{sorted_spread}
use Rattle.edits.proofs.inner_node_sorted.sorted_spread.Given as goal

abbrev pub invariant-loop-i : goal.invariant-loop-i
invariant-loop-i l = (length l.places ≡ 256) × (l.places ≡ sorted_spread l.k l.body l.i)
