-- `inner_node_indirect::indirect_add` meets its contract: the first place that is 0 is the lowest unused one.
use native.Mathlib.Omega.{arith}
use lib.ListN.{length-set}
use Rattle.edits.specs.Body.{slot_add}
use Rattle.edits.proofs.inner_node_indirect.indirect_add.Goals as goal

pub bounds-body-at : goal.bounds-body-at
bounds-body-at c = simp length-set (omega (arith, c.first_equal-s.ensures))

pub returns : goal.returns
unfolding slot_add
returns c = rw (← c.first_equal-s.ensures)
