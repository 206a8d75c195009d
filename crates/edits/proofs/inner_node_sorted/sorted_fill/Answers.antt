use mathlib.Core.Path.{◌∙◌}
use native.Mathlib.Omega.{arith}
use Rattle.edits.proofs.Fills.{filling_start, filling_skip, filling_put, filling_end, sorted_none, sorted_puts}
use Rattle.edits.proofs.inner_node_sorted.sorted_fill.Goals as goal
use Rattle.edits.proofs.inner_node_sorted.sorted_fill.Goals.{then-reference-ne0, else-reference-ne0}

pub loop-byte-init : goal.loop-byte-init
loop-byte-init c = filling_start (c.requires.0 ∙ sorted_none _)

pub loop-byte-preserved : goal.loop-byte-preserved
loop-byte-preserved c = let f = c.loop-byte.invariant in
    let few = c.requires.1 in
    elim c.if-reference-ne0.branch [
      | then-reference-ne0 w ↦ rw w.used-is (filling_put (sorted_puts _) f (omega arith) few (omega arith) w.if-reference-ne0.true _ w.body-is)
      | else-reference-ne0 w ↦ rw (w.used-is, w.body-is) (filling_skip (sorted_puts _) f (omega arith) few (omega arith) w.if-reference-ne0.false)
    ]

pub returns : goal.returns
returns c = filling_end c.loop-byte.invariant (omega arith)
