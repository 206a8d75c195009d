-- `edit::shift_in` meets its contract: what `copy_within` moved, and the place written.
use native.Mathlib.Omega.{arith}
use Rattle.lists.proofs.Edits.{shift_in_is, shift_in_end}
use Rattle.lists.proofs.edit.shift_in.Goals as goal

pub returns-then-at-s : goal.returns-then-at-s
returns-then-at-s c = let w = c.copy_within.ensures in
    shift_in_is c.args.s.now _ c.args.at (omega arith) w.len (λ k d l. w.by_index.1 k d (omega arith)) c.args.x w.by_index.0

pub returns-else-at-s : goal.returns-else-at-s
returns-else-at-s c = shift_in_end c.args.s.now c.args.at c.args.x (omega arith)
