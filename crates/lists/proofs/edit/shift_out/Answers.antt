-- `edit::shift_out` meets its contract: what `copy_within` moved, and the place written.
use Rattle.lists.proofs.Edits.{shift_out_is}
use Rattle.lists.proofs.edit.shift_out.Goals as goal

pub returns : goal.returns
returns c = let w = c.copy_within.ensures in
    shift_out_is c.args.s.now _ c.args.at c.requires w.len w.by_index.1 w.by_index.0
