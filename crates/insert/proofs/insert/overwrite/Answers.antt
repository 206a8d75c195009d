-- `overwrite` meets its contract: the total is read before another is written over it.
use Rattle.insert.proofs.insert.overwrite.Goals as goal

pub returns : goal.returns
returns c = (c.total_at-old.ensures, c.set_total_at.ensures)
