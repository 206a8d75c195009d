-- `gap_of` meets its contract: a leaf names the ones before and after it.
use Rattle.delete.proofs.plan.gap_of.Goals as goal

pub returns : goal.returns
returns c = rw (← c.leaf_at-rec.ensures.0, c.previous.ensures, c.next.ensures)
