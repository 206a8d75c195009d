-- `header::prefix_at` meets its contract: the length word and the stored bytes.
use Rattle.records.specs.Own.{prefix_at}
use Rattle.records.proofs.header.prefix_at.Goals as goal

pub returns : goal.returns
unfolding prefix_at
returns c = rw c.stored_of.ensures
