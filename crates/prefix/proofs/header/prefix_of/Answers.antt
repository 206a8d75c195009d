-- `prefix::header::prefix_of` meets its contract: the run's length, and its first eight bytes.
use mathlib.Core.Path.{ap}
use lib.ListN.{length}
use Rattle.prefix.specs.Run.{prefix_of}
use Rattle.prefix.proofs.Runs.{prefix}
use Rattle.prefix.proofs.header.prefix_of.Goals as goal

pub returns : goal.returns
unfolding prefix_of
returns c = ap (prefix (length c.args.run.now)) c.first_eight.ensures
