-- `leaf_entry` meets its contract: each field is the one of the definition.
use Rattle.stations.proofs.Steps.{entry_by}
use Rattle.stations.proofs.leaf_entry.Goals as goal

pub returns : goal.returns
returns c = search entry_by
