-- `inner_node_direct::direct_ok` meets its contract: as many references as children.
use Rattle.records.specs.Own.{direct_ok}
use Rattle.records.proofs.inner_node_direct.direct_ok.Goals as goal

pub returns : goal.returns
unfolding direct_ok
returns c = cc
