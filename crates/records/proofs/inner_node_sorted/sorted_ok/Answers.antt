-- `inner_node_sorted::sorted_ok` meets its contract: four parts of the body, each tested by one scan.
use Rattle.records.specs.Own.{sorted_ok}
use Rattle.records.proofs.inner_node_sorted.sorted_ok.Goals as goal

pub returns : goal.returns
unfolding sorted_ok
returns c = rw (c.rising-keys.ensures, c.all_at_most-rest.ensures, c.none_zero-refs.ensures, c.all_at_most-last.ensures)
