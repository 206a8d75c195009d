-- `insert_point::at_inner` meets its contract: each return is a case of `inner_step`, and no more bytes of a run agree than the tag has.
use Rattle.points.proofs.Steps.{run_fits, inner_lost, inner_clash, inner_child, inner_fork}
use Rattle.points.proofs.insert_point.at_inner.Goals as goal

pub returns-in_default : goal.returns-in_default
returns-in_default c = search inner_lost

pub overflow_add-depth : goal.overflow_add-depth
overflow_add-depth c = search run_fits

pub returns-then-tag-depth : goal.returns-then-tag-depth
returns-then-tag-depth c = search inner_clash

pub returns-then-full-c : goal.returns-then-full-c
returns-then-full-c c = search inner_child

pub returns : goal.returns
returns c = search inner_fork
