-- `insert_point::at_leaf` meets its contract: each return is a case of `leaf_point`.
use Rattle.points.proofs.Steps.{agreed_fits, leaf_holds, leaf_begins, leaf_begun, leaf_forks}
use Rattle.points.proofs.insert_point.at_leaf.Goals as goal

pub overflow_add-e : goal.overflow_add-e
overflow_add-e c = search agreed_fits

pub returns-then-t-e : goal.returns-then-t-e
returns-then-t-e c = search leaf_holds

pub returns-then-tag-e : goal.returns-then-tag-e
returns-then-tag-e c = search leaf_begins

pub returns-then-t-e-2 : goal.returns-then-t-e-2
returns-then-t-e-2 c = search leaf_begun

pub returns : goal.returns
returns c = search leaf_forks
