-- `point_plan` meets its contract, by the cases of the point; the record that it names is there.
use Rattle.insert.specs.Plan.{point_plan}
use Rattle.insert.proofs.Planning.{point_as, leaf_as, into_there}
use Rattle.insert.proofs.plan.point_plan.Goals as goal

pub into_choice-choice-requires : goal.into_choice-choice-requires
into_choice-choice-requires c = search into_there

pub returns-in-Holds : goal.returns-in-Holds
unfolding point_plan
returns-in-Holds c = search point_as

pub returns-in-Clash : goal.returns-in-Clash
unfolding point_plan
returns-in-Clash c = search point_as

pub returns-in-Into : goal.returns-in-Into
unfolding point_plan
returns-in-Into c = search (point_as, leaf_as)

pub returns-in-Fork : goal.returns-in-Fork
unfolding point_plan
returns-in-Fork c = search (point_as, leaf_as)

pub returns-in-Broken : goal.returns-in-Broken
unfolding point_plan
returns-in-Broken c = search point_as
