-- `insert_point::step_at` meets its contract: a leaf that was arrived at was seen, a record lies within the slices, and each arm is a case of `step_from`.
use mathlib.Core.Path.{sym, ◌∙◌}
use Rattle.tree.proofs.Arrivals.{inner_there}
use Rattle.tree.proofs.Leaves.{leaf_arrived}
use Rattle.points.proofs.Steps.{step_as, step_leaf}
use Rattle.points.proofs.insert_point.step_at.Goals as goal

pub tag_at-t-requires : goal.tag_at-t-requires
tag_at-t-requires c = leaf_arrived _ _ _ _ _ _ _ (sym c.arrive-here.ensures ∙ c.in-Leaf.is)

pub inner_at-requires : goal.inner_at-requires
inner_at-requires c = (search, inner_there c.args.block.now.framed _ _ _ _ (sym c.arrive-here.ensures ∙ c.in-Inner.is))

pub returns-in-Leaf : goal.returns-in-Leaf
returns-in-Leaf c = search step_leaf

pub returns-in-Inner : goal.returns-in-Inner
returns-in-Inner c = search step_as

pub returns-in-Broken : goal.returns-in-Broken
returns-in-Broken c = search step_as
