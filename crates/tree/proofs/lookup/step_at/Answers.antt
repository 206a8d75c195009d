-- `lookup::step_at` meets its contract: a record arrived at lies within the slices, and each arm is a case of `step_from`.
use mathlib.Core.Path.{sym, ap, ◌∙◌}
use Rattle.std.specs.declared.ops.ControlFlow.TheVariants.{Break}
use Rattle.tree.proofs.Arrivals.{leaf_there, inner_there}
use Rattle.tree.proofs.Walks.{step_by}
use Rattle.tree.proofs.lookup.step_at.Goals as goal

pub leaf_at-requires : goal.leaf_at-requires
leaf_at-requires c = leaf_there c.args.block.now.framed _ _ _ _ (sym c.arrive-here.ensures ∙ c.in-Leaf.is)

pub inner_at-requires : goal.inner_at-requires
inner_at-requires c = (inner_there c.args.block.now.framed _ _ _ _ (sym c.arrive-here.ensures ∙ c.in-Inner.is), c.requires)

pub returns-in-Leaf : goal.returns-in-Leaf
returns-in-Leaf c = ap Break c.leaf_at.ensures ∙ step_by _ _ _ _ _ _ _ _ _ _ (sym c.arrive-here.ensures ∙ c.in-Leaf.is)

pub returns-in-Inner : goal.returns-in-Inner
returns-in-Inner c = c.inner_at.ensures ∙ step_by _ _ _ _ _ _ _ _ _ _ (sym c.arrive-here.ensures ∙ c.in-Inner.is)

pub returns-in-Broken : goal.returns-in-Broken
returns-in-Broken c = step_by _ _ _ _ _ _ _ _ _ _ (sym c.arrive-here.ensures ∙ c.in-Broken.is)
