-- `minmax::edge_step` meets its contract: a record arrived at lies within the slices, and each arm is a case of `edge_from`.
use mathlib.Core.Path.{sym, ap, ◌∙◌}
use Rattle.std.specs.declared.ops.ControlFlow.TheVariants.{Continue, Break}
use Rattle.tree.proofs.Arrivals.{leaf_there, inner_there}
use Rattle.tree.proofs.Edges.{edge_step_by}
use Rattle.tree.proofs.minmax.edge_step.Goals as goal

pub leaf_found-requires : goal.leaf_found-requires
leaf_found-requires c = (leaf_there c.args.block.now.framed _ _ _ _ (sym c.arrive-here.ensures ∙ c.in-Leaf.is)).room

pub edge_child-requires : goal.edge_child-requires
edge_child-requires c = inner_there c.args.block.now.framed _ _ _ _ (sym c.arrive-here.ensures ∙ c.in-Inner.is)

pub returns-in-Leaf : goal.returns-in-Leaf
returns-in-Leaf c = ap Break c.leaf_found.ensures ∙ edge_step_by _ _ _ _ _ _ _ (sym c.arrive-here.ensures ∙ c.in-Leaf.is)

pub returns-in-Inner : goal.returns-in-Inner
returns-in-Inner c = ap Continue c.edge_child.ensures ∙ edge_step_by _ _ _ _ _ _ _ (sym c.arrive-here.ensures ∙ c.in-Inner.is)

pub returns-in-Broken : goal.returns-in-Broken
returns-in-Broken c = edge_step_by _ _ _ _ _ _ _ (sym c.arrive-here.ensures ∙ c.in-Broken.is)
