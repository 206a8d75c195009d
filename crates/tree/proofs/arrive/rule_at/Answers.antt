-- `arrive::rule_at` meets its contract: a reference of kind 5 names a leaf, any other an inner record, and a record of a pool lies within the slices.
use Rattle.tree.proofs.Arrivals.{leaf_named, inner_named, leaf_in, rule_leaf, inner_in, rule_inner}
use Rattle.tree.proofs.arrive.rule_at.Goals as goal

pub leaf_rule-requires : goal.leaf_rule-requires
leaf_rule-requires c = leaf_in c.args.block.now.framed _ _ _ (leaf_named c.args.reference c.if-reference-eq-LEAF.true) c.start_at-start.ensures c.requires

pub returns-then-reference-eq-LEAF : goal.returns-then-reference-eq-LEAF
returns-then-reference-eq-LEAF c = rule_leaf c.args.block.now.framed _ _ _ (leaf_named c.args.reference c.if-reference-eq-LEAF.true) c.start_at-start.ensures c.requires c.leaf_rule.ensures

pub inner_rule-requires : goal.inner_rule-requires
inner_rule-requires c = inner_in c.args.block.now.framed _ _ _ _ (inner_named c.args.reference c.if-reference-eq-LEAF.false) c.start_at-start.ensures c.requires

pub returns : goal.returns
returns c = rule_inner c.args.block.now.framed _ _ _ _ (inner_named c.args.reference c.if-reference-eq-LEAF.false) c.start_at-start.ensures c.requires c.inner_rule.ensures
