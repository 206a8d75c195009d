-- `entry_at` meets its contract: each return is a case of `entry_of`, and a leaf of the pool lies within the slices.
use mathlib.Core.Path.{◌∙◌}
use Rattle.tree.proofs.Arrivals.{fails, holds, leaf_named, leaf_in}
use Rattle.stations.proofs.Steps.{at_other, at_outside, at_leaf}
use Rattle.stations.proofs.entry_at.Goals as goal

pub returns-then-reference-ne-LEAF : goal.returns-then-reference-ne-LEAF
returns-then-reference-ne-LEAF c = c.no_entry.ensures ∙ at_other _ _ _ _ _ c.if-reference-ne-LEAF.true

pub returns-then-not-has : goal.returns-then-not-has
returns-then-not-has c = c.no_entry-then-not-has.ensures ∙ at_outside _ _ _ _ _ c.if-reference-ne-LEAF.false (fails c.has.ensures c.if-not-has.true)

pub entry_in-requires : goal.entry_in-requires
entry_in-requires c = leaf_in c.args.block.now.framed _ _ _ (leaf_named c.args.reference c.if-reference-ne-LEAF.false) c.start_at-start.ensures (holds c.has.ensures c.if-not-has.false)

pub returns : goal.returns
returns c = at_leaf _ _ _ _ _ c.if-reference-ne-LEAF.false (holds c.has.ensures c.if-not-has.false) c.start_at-start.ensures c.entry_in.ensures
