-- `inner_node_sorted::sorted_from` meets its contract: keys ascend, so the first key from the byte on is the first child from it on.
use mathlib.Core.Path.{◌∙◌}
use Rattle.records.proofs.Rows.{sorted_from}
use Rattle.records.proofs.inner_node_sorted.sorted_from.Goals as goal

pub returns : goal.returns
returns c = let a = c.args in c.sorted_entry.ensures ∙ sorted_from a.k a.body.now a.n a.byte _ c.first_at_least-i.ensures
