-- `minmax::edge_child` meets its contract: it is the reference of the entry at that end of the row.
use mathlib.Core.Path.{sym, ◌∙◌}
use Rattle.tree.proofs.Edges.{edge_by}
use Rattle.tree.proofs.minmax.edge_child.Goals as goal

pub returns-in-Some : goal.returns-in-Some
returns-in-Some c = edge_by _ _ _ _ _ (sym (rw c.record_words.ensures.0 at c.edge_entry.ensures) ∙ c.in-Some.is)

pub returns-in-None : goal.returns-in-None
returns-in-None c = edge_by _ _ _ _ _ (sym (rw c.record_words.ensures.0 at c.edge_entry.ensures) ∙ c.in-None.is)
