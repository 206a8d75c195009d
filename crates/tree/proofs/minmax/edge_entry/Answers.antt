-- `minmax::edge_entry` meets its contract, by the cases of `edge_entry`.
use Rattle.tree.proofs.minmax.edge_entry.Goals as goal

pub returns-in-Low : goal.returns-in-Low
returns-in-Low c = rw c.in-Low.is c.nth_child.ensures

pub returns-in-High : goal.returns-in-High
returns-in-High c = rw c.in-High.is c.last_child.ensures
