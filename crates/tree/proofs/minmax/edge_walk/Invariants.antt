-- `minmax::edge_walk` meets its contract: at each turn the way down from here ends where the way down from the root does.
use Rattle.tree.proofs.Edges.{Descending}
use Rattle.tree.proofs.minmax.edge_walk.Given as goal

abbrev pub invariant-loop-left : goal.invariant-loop-left
invariant-loop-left l = Descending l.block.frame l.block.words.now l.block.keys.now l.edge l.root l.left l.reference
