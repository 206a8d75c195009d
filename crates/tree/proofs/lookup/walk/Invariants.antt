-- `lookup::walk` meets its contract: at each turn the walk from here answers what the walk from the root does.
use Rattle.tree.proofs.Walks.{Walking}
use Rattle.tree.proofs.lookup.walk.Given as goal

abbrev pub invariant-loop-left : goal.invariant-loop-left
invariant-loop-left l = Walking l.block.frame l.block.words.now l.block.keys.now l.tag l.aim l.root l.left l.reference l.depth l.behavior
