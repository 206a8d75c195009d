-- `insert_point::search_for_insert_point` meets its contract: at each turn the way from here ends where the way from the root does.
use Rattle.points.proofs.Steps.{Seeking}
use Rattle.points.proofs.insert_point.search_for_insert_point.Given as goal

abbrev pub invariant-loop-left : goal.invariant-loop-left
invariant-loop-left l = let block = l.block in
    Seeking block.frame block.words.now block.keys.now l.tag l.root l.left l.reference l.depth l.upper l.up
