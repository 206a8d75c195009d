-- `well_formed::leaf_visit` meets its contract: the leaf's links are compared.
use Rattle.whole.proofs.Turns.{leaf_well, leaf_parts}
use Rattle.whole.proofs.well_formed.leaf_visit.Goals as goal

pub returns-then-prev-s : goal.returns-then-prev-s
returns-then-prev-s c = let s = c.args in
    leaf_well _ s.reference s.s c.previous-prev.ensures c.next-next.ensures c.if-prev-s.true

pub returns : goal.returns
returns c = let s = c.args in
    leaf_parts _ s.reference s.s c.previous-prev.ensures c.next-next.ensures c.if-prev-s.false
