-- `marks::places_in` meets its contract: six pools, the first of them empty, are the five.
use Rattle.whole.specs.Marks.{places_in}
use Rattle.whole.proofs.marks.places_in.Goals as goal

pub returns : goal.returns
unfolding places_in
returns c = c.before_pool.ensures.0
