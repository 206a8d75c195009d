-- `insert_point::agreed_from` meets its contract: past the end of the second tag nothing agrees.
use Rattle.points.proofs.Steps.{agreed_none}
use Rattle.points.proofs.insert_point.agreed_from.Goals as goal

pub returns-then-t-depth : goal.returns-then-t-depth
returns-then-t-depth c = search agreed_none
