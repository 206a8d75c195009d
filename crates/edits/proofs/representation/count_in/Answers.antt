-- `representation::count_in` meets its contract, by the cases of `count_in`.
use Rattle.edits.proofs.representation.count_in.Goals as goal

pub returns-in-Add : goal.returns-in-Add
returns-in-Add c = rw c.in-Add.is

pub returns-in-Remove : goal.returns-in-Remove
returns-in-Remove c = rw c.in-Remove.is
