-- `lookup::fits_aim` meets its contract, by the cases of `fits`.
use Rattle.tree.proofs.lookup.fits_aim.Goals as goal

pub returns-in-Exact : goal.returns-in-Exact
returns-in-Exact c = rw c.in-Exact.is c.same_bytes.ensures

pub returns-in-Begin : goal.returns-in-Begin
returns-in-Begin c = rw c.in-Begin.is c.begins_bytes.ensures
