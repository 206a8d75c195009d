-- `plant::note` meets its contract: what the function for C promises of an insert is what the plant wants of it.
use native.Mathlib.Omega.{arith}
use Rattle.plant.proofs.Notes.{noted}
use Rattle.plant.proofs.plant.note.Goals as goal

pub returns : goal.returns
returns c = noted (λ i. omega (arith, c.slice_known-2-1.given i)) (λ i. omega (arith, c.type_inv.tag i)) c.directory_insert.ensures
