-- `directory_c::directory_delete` meets its contract: the answer as C sees it, and the slices as the call leaves them.
use mathlib.Core.Path.{ap, ◌∙◌}
use native.Mathlib.Omega.{arith}
use Rattle.delete.specs.Delete.{Out}
use Rattle.demands.specs.Calls.{deleted}
use Rattle.demands.specs.Told.{told_by}
use Rattle.directory_c.specs.Numbers.{lent, changed_as}
use Rattle.directory_c.proofs.Promises.{does}
use Rattle.directory_c.proofs.directory_delete.Goals as goal

pub returns : goal.returns
returns c = let e = c.delete.ensures in
    does (λ i. omega (arith, c.shared_slice_known-1.given i))
    (c.delete_change.ensures ∙ ap (λ (o : Out). changed_as (told_by (deleted o.answer))) e) (ap (λ (o : Out). lent o.words o.keys o.scratch) e)
