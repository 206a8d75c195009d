-- `directory_c::directory_start` meets its contract: the number of start's answer, and the slices as start leaves them.
use mathlib.Core.Path.{ap, ◌∙◌}
use mathlib.Core.List.{[]}
use Rattle.pools.specs.Start.{Out, start_number}
use Rattle.directory_c.specs.Numbers.{lent}
use Rattle.directory_c.proofs.Promises.{does}
use Rattle.directory_c.proofs.directory_start.Goals as goal

pub returns : goal.returns
returns c = let e = c.start.ensures in
    does tt (c.number_in.ensures ∙ ap (λ (o : Out). start_number o.answer) e) (ap (λ (o : Out). lent o.words o.keys []) e)
