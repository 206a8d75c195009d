-- `directory_c::directory_check` meets its contract: the number of the check's answer, and scratch as the check leaves it.
use mathlib.Core.Path.{ap, ◌∙◌}
use Rattle.whole.specs.Check.{Answer, number_of}
use Rattle.directory_c.specs.Numbers.{lent}
use Rattle.directory_c.proofs.Promises.{does}
use Rattle.directory_c.proofs.directory_check.Goals as goal

pub returns : goal.returns
returns c = let s = c.args in
    let e = c.check.ensures in
    does tt (c.number_in.ensures ∙ ap (λ (a : Answer). number_of a.result) e) (ap (λ (a : Answer). lent s.words.now s.keys.now a.scratch) e)
