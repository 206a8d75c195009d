-- `directory_c::directory_first_at_or_after` meets its contract: the answer as C sees it, and scratch as the call leaves it.
use mathlib.Core.Path.{ap, ◌∙◌}
use native.Mathlib.Omega.{arith}
use Rattle.range.specs.Range.{Answer, after_of}
use Rattle.demands.specs.Calls.{after}
use Rattle.demands.specs.Told.{told_by}
use Rattle.directory_c.specs.Numbers.{lent, found_as}
use Rattle.directory_c.proofs.Promises.{does}
use Rattle.directory_c.proofs.directory_first_at_or_after.Goals as goal

pub returns : goal.returns
unfolding after_of
returns c = let s = c.args in
    let e = c.first_at_or_after.ensures in
    does (λ i. omega (arith, c.shared_slice_known-3-1.given i)) (c.found.ensures ∙ ap (λ (a : Answer). found_as (told_by (after a.result))) e)
    (ap (λ (a : Answer). lent s.words.now s.keys.now a.scratch) e)
