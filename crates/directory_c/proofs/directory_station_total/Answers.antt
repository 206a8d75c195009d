-- `directory_c::directory_station_total` meets its contract: the answer as C sees it, and scratch as the call leaves it.
use mathlib.Core.Path.{ap, ◌∙◌}
use native.Mathlib.Omega.{arith}
use Rattle.stations.specs.Stations.{Answer, total_of}
use Rattle.demands.specs.Calls.{totalled}
use Rattle.demands.specs.Told.{told_by}
use Rattle.directory_c.specs.Numbers.{lent, station_as}
use Rattle.directory_c.proofs.Promises.{does}
use Rattle.directory_c.proofs.directory_station_total.Goals as goal

pub returns : goal.returns
unfolding total_of
returns c = let s = c.args in
    let e = c.station_total.ensures in
    does (λ i. omega (arith, c.shared_slice_known-3-1.given i)) (c.station.ensures ∙ ap (λ (a : Answer). station_as (told_by (totalled a.result))) e)
    (ap (λ (a : Answer). lent s.words.now s.keys.now a.scratch) e)
