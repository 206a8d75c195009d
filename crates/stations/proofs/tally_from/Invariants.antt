-- `tally_from` meets its contract: at each turn the pass from here gives what the pass from the first leaf does, and the tally has room for the leaves that are left.
use Rattle.std.proofs.Common.{◌≡◌, ◌-◌}
use Rattle.tally.specs.Tally.{nothing}
use Rattle.stations.specs.Stations.{tally_from}
use Rattle.stations.proofs.Steps.{Small}
use Rattle.stations.proofs.tally_from.Given as goal

abbrev pub invariant-loop : goal.invariant-loop
invariant-loop l = let b = l.block in
    (tally_from b.frame b.words.now b.keys.now l.beginning (l.leaves - l.counter) l.t l.reference ≡ tally_from b.frame b.words.now b.keys.now l.beginning l.leaves nothing l.first) × Small l.t (l.leaves - l.counter)
