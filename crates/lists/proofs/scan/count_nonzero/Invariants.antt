-- `scan::count_nonzero` meets its contract: the whole count is `n` and the count of what is left.
use Rattle.std.proofs.Common.{◌≡◌, ◌+◌, ◌≤◌, drop}
use Rattle.lists.specs.Scan.{nonzero, how_many}
use Rattle.lists.proofs.scan.count_nonzero.Given as goal

abbrev pub invariant-loop-x : goal.invariant-loop-x
invariant-loop-x l = (l.n ≤ l.x-index) × (how_many nonzero l.s ≡ l.n + how_many nonzero (drop l.x-index l.s))
