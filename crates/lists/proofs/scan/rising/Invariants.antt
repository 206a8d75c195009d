-- `scan::rising` meets its contract: `ok` is the answer as far as `last`, and with what is left after it that of the whole.
use Rattle.std.proofs.Common.{◌≡◌, ◌+◌, ◌&&◌, drop}
use Rattle.lists.specs.Scan.{rises}
use Rattle.lists.proofs.scan.rising.Given as goal

abbrev pub invariant-loop-x : goal.invariant-loop-x
invariant-loop-x l = rises 0 l.s ≡ l.ok && rises (l.last + 1) (drop l.x-index l.rest)
