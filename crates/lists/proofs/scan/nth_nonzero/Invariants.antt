-- `scan::nth_nonzero` meets its contract: the place in the whole is `i` and the place in what is left, after `left` others.
use Rattle.std.proofs.Common.{◌≡◌, ◌+◌, drop}
use Rattle.lists.specs.Scan.{nonzero, nth}
use Rattle.lists.proofs.scan.nth_nonzero.Given as goal

abbrev pub invariant-loop-i : goal.invariant-loop-i
invariant-loop-i l = nth nonzero l.n l.s ≡ l.i + nth nonzero l.left (drop l.i l.s)
