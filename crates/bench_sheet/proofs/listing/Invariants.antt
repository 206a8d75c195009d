-- `listing` counts safely: each turn counts one leaf more, and no more rising totals than leaves.
use Prim.Native.Nat.{◌≤◌}
use Rattle.bench_sheet.proofs.listing.Given as goal

abbrev pub invariant-loop : goal.invariant-loop
invariant-loop g l = (l.leaves ≤ l.counter) × (l.rising ≤ l.leaves)
