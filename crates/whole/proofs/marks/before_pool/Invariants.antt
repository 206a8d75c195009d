-- `marks::before_pool` meets its contract: the sum so far is that of the first `k`.
use mathlib.Core.Path.{◌≡◌}
use Rattle.whole.specs.Marks.{sum_to}
use Rattle.whole.proofs.marks.before_pool.Given as goal

abbrev pub invariant-loop-k : goal.invariant-loop-k
invariant-loop-k l = l.n ≡ sum_to l.k l.f.caps
