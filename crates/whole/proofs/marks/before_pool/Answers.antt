-- `marks::before_pool` meets its contract: after the loop the sum is that of the kinds before `kind`, and small.
use Rattle.std.proofs.Common.{ℕ, ◌≡◌, ap, ◌∙◌, arith}
use Rattle.whole.specs.Marks.{sum_to}
use Rattle.whole.proofs.Marking.{sum_small}
use Rattle.whole.proofs.marks.before_pool.Goals as goal

pub returns : goal.returns
returns c = let l = c.loop-k in
    let e : l.k ≡ c.args.kind = omega arith in
    (l.invariant ∙ ap (λ (j : ℕ). sum_to j c.args.f.now.caps) e, omega (arith, sum_small c.requires.1 l.k (omega arith)))
