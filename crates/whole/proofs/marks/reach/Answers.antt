-- `marks::reach` meets its contract: a record of a pool has its mark, and any other reference has none.
use mathlib.Core.Path.{ap, sym, ◌∙◌}
use Prim.Native.Nat.{ℕ}
use Rattle.whole.specs.Marks.{unmarked, set_mark}
use Rattle.whole.proofs.Marking.{reach_in, reach_sets, reach_out}
use Rattle.whole.proofs.marks.reach.Goals as goal

pub returns-then-in_pool : goal.returns-then-in_pool
returns-then-in_pool c = let s = c.args in
    let p = sym c.in_pool.ensures ∙ c.if-in_pool.true in
    let a = c.mark_at-at.ensures in
    let k = c.mark.ensures in (
      k.0 ∙ ap (λ (n : ℕ). unmarked n s.marks.now) a ∙ reach_in s.f.now s.reference s.marks.now p,
      k.1 ∙ ap (λ (n : ℕ). set_mark n s.marks.now) a ∙ reach_sets s.f.now s.reference s.marks.now p,
    )

pub returns : goal.returns
returns c = let s = c.args in reach_out s.f.now s.reference s.marks.now (sym c.in_pool.ensures ∙ c.if-in_pool.false)
