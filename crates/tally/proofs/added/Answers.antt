-- The low word wraps exactly where the sum comes out below the total that was added, and then it has lost one carry.
use Rattle.std.proofs.Common.{◌≡◌, ℕ, ◌+◌, ◌/◌, ◌%◌, ◌^◌, arith}
use Rattle.tally.specs.declared.Tally.{Tally}
use Rattle.tally.specs.Tally.{added_of}
use Rattle.tally.proofs.added.Goals as goal

-- the tally that the code makes, by its low word and its carries
made : (t : Tally) (x l k : ℕ) → l ≡ (t.low + x) % 2 ^ 64 → k ≡ t.carries + (t.low + x) / 2 ^ 64 → ◌≡◌ {A = Tally} (record { count = t.count + 1; low = l; carries = k }) (added_of t x)
unfolding added_of
made t x l k e f = λ i. record { count = t.count + 1; low = e i; carries = f i }

pub returns-then-low-total : goal.returns-then-low-total
returns-then-low-total c =
    let e = c.wrapping_add_u64-low.ensures.value in
    made c.args.t c.args.total _ _ e (omega (arith, e, c.if-low-total.true, c.ranges.total))

pub returns : goal.returns
returns c =
    let e = c.wrapping_add_u64-low.ensures.value in
    made c.args.t c.args.total _ _ e (omega (arith, e, c.if-low-total.false, c.ranges.total))
