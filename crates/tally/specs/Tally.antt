-- The clerk's tally: a count, and an exact sum as a low word below 2 ^ 64 and a count of carries.
use Rattle.std.specs.Prelude.{ℕ, ◌+◌, ◌*◌, ◌/◌, ◌%◌, ◌^◌, ◌<◌}
use Rattle.tally.specs.declared.Tally.{Tally}

-- one more can be counted, and one more carry
pub record Room (t : Tally) : Type 0 where
  pub counts : t.count + 1 < 2 ^ 32
  pub carries : t.carries + 1 < 2 ^ 32

-- the tally with a total more: the low word wraps, and what it loses is a carry
unfoldable pub added_of : Tally → ℕ → Tally
added_of t total = record { count = t.count + 1; low = (t.low + total) % 2 ^ 64; carries = t.carries + (t.low + total) / 2 ^ 64 }

-- the sum that a tally stands for
abbrev pub sum_of : Tally → ℕ
sum_of t = t.carries * 2 ^ 64 + t.low

-- nothing counted
abbrev pub nothing : Tally
nothing = record { count = 0; low = 0; carries = 0 }
