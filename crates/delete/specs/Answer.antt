-- The number and the total that delete gives back.
use Rattle.std.specs.Prelude.{ℕ, Result, Ok, Err}
use Rattle.refusals.specs.Refusal.{number_in}
use Rattle.refusals.specs.declared.Refusal.{Refusal}

-- the total that the tag had, or why there is no change
abbrev pub Deleted : Type 0
Deleted = Result ℕ Refusal

-- 0 done, 1 no such tag, 6 damaged block, 7 scratch too short
abbrev pub number_of : Deleted → ℕ
number_of a = number_in a

-- the total that the tag had, 0 on a refusal
abbrev pub total_in : Deleted → ℕ
total_in (Ok total) = total
total_in (Err refusal) = 0
