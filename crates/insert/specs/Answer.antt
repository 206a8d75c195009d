-- The number and the total that insert gives back.
use Rattle.std.specs.Prelude.{ℕ, Option, Some, None, Result, Ok, Err}
use Rattle.refusals.specs.Refusal.{number_in}
use Rattle.refusals.specs.declared.Refusal.{Refusal}

-- nothing for a new tag, the total that a held one had, or why there is no change
abbrev pub Inserted : Type 0
Inserted = Result (Option ℕ) Refusal

-- 0 done, for a new tag and a held one; 2 too long, 3 a clash, 4 no leaf, 5 no record, 6 damaged block, 7 scratch too short
abbrev pub number_of : Inserted → ℕ
number_of a = number_in a

-- an overwriting insert returns the old total, any other 0
abbrev pub total_in : Inserted → ℕ
total_in (Ok None) = 0
total_in (Ok (Some total)) = total
total_in (Err refusal) = 0
