-- The number of each refusal, and of each call's answer.
use Rattle.std.specs.Prelude.{ℕ, Result, Ok, Err}
use Rattle.refusals.specs.declared.Refusal.{Refusal}
use Rattle.refusals.specs.declared.Refusal.TheVariants.{Missing, TooLong, Clash, NoLeaf, NoRecord, Damaged, ShortScratch, Unfit, NotInUse}

-- 1 no such tag, 2 tag too long, 3 one tag begins another, 4 no free leaf, 5 no free inner record, 6 damaged block, 7 scratch too short, 8 slices unfit, 9 no leaf in use
abbrev pub number_of : Refusal → ℕ
number_of Missing = 1
number_of TooLong = 2
number_of Clash = 3
number_of NoLeaf = 4
number_of NoRecord = 5
number_of Damaged = 6
number_of ShortScratch = 7
number_of Unfit = 8
number_of NotInUse = 9

-- 0 where the call is done
abbrev pub number_in : {A : Type 0} → Result A Refusal → ℕ
number_in (Ok a) = 0
number_in (Err refusal) = number_of refusal
