-- Tables of calls, each on what is lent to it and with the number that it gives.
use Rattle.std.specs.Prelude.{ℕ, ◌≡◌, List, [], ◌∷◌}
use Rattle.demands.specs.Calls.{Call, Slices}
use Rattle.demands.specs.Told.{number}
use Rattle.demands.specs.Histories.{CallBytes}
use Rattle.demands.specs.Due.{Due}

-- a call, what is lent to it, and its number
pub record Line : Type 0 where
  pub call : Call
  pub lent : Slices
  pub number : ℕ

-- of these three
abbrev pub line : Call → Slices → ℕ → Line
line c s n = record { call = c; lent = s; number = n }

-- each line's row of `Due` holds
abbrev pub Dues : List Line → Type 0
Dues [] = Unit {0}
Dues (l ∷ ls) = Due l.call l.lent l.number × Dues ls

-- each line's call gives its number
abbrev pub Given : List Line → Type 0
Given [] = Unit {0}
Given (l ∷ ls) = (number l.call l.lent ≡ l.number) × Given ls

-- the tags are bytes
abbrev pub Byted : List Line → Type 0
Byted [] = Unit {0}
Byted (l ∷ ls) = CallBytes l.call × Byted ls

infixr 5 ◌then◌
-- a proof for a line, and those for the lines after it
abbrev pub ◌then◌ : {X Y : Type 0} → X → Y → X × Y
x then y = (x, y)
