-- `prefix::lookup::match_length` meets its contract: each return is a case of `length_match`.
use native.Mathlib.Omega.{arith}
use Rattle.prefix.proofs.Matches.{length_off, length_on}
use Rattle.prefix.proofs.lookup.match_length.Goals as goal

pub returns-then-len-depth : goal.returns-then-len-depth
returns-then-len-depth c = let s = c.args in length_off s.full s.len s.depth (omega arith)

pub returns-else-len-depth : goal.returns-else-len-depth
returns-else-len-depth c = let s = c.args in length_on s.full s.len s.depth (omega arith)
