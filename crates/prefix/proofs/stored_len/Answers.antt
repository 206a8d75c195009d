-- `prefix::stored_len` meets its contract: each branch is the smaller of the length and eight.
use native.Mathlib.Omega.{arith}
use Rattle.prefix.proofs.stored_len.Goals as goal

pub returns-then-n-le8 : goal.returns-then-n-le8
returns-then-n-le8 c = omega arith

pub returns-else-n-le8 : goal.returns-else-n-le8
returns-else-n-le8 c = omega arith
