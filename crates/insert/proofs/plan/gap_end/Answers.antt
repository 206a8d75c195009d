-- `gap_end` meets its contract: the trailer names the last leaf.
use mathlib.Core.Path.{ap}
use native.Mathlib.Omega.{arith}
use Rattle.insert.proofs.plan.gap_end.Goals as goal

pub trailer_word-requires : goal.trailer_word-requires
trailer_word-requires c = omega arith

pub returns : goal.returns
returns c = ap (λ r. record { previous = r; next = 0 }) c.trailer_word.ensures
