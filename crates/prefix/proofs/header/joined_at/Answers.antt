-- `prefix::header::joined_at` meets its contract: the element of the first run, of the second, or 0 past both.
use mathlib.Core.Path.{sym}
use native.Mathlib.Omega.{arith}
use lib.ListN.{get_or-append}
use Rattle.std.proofs.lemmas.Grind.{common_steps}
use Rattle.prefix.proofs.Eights.{append_at}
use Rattle.prefix.proofs.header.joined_at.Goals as goal

pub returns-then-i-s : goal.returns-then-i-s
returns-then-i-s c = let a = c.args in sym (get_or-append a.s.now a.t.now 0 a.i (omega arith))

pub returns-else-i-s : goal.returns-else-i-s
returns-else-i-s c = let a = c.args in grind (arith, common_steps, append_at a.s.now a.t.now a.i)
