-- `lookup::compare_from` meets its contract, by the cases of `compare_from`.
use mathlib.Core.Path.{refl}
use native.Mathlib.Omega.{arith}
use Rattle.tree.proofs.lookup.compare_from.Goals as goal

pub returns-in-Optimistic : goal.returns-in-Optimistic
returns-in-Optimistic c = (rw c.in-Optimistic.is refl, (omega arith, omega arith))

pub returns : goal.returns
returns c = (rw (c.in_default.is, ← c.min.ensures) c.min-2.ensures, (omega (arith, c.min-2.ensures, c.min.ensures), omega (arith, c.min-2.ensures, c.min.ensures)))
