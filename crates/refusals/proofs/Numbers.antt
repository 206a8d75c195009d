-- No refusal has the number 0, which is what a call gives where it is done.
use mathlib.Core.Logic.{◌≢◌}
use native.Mathlib.Omega.{arith}
use Rattle.refusals.specs.Refusal.{number_of}
use Rattle.refusals.specs.declared.Refusal.{Refusal}
use Rattle.refusals.specs.declared.Refusal.TheVariants.{Missing}

pub refused_number : (refusal : Refusal) → number_of refusal ≢ 0
refused_number Missing e = omega arith
refused_number refusal e = omega arith
