-- `frame::form_fits` meets its contract: each part of the test is the definition's, by what the calls ensure.
use mathlib.Core.Path.{sym, subst}
use native.Mathlib.Omega.{arith}
use Rattle.frames.specs.Form.{SmallSizes}
use Rattle.frames.specs.Frame.{form_fits}
use native.Mathlib.Nat.{mul-le-mul_right}
use Rattle.frames.proofs.frame.form_fits.Goals as goal

pub backs_of-b-requires : goal.backs_of-b-requires
backs_of-b-requires c = (subst SmallSizes (sym c.sizes_of-z.ensures) c.requires.1.0, c.requires.1.1)

pub overflow_mul-result : goal.overflow_mul-result
overflow_mul-result c = omega (arith, mul-le-mul_right c.args.form.limit c.requires.1.1.s5)

pub returns : goal.returns
unfolding form_fits
returns c = rw (c.backs_match-same.ensures, c.backs_of-b.ensures.0, c.sizes_of-z.ensures, c.num-total.ensures.0)
