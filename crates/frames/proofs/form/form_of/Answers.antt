-- `form::form_of` meets its contract: a known number is a place of the table, and both tables have the same rows.
use mathlib.Core.Path.{refl}
use native.Mathlib.Omega.{arith}
use Rattle.frames.specs.Form.{form_of}
use Rattle.frames.proofs.FormTable.{form_in}
use Rattle.frames.proofs.form.form_of.Goals as goal

pub overflow_sub-i : goal.overflow_sub-i
overflow_sub-i c = omega (arith, form_in c.args.number c.requires)

pub bounds-i-i : goal.bounds-i-i
bounds-i-i c = omega (arith, form_in c.args.number c.requires)

pub returns : goal.returns
unfolding form_of
returns c = refl
