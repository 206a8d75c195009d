-- `too_long` meets its contract: form 1 is known, and its limit is compared as the definition has it.
use mathlib.Core.Path.{refl}
use Rattle.frames.specs.Form.{form_known}
use Rattle.insert.specs.Insert.{too_long}
use Rattle.insert.proofs.insert.too_long.Goals as goal

pub form_of-form-requires : goal.form_of-form-requires
unfolding form_known
form_of-form-requires c = refl

pub returns : goal.returns
unfolding too_long
returns c = rw c.form_of-form.ensures refl
