-- `form::form_known` meets its contract: the numbers from 1 up to the table's length are the known ones.
use mathlib.Core.Path.{refl}
use Rattle.frames.specs.Form.{form_known}
use Rattle.frames.proofs.form.form_known.Goals as goal

pub returns : goal.returns
unfolding form_known
returns c = refl
