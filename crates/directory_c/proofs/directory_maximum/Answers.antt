-- `directory_c::directory_maximum` meets its contract: the answer of maximum, as C sees it.
use mathlib.Core.Path.{ap, ◌∙◌}
use Rattle.tree.specs.Answer.{Found}
use Rattle.demands.specs.Calls.{found}
use Rattle.demands.specs.Told.{told_by}
use Rattle.directory_c.specs.Numbers.{found_as}
use Rattle.directory_c.proofs.Promises.{replies}
use Rattle.directory_c.proofs.directory_maximum.Goals as goal

pub returns : goal.returns
returns c = replies tt (c.found.ensures ∙ ap (λ (a : Found). found_as (told_by (found a))) c.maximum.ensures)
