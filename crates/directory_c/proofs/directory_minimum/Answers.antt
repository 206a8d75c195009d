-- `directory_c::directory_minimum` meets its contract: the answer of minimum, as C sees it.
use mathlib.Core.Path.{ap, ◌∙◌}
use Rattle.tree.specs.Answer.{Found}
use Rattle.demands.specs.Calls.{found}
use Rattle.demands.specs.Told.{told_by}
use Rattle.directory_c.specs.Numbers.{found_as}
use Rattle.directory_c.proofs.Promises.{replies}
use Rattle.directory_c.proofs.directory_minimum.Goals as goal

pub returns : goal.returns
returns c = replies tt (c.found.ensures ∙ ap (λ (a : Found). found_as (told_by (found a))) c.minimum.ensures)
