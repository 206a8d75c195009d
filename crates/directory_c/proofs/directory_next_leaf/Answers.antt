-- `directory_c::directory_next_leaf` meets its contract: the answer of next leaf, as C sees it.
use mathlib.Core.Path.{ap, ◌∙◌}
use Rattle.tree.specs.Answer.{Found}
use Rattle.demands.specs.Calls.{found}
use Rattle.demands.specs.Told.{told_by}
use Rattle.directory_c.specs.Numbers.{found_as}
use Rattle.directory_c.proofs.Promises.{replies}
use Rattle.directory_c.proofs.directory_next_leaf.Goals as goal

pub returns : goal.returns
returns c = replies tt (c.found.ensures ∙ ap (λ (a : Found). found_as (told_by (found a))) c.next_leaf.ensures)
