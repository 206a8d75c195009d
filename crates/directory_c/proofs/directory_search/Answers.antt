-- `directory_c::directory_search` meets its contract: the answer of search, as C sees it.
use mathlib.Core.Path.{ap, ◌∙◌}
use native.Mathlib.Omega.{arith}
use Rattle.tree.specs.Answer.{Found}
use Rattle.demands.specs.Calls.{found}
use Rattle.demands.specs.Told.{told_by}
use Rattle.directory_c.specs.Numbers.{found_as}
use Rattle.directory_c.proofs.Promises.{replies}
use Rattle.directory_c.proofs.directory_search.Goals as goal

pub returns : goal.returns
returns c = replies (λ i. omega (arith, c.shared_slice_known-3-1.given i)) (c.found.ensures ∙ ap (λ (a : Found). found_as (told_by (found a))) c.search.ensures)
