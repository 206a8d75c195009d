-- `directory_c::directory_leaf_facts` meets its contract: the answer of a leaf's facts, as C sees it.
use mathlib.Core.Path.{ap, ◌∙◌}
use Rattle.tree.specs.Answer.{LeafFacts}
use Rattle.demands.specs.Calls.{facts}
use Rattle.demands.specs.Told.{told_by}
use Rattle.directory_c.specs.Numbers.{leaf_as}
use Rattle.directory_c.proofs.Promises.{replies}
use Rattle.directory_c.proofs.directory_leaf_facts.Goals as goal

pub returns : goal.returns
returns c = replies tt (c.facts.ensures ∙ ap (λ (a : LeafFacts). leaf_as (told_by (facts a))) c.leaf_facts.ensures)
