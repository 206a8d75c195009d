-- `places::children_at` meets its contract: the count is read from the record's words.
use mathlib.Core.Path.{ap, ◌∙◌}
use Rattle.records.specs.Words.{child_count}
use Rattle.points.proofs.places.children_at.Goals as goal

pub returns : goal.returns
returns c = c.child_count.ensures ∙ ap child_count c.inner_at.ensures.0
