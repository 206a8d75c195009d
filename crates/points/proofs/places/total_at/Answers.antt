-- `places::total_at` meets its contract: the total is read from the leaf's words.
use mathlib.Core.Path.{ap, ◌∙◌}
use Rattle.records.specs.Own.{total_of}
use Rattle.points.proofs.places.total_at.Goals as goal

pub returns : goal.returns
returns c = c.total_of.ensures ∙ ap total_of c.leaf_at.ensures.0
