-- `new_plan` meets its contract: a leaf that the walk along the list answers is one of the pool.
use mathlib.Core.Path.{sym, ◌∙◌}
use Rattle.insert.proofs.Stops.{after_pool}
use Rattle.insert.proofs.plan.new_plan.Goals as goal

pub gap_at-requires : goal.gap_at-requires
gap_at-requires c = after_pool _ _ _ _ _ _ (sym c.after_first.ensures ∙ c.in-Ok.is)
