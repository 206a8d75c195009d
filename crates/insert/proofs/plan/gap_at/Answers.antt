-- `gap_at` meets its contract: the leaf names the one before it.
use native.Mathlib.Omega.{arith}
use mathlib.Core.Path.{ap, ap₂, ◌∙◌}
use Rattle.records.specs.Words.{previous_leaf}
use Rattle.points.proofs.Here.{leaf_small}
use Rattle.insert.proofs.plan.gap_at.Goals as goal

pub reference_to-next-requires : goal.reference_to-next-requires
reference_to-next-requires c = (omega arith, search leaf_small)

pub returns : goal.returns
returns c = ap₂ (λ r s. record { previous = r; next = s }) (c.previous.ensures ∙ ap previous_leaf c.leaf_at.ensures.0) c.reference_to-next.ensures
