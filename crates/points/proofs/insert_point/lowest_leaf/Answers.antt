-- `insert_point::lowest_leaf` meets its contract: a leaf that the way down ends at has a number of the pool, so its reference is a small number.
use native.Mathlib.Omega.{arith}
use Rattle.points.proofs.Below.{lowest_small}
use Rattle.points.proofs.insert_point.lowest_leaf.Goals as goal

pub reference_to-requires : goal.reference_to-requires
reference_to-requires c = (omega arith, search lowest_small)
