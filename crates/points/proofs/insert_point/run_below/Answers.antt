-- `insert_point::run_below` meets its contract: the leaf below was seen, and as many bytes of the run agree as of the tags, or the whole run.
use Prim.Native.Nat.{min}
use mathlib.Core.Path.{◌≡◌}
use native.Mathlib.Omega.{arith}
use Rattle.points.proofs.Below.{lowest_seen}
use Rattle.points.proofs.Steps.{below_some}
use Rattle.points.proofs.insert_point.run_below.Goals as goal

pub tag_at-t-requires : goal.tag_at-t-requires
tag_at-t-requires c = search lowest_seen

pub returns : goal.returns
returns c = let m : c.min.result ≡ min c.args.full c.agreed_from.result = omega (arith, c.min.ensures) in search below_some
