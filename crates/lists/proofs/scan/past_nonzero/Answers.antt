-- `scan::past_nonzero` meets its contract: the place after the last that passes is the only one behind which none does.
use Rattle.std.proofs.Common.{arith}
use Rattle.std.proofs.lemmas.Grind.{common_steps}
use Rattle.lists.specs.Scan.{nonzero}
use Rattle.lists.proofs.Words.{past_is}
use Rattle.lists.proofs.scan.past_nonzero.Goals as goal

pub returns : goal.returns
returns c = past_is nonzero c.args.s.now c.map_or.result (grind (arith, common_steps)) (λ i h k. grind (arith, common_steps)) (λ h. grind (arith, common_steps))
