-- `compare::shared_words` meets its contract: the pairs before the count agree and the one there does not, and there is only one such length.
use Rattle.std.proofs.Common.{sym, arith}
use Rattle.std.proofs.lemmas.Grind.{common_steps}
use Rattle.lists.proofs.Compares.{shared_is}
use Rattle.lists.proofs.compare.shared_words.Goals as goal

pub returns : goal.returns
returns c = let s = c.args.s.now in
    let t = c.args.t.now in
    sym (shared_is s t c.count.result (grind (arith, common_steps)) (grind (arith, common_steps)) (λ i h. grind (arith, common_steps)) (λ h k e. grind (arith, common_steps)))
