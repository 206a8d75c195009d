-- `compare::less_bytes` meets its contract: what both share decides by the end of either, or by the first bytes that differ.
use native.Mathlib.Omega.{arith}
use Rattle.std.proofs.lemmas.Grind.{common_steps}
use Rattle.lists.proofs.Compares.{shared_le, less_out, less_end, less_at}
use Rattle.lists.proofs.compare.less_bytes.Goals as goal

pub returns : goal.returns
returns c = let s = c.args.s.now in
    let t = c.args.t.now in
    grind (arith, common_steps, shared_le s t, less_out s t, less_end s t, less_at s t)
