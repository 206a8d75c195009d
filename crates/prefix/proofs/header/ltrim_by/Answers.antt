-- `prefix::header::ltrim_by` meets its contract: the stored bytes from `n` on are what dropping `n` of the held ones leaves.
use native.Mathlib.Omega.{arith}
use Rattle.prefix.proofs.Runs.{ltrim_by}
use Rattle.prefix.proofs.header.ltrim_by.Goals as goal

pub returns : goal.returns
returns c = let s = c.args in
    ltrim_by s.p s.n c.joined.ensures c.stored_len-s.ensures (omega arith)
