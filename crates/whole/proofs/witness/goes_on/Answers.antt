-- `witness::goes_on` meets its contract: the two tags share `e` bytes or more.
use native.Mathlib.Omega.{arith}
use Rattle.whole.proofs.Witnesses.{goes_by, goes_out}
use Rattle.whole.proofs.witness.goes_on.Goals as goal

pub returns-then-e-t : goal.returns-then-e-t
returns-then-e-t c = let s = c.args in
    goes_by s.e s.w.now s.byte s.t.now (omega arith) c.shared_bytes-n.ensures

pub returns : goal.returns
returns c = let s = c.args in
    goes_out s.e s.w.now s.byte s.t.now (omega arith)
