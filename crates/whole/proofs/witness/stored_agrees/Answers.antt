-- `witness::stored_agrees` meets its contract: all stored bytes are shared.
use native.Mathlib.Omega.{arith}
use Rattle.whole.proofs.Witnesses.{stored_short, stored_by}
use Rattle.whole.proofs.witness.stored_agrees.Goals as goal

pub returns-then-w-depth : goal.returns-then-w-depth
returns-then-w-depth c = let s = c.args in
    stored_short s.depth s.p s.w.now (omega arith) c.stored_len-n.ensures

pub returns : goal.returns
returns c = let s = c.args in
    stored_by s.depth s.p s.w.now c.shared_words-m.ensures c.stored_len-n.ensures
