-- `prefix::header::push_prefix` meets its contract: the new bytes come after the held ones, and the two lengths are counted apart.
use native.Mathlib.Omega.{arith}
use Rattle.prefix.proofs.Runs.{push_by}
use Rattle.prefix.proofs.header.push_prefix.Goals as goal

pub slice_bounds-joined-end : goal.slice_bounds-joined-end
slice_bounds-joined-end c = omega arith

pub returns : goal.returns
returns c = let s = c.args in
    push_by s.p s.new.now s.len c.joined.ensures c.stored_len-held.ensures
