-- `prefix::header::split` meets its contract: a prefix of at most eight bytes is cut in place, a longer one read again from the leaf.
use mathlib.Core.Path.{sym, ◌∙◌}
use native.Mathlib.Omega.{arith}
use Rattle.prefix.proofs.Runs.{split_short, split_long}
use Rattle.prefix.proofs.header.split.Goals as goal

pub ltrim_by-requires : goal.ltrim_by-requires
ltrim_by-requires c = omega arith

pub returns-then-full-le8 : goal.returns-then-full-le8
returns-then-full-le8 c = let s = c.args in
    c.ltrim_by.ensures ∙ sym (split_short s.p s.n s.leaf.now s.depth (omega arith))

pub returns : goal.returns
returns c = let s = c.args in
    c.prefix_of.ensures ∙ sym (split_long s.p s.n s.leaf.now s.depth (omega arith))
