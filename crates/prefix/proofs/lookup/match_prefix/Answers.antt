-- `prefix::lookup::match_prefix` meets its contract: each return is a case of `match_of`, by how many of the stored bytes agreed and by the room left.
use mathlib.Core.Path.{◌∙◌}
use native.Mathlib.Omega.{arith}
use Rattle.prefix.proofs.Matches.{match_lengths, match_differs, match_short, match_on, skipped_on, stored_on}
use Rattle.prefix.proofs.lookup.match_prefix.Goals as goal

pub returns-in-Optimistic : goal.returns-in-Optimistic
returns-in-Optimistic c = let s = c.args in
    c.match_length.ensures ∙ match_lengths s.p s.tag.now s.depth c.in-Optimistic.is

pub returns-then-agreed-k : goal.returns-then-agreed-k
returns-then-agreed-k c = let s = c.args in
    match_differs s.p s.tag.now s.depth c.in_default.is c.shared_words-agreed.ensures c.stored_len-s.ensures c.if-agreed-k.true

pub returns-then-tag-depth : goal.returns-then-tag-depth
returns-then-tag-depth c = let s = c.args in
    match_short s.p s.tag.now s.depth c.in_default.is c.shared_words-agreed.ensures c.stored_len-s.ensures
    (omega (arith, c.if-tag-depth.true))

pub returns-then-n-gt8 : goal.returns-then-n-gt8
returns-then-n-gt8 c = let s = c.args in
    match_on s.p s.tag.now s.depth c.in_default.is c.shared_words-agreed.ensures c.stored_len-s.ensures
    c.if-agreed-k.false (omega (arith, c.if-tag-depth.false)) (skipped_on s.p.full.0 c.if-n-gt8.true)

pub returns : goal.returns
returns c = let s = c.args in
    match_on s.p s.tag.now s.depth c.in_default.is c.shared_words-agreed.ensures c.stored_len-s.ensures
    c.if-agreed-k.false (omega (arith, c.if-tag-depth.false)) (stored_on s.p.full.0 c.if-n-gt8.false)
