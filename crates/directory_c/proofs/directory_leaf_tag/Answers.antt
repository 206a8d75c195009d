-- `directory_c::directory_leaf_tag` meets its contract: no bytes are 0 and 0, else the leaf's first key byte and the tag's length.
use mathlib.Core.Path.{sym, ap, ◌∙◌}
use lib.ListN.{length}
use Rattle.directory_c.proofs.Promises.{replies}
use borrow.Author.Tests.{eq-eqb, ne_eqb}
use Rattle.directory_c.specs.Numbers.{part_of}
use Rattle.directory_c.proofs.directory_leaf_tag.Goals as goal

pub returns-then-n-eq0 : goal.returns-then-n-eq0
unfolding part_of
returns-then-n-eq0 c = replies tt (simp (eq-eqb _ _ (sym (ap length c.leaf_tag-tag.ensures) ∙ c.if-n-eq0.true)))

pub returns : goal.returns
unfolding part_of
returns c = let e = ap length c.leaf_tag-tag.ensures in
    replies tt (rw (c.tag_start.ensures, e) (simp (ne_eqb _ _ (λ z. c.if-n-eq0.false (e ∙ z)))))
