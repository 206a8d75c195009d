-- `lookup::at_inner` meets its contract: past the prefix the tag has a byte more, and the child for it is the next reference.
use mathlib.Core.Path.{sym, ◌∙◌}
use native.Mathlib.Omega.{arith}
use Rattle.prefix.proofs.Matches.{match_within}
use Rattle.records.proofs.Owns.{inner_rule}
use Rattle.tree.proofs.Walks.{inner_off, inner_none, inner_next}
use Rattle.tree.proofs.lookup.at_inner.Goals as goal

pub returns-in_default : goal.returns-in_default
returns-in_default c = inner_off _ _ _ _ _ _ _ c.prefix_at-p.ensures _ (sym c.match_prefix-m.ensures ∙ c.in_default.is)

pub bounds-tag-d : goal.bounds-tag-d
bounds-tag-d c = (match_within _ _ _ _ (sym c.match_prefix-m.ensures ∙ c.in-On.is)).1

pub lookup_child-child-requires : goal.lookup_child-child-requires
lookup_child-child-requires c = let w = c.requires.0 in
    ((w.low, w.high), (w.long, (inner_rule _ _ _ w.ok).few))

pub returns-then-child-eq0 : goal.returns-then-child-eq0
returns-then-child-eq0 c = inner_none _ _ _ _ _ _ _ c.prefix_at-p.ensures _ _ (sym c.match_prefix-m.ensures ∙ c.in-On.is) _
    c.lookup_child-child.ensures c.if-child-eq0.true

pub overflow_add-result : goal.overflow_add-result
overflow_add-result c = omega (arith, (match_within _ _ _ _ (sym c.match_prefix-m.ensures ∙ c.in-On.is)).1)

pub returns : goal.returns
returns c = inner_next _ _ _ _ _ _ _ c.prefix_at-p.ensures _ _ (sym c.match_prefix-m.ensures ∙ c.in-On.is) _
    c.lookup_child-child.ensures c.if-child-eq0.false
