-- `arrive::arrive` meets its contract: each return is a case of `arrival_at`.
use mathlib.Core.Path.{sym, ◌∙◌}
use Rattle.tree.proofs.Arrivals.{fails, holds, leaf_named, inner_named, leaf_in, rule_leaf, inner_in, rule_inner, arrive_outside, arrive_breaks, arrive_leaf, arrive_spent, arrive_inner}
use Rattle.tree.proofs.arrive.arrive.Goals as goal

pub returns-then-not-has : goal.returns-then-not-has
returns-then-not-has c = arrive_outside _ _ _ _ _ (fails c.has.ensures c.if-not-has.true)

pub leaf_rule-requires : goal.leaf_rule-requires
leaf_rule-requires c = let p = holds c.has.ensures c.if-not-has.false in
    leaf_in c.args.block.now.framed _ _ _ (leaf_named c.args.reference c.if-reference-eq-LEAF.true) c.start_at-start.ensures p

pub returns-then-leaf_rule : goal.returns-then-leaf_rule
returns-then-leaf_rule c = let p = holds c.has.ensures c.if-not-has.false in
    let e = leaf_named c.args.reference c.if-reference-eq-LEAF.true in
    let r = rule_leaf c.args.block.now.framed _ _ _ e c.start_at-start.ensures p c.leaf_rule.ensures in
    arrive_leaf _ _ _ _ _ p (sym r ∙ c.if-leaf_rule.true) _ c.start_at-start.ensures _ e

pub returns-then-reference-eq-LEAF : goal.returns-then-reference-eq-LEAF
returns-then-reference-eq-LEAF c = let p = holds c.has.ensures c.if-not-has.false in
    let e = leaf_named c.args.reference c.if-reference-eq-LEAF.true in
    let r = rule_leaf c.args.block.now.framed _ _ _ e c.start_at-start.ensures p c.leaf_rule.ensures in
    arrive_breaks _ _ _ _ _ p (sym r ∙ c.if-leaf_rule.false)

pub inner_rule-requires : goal.inner_rule-requires
inner_rule-requires c = let p = holds c.has.ensures c.if-not-has.false in
    inner_in c.args.block.now.framed _ _ _ _ (inner_named c.args.reference c.if-reference-eq-LEAF.false) c.start_at-start.ensures p

pub returns-then-not-inner_rule : goal.returns-then-not-inner_rule
returns-then-not-inner_rule c = let p = holds c.has.ensures c.if-not-has.false in
    let e = inner_named c.args.reference c.if-reference-eq-LEAF.false in
    let r = rule_inner c.args.block.now.framed _ _ _ _ e c.start_at-start.ensures p c.inner_rule.ensures in
    arrive_breaks _ _ _ _ _ p (fails r c.if-not-inner_rule.true)

pub returns-then-left-eq0 : goal.returns-then-left-eq0
returns-then-left-eq0 c = let p = holds c.has.ensures c.if-not-has.false in
    let e = inner_named c.args.reference c.if-reference-eq-LEAF.false in
    let r = rule_inner c.args.block.now.framed _ _ _ _ e c.start_at-start.ensures p c.inner_rule.ensures in
    arrive_spent _ _ _ _ _ p (holds r c.if-not-inner_rule.false) _ c.start_at-start.ensures _ _ e c.if-left-eq0.true

pub returns : goal.returns
returns c = let p = holds c.has.ensures c.if-not-has.false in
    let e = inner_named c.args.reference c.if-reference-eq-LEAF.false in
    let r = rule_inner c.args.block.now.framed _ _ _ _ e c.start_at-start.ensures p c.inner_rule.ensures in
    arrive_inner _ _ _ _ _ p (holds r c.if-not-inner_rule.false) _ c.start_at-start.ensures _ _ e c.if-left-eq0.false
