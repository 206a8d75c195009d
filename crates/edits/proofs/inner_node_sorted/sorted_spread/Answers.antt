use mathlib.Core.Path.{refl, ap, ◌∙◌}
use native.Mathlib.Omega.{arith}
use borrow.Author.Rules.{rules}
use Rattle.edits.specs.Body.{sorted_spread}
use Rattle.edits.proofs.Spreads.{spread_none, keys_long, key_byte, spread_on}
use Rattle.edits.proofs.inner_node_sorted.sorted_spread.Goals as goal

pub loop-i-init : goal.loop-i-init
loop-i-init c = (refl, spread_none _ _)

pub bounds-places-byte : goal.bounds-places-byte
bounds-places-byte c = let r = c.requires in
    key_byte c.args.k c.args.body.now c.args.n r.0.0 r.0.1 r.1 c.loop-i.i c.loop-i-test.true

pub loop-i-preserved : goal.loop-i-preserved
loop-i-preserved c = let r = c.requires in
    (search rules, spread_on c.args.k c.args.body.now c.args.n r.0.0 r.0.1 r.1 c.loop-i.i c.loop-i.invariant.1 c.loop-i-test.true)

pub returns : goal.returns
returns c = let r = c.requires in
    let all = keys_long c.args.k c.args.body.now c.args.n r.0.0 r.0.1 r.1 in
    c.loop-i.invariant.1 ∙ ap (sorted_spread c.args.k c.args.body.now) (omega (arith, all))
