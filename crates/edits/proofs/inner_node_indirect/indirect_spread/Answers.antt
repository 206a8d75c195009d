use mathlib.Core.Path.{refl}
use Rattle.lists.proofs.Built.{built_start, built_on, built_end}
use Rattle.edits.specs.Body.{slot_spread}
use Rattle.edits.proofs.Spreads.{slot_spread_long, slot_spread_at}
use Rattle.edits.proofs.inner_node_indirect.indirect_spread.Goals as goal

pub loop-byte-init : goal.loop-byte-init
loop-byte-init c = built_start refl

pub loop-byte-preserved : goal.loop-byte-preserved
loop-byte-preserved c = built_on c.loop-byte.invariant _ c.indirect_child.ensures c.loop-byte-test.true

pub returns : goal.returns
returns c = let b = c.args.body.now in
    built_end c.loop-byte.invariant c.loop-byte-test.false (slot_spread b) (slot_spread_long b c.requires) (slot_spread_at b)
