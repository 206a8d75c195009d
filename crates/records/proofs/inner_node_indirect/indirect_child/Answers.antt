-- `inner_node_indirect::indirect_child` meets its contract: slot number s names the s-th reference, and a number past 48 names none.
use borrow.Author.Tests.{eq-eqb}
use Rattle.records.specs.Own.{indirect_child}
use Rattle.records.proofs.Rows.{slot_in, slot_out}
use Rattle.records.proofs.inner_node_indirect.indirect_child.Goals as goal

pub returns-then-slot-eq0 : goal.returns-then-slot-eq0
unfolding indirect_child
returns-then-slot-eq0 c = simp (← c.num-slot.ensures.0, eq-eqb _ _ c.if-slot-eq0.true)

pub returns-then-slot-le-SLOTS : goal.returns-then-slot-le-SLOTS
unfolding indirect_child
returns-then-slot-le-SLOTS c = rw (← c.num-slot.ensures.0) (slot_in c.args.body.now c.num-slot.result c.if-slot-eq0.false c.if-slot-le-SLOTS.true)

pub returns : goal.returns
unfolding indirect_child
returns c = rw (← c.num-slot.ensures.0) (slot_out c.args.body.now c.num-slot.result c.requires.1 c.if-slot-le-SLOTS.false)
