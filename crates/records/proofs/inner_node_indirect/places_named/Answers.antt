use mathlib.Core.Path.{refl, ◌∙◌}
use native.Mathlib.Omega.{arith}
use borrow.Author.Tests.{eq-eqb, ne_eqb}
use Rattle.records.proofs.Slots.{named_start, named_on, named_off, named_end, tallied_test}
use Rattle.records.proofs.inner_node_indirect.places_named.Goals as goal

pub loop-place-init : goal.loop-place-init
loop-place-init c = named_start

pub returns-then-t-place : goal.returns-then-t-place
returns-then-t-place c = named_off c.loop-place.invariant (tallied_test c.tally-t.ensures c.loop-place.place _ _ _ refl (omega arith) c.filled.ensures ∙ ne_eqb _ _ c.if-t-place.true) (omega arith)

pub loop-place-preserved : goal.loop-place-preserved
loop-place-preserved c = named_on c.loop-place.invariant (tallied_test c.tally-t.ensures c.loop-place.place _ _ _ refl (omega arith) c.filled.ensures ∙ eq-eqb _ _ c.if-t-place.false) (omega arith)

pub returns : goal.returns
returns c = named_end c.loop-place.invariant (omega arith)
