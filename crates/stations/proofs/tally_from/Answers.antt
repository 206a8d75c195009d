-- `tally_from` meets its contract: a leaf that begins so is added, and the tally keeps room for those that are left.
use Rattle.std.proofs.Common.{ℕ, ◌-◌, ◌≡◌, ◌∙◌, sym, arith}
use mathlib.Core.Path.{ap₂}
use Rattle.tally.specs.declared.Tally.{Tally}
use Rattle.stations.specs.Stations.{tally_one, tally_from}
use Rattle.stations.proofs.Steps.{one_by, small_nothing, small_one, from_next, from_over}
use Rattle.stations.proofs.tally_from.Goals as goal
use Rattle.stations.proofs.tally_from.Goals.{then-e, else-e}

pub loop-init : goal.loop-init
loop-init c =
    let b = c.args.block.now in
    let all : c.args.leaves - 0 ≡ c.args.leaves = omega arith in
    (ap₂ (λ (left : ℕ) (t : Tally). tally_from b.frame b.words.now b.keys.now c.args.beginning.now left t c.args.first) all c.nothing-t.ensures, small_nothing c.nothing-t.ensures (omega arith))

pub loop-preserved : goal.loop-preserved
loop-preserved c =
    let s = c.loop in
    let e = c.entry_at-e.result in
    let q : c.if-e.t ≡ tally_one s.t e =
    elim c.if-e.branch [
      | then-e w ↦ w.t-is ∙ w.add.ensures ∙ one_by s.t e w.if-e.true
      | else-e w ↦ w.t-is ∙ one_by s.t e w.if-e.false
    ] in
    (sym (from_next _ _ _ _ s.t s.reference e (omega arith) c.entry_at-e.ensures q) ∙ s.invariant.0, small_one s.t e q (omega arith) (omega arith) s.invariant.1)

pub returns : goal.returns
returns c =
    let s = c.loop in
    let b = c.args.block.now in
    sym (from_over b.frame b.words.now b.keys.now c.args.beginning.now _ s.t s.reference (omega arith)) ∙ s.invariant.0
