-- `insert_sound` meets its contract: a frame fits a sound block, and a plan for one is ready to be carried out.
use native.Mathlib.Omega.{arith}
use Rattle.insert.proofs.Calls.{plan_ready, lent_plan, sound_by}
use Rattle.insert.proofs.insert.insert_sound.Goals as goal

pub new-block-requires : goal.new-block-requires
new-block-requires c = c.requires.0.fits

pub carry_out-requires : goal.carry_out-requires
carry_out-requires c = let e = c.new-block.ensures in
    let l = lent_plan _ _ e.0 e.1 c.new-block.result.framed c.plan_insert-p.ensures in
    (l.0, plan_ready l.0 c.requires.0 c.args.tag.now (λ i. omega (arith, c.type_inv.tag i)) (λ i. omega (arith, c.slice_known-2-1.given i)) c.requires.1 l.1)

pub returns : goal.returns
returns c = let e = c.new-block.ensures in
    let l = lent_plan _ _ e.0 e.1 c.new-block.result.framed c.plan_insert-p.ensures in
    λ s. sound_by _ _ _ s _ _ l.0 l.1 (c.carry_out.ensures s)
