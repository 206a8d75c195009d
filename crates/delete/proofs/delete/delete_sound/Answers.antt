-- `delete_sound` meets its contract: a frame fits a sound block, and a plan for one is ready to be carried out.
use native.Mathlib.Omega.{arith}
use Rattle.delete.proofs.Calls.{plan_ready, lent_plan, sound_by}
use Rattle.delete.proofs.delete.delete_sound.Goals as goal

pub new-block-requires : goal.new-block-requires
new-block-requires c = c.requires.fits

pub carry_out-requires : goal.carry_out-requires
carry_out-requires c = let e = c.new-block.ensures in
    let l = lent_plan _ _ e.0 e.1 c.new-block.result.framed c.plan_delete-p.ensures in
    (l.0, plan_ready l.0 c.requires c.args.tag.now (λ i. omega (arith, c.type_inv.tag i)) l.1)

pub returns : goal.returns
returns c = let e = c.new-block.ensures in
    let l = lent_plan _ _ e.0 e.1 c.new-block.result.framed c.plan_delete-p.ensures in
    λ s. sound_by _ _ _ s _ l.0 l.1 (c.carry_out.ensures s)
