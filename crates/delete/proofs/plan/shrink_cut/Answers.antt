-- `shrink_cut` meets its contract: by whether the next smaller kind has a free record.
use Prim.Native.Nat.{◌-◌, ◌%◌}
use mathlib.Core.Path.{ap, ◌∙◌}
use native.Mathlib.Omega.{arith}
use Rattle.frames.proofs.Frames.{framed, caps_most}
use Rattle.delete.specs.declared.plan.Cut.TheVariants.{Shrink}
use Rattle.delete.proofs.Planning.{shrink_free, shrink_none}
use Rattle.delete.proofs.plan.shrink_cut.Goals as goal

pub reference_to-requires : goal.reference_to-requires
reference_to-requires c = (omega (arith, c.requires), omega (arith, c.if-n-block.true, caps_most (framed c.args.block.now.framed) (c.args.reference % 8 - 1) (omega arith)))

pub returns-then-n-block : goal.returns-then-n-block
returns-then-n-block c = ap (λ r. Shrink c.args.upper c.args.reference r c.args.byte) c.reference_to.ensures
    ∙ shrink_free _ _ _ _ _ c.lowest_free-n.ensures c.if-n-block.true

pub returns : goal.returns
returns c = shrink_none _ _ _ _ _ c.lowest_free-n.ensures c.if-n-block.false
