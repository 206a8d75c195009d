-- `leaf_plan` meets its contract: by whether a leaf is free.
use native.Mathlib.Omega.{arith}
use Rattle.frames.proofs.Frames.{framed, caps_most}
use Rattle.insert.proofs.Planning.{leaf_free, leaf_none}
use Rattle.insert.proofs.plan.leaf_plan.Goals as goal

pub overflow_cast-n : goal.overflow_cast-n
overflow_cast-n c = omega (arith, c.if-n-block.true, caps_most (framed c.args.block.now.framed) 5 (omega arith))

pub returns-then-n-block : goal.returns-then-n-block
returns-then-n-block c = search leaf_free

pub returns : goal.returns
returns c = search leaf_none
