-- `frame::frame_at` meets its contract: a frame that fits has 16 words, a known form and small capacities.
use native.Mathlib.Omega.{arith}
use lib.ListN.{length-take, length-drop}
use Rattle.frames.proofs.Frames.{totals}
use Rattle.frames.proofs.frame.frame_at.Goals as goal

pub overflow_sub-a : goal.overflow_sub-a
overflow_sub-a c = omega (arith, totals c.args.words.now c.args.keys.now c.requires)

pub frame_of-requires : goal.frame_of-requires
frame_of-requires c = let z = totals c.args.words.now c.args.keys.now c.requires in
    (simp (length-take, length-drop) (omega arith), (z.known, z.small))
