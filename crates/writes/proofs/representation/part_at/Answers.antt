-- `representation::part_at` meets its contract: a place of a pool ends before the trailer.
use Prim.Native.Nat.{◌+◌}
use mathlib.Core.Path.{sym, ap₂, ◌∙◌}
use native.Mathlib.Omega.{arith}
use Rattle.frames.proofs.Frames.{framed}
use Rattle.writes.proofs.Spots.{room_of}
use Rattle.writes.proofs.representation.part_at.Goals as goal

pub start_at-start-requires : goal.start_at-start-requires
start_at-start-requires c = (framed c.requires.0, c.requires.1.pool)

pub record_words-requires : goal.record_words-requires
record_words-requires c = let r = room_of c.requires.0 c.args.reference c.requires.1 in
    (r.low, r.high)

pub overflow_add-end : goal.overflow_add-end
overflow_add-end c = omega (arith, c.start_at-start.ensures, c.record_words.ensures.0, (room_of c.requires.0 c.args.reference c.requires.1).ends)

pub returns : goal.returns
returns c = let r = room_of c.requires.0 c.args.reference c.requires.1 in
    (c.start_at-start.ensures, (ap₂ (λ a n. a + n) c.start_at-start.ensures (c.record_words.ensures.0 ∙ sym r.size), omega (arith, c.start_at-start.ensures, c.record_words.ensures.0, r.ends)))
