-- `frame::trailer_word` meets its contract: a word of the last 16 is a word of the trailer.
use Prim.Native.Nat.{◌-◌}
use mathlib.Core.Path.{sym}
use native.Mathlib.Omega.{arith}
use lib.ListN.{length}
use Rattle.lists.proofs.Parts.{between_at}
use Rattle.frames.proofs.frame.trailer_word.Goals as goal

pub returns : goal.returns
returns c = sym (between_at c.args.words.now (length c.args.words.now - 16) (length c.args.words.now) c.args.i (omega arith))
