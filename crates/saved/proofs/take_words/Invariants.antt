-- `take_words` meets its contract: the places filled so far have the numbers of the file, in their order.
use Prim.Native.Nat.{◌+◌, ◌*◌}
use lib.ListN.{length}
use Rattle.lists.proofs.Built.{Built}
use Rattle.saved.specs.Saved.{number_at}
use Rattle.saved.proofs.take_words.Given as goal

abbrev pub invariant-loop-i : goal.invariant-loop-i
invariant-loop-i l = Built (λ k. number_at l.file (4 + 4 * k)) (length l.initial.words) l.words l.i
