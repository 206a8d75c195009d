-- `edit::pad_bytes` meets its contract: the places filled so far have the bytes of `from`, which past its end are read as 0.
use lib.ListN.{length, get_or}
use Rattle.lists.proofs.Built.{Built}
use Rattle.lists.proofs.edit.pad_bytes.Given as goal

abbrev pub invariant-loop-j : goal.invariant-loop-j
invariant-loop-j l = Built (λ k. get_or l.from k 0) (length l.initial.to) l.to l.j
