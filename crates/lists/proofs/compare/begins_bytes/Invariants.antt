-- `compare::begins_bytes` meets its contract: a longer run begins none; of others `ok` says whether they agree before `i`, and with what is left it is the answer.
use Rattle.lists.proofs.Compares.{Begins}
use Rattle.lists.proofs.compare.begins_bytes.Given as goal

abbrev pub invariant-loop-i : goal.invariant-loop-i
invariant-loop-i l = Begins l.s l.t l.i l.ok
