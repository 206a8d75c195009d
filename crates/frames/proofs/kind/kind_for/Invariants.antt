-- `kind::kind_for` meets its contract: no kind before the present one holds so many children.
use Rattle.frames.proofs.KindFor.{Past}
use Rattle.frames.proofs.kind.kind_for.Given as goal

abbrev pub invariant-loop-kind : goal.invariant-loop-kind
invariant-loop-kind l = Past l.children l.kind
