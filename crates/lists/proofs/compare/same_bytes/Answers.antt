-- `compare::same_bytes` meets its contract: of two runs of one length that begins the other exactly where they are the same.
use Rattle.std.proofs.Common.{◌∙◌, sym, ap}
use Rattle.lists.proofs.Compares.{same_begins, ne_same}
use lib.ListN.{length}
use Rattle.lists.proofs.compare.same_bytes.Goals as goal

pub returns-then-s-t : goal.returns-then-s-t
returns-then-s-t c = sym (ne_same c.args.s.now c.args.t.now (λ e. c.if-s-t.true (ap length e)))

pub returns : goal.returns
returns c = c.begins_bytes.ensures ∙ same_begins c.args.s.now c.args.t.now c.if-s-t.false
