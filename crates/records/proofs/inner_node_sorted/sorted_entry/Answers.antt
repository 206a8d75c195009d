-- `inner_node_sorted::sorted_entry` meets its contract: the n-th key and the n-th reference make the n-th child.
use mathlib.Core.Path.{sym}
use Rattle.records.proofs.Rows.{sorted_at, sorted_none}
use Rattle.records.proofs.inner_node_sorted.sorted_entry.Goals as goal

pub returns-then-i-n : goal.returns-then-i-n
returns-then-i-n c = sym (sorted_at c.args.k c.args.body.now c.args.n c.requires.1 c.requires.0 c.args.i c.if-i-n.true)

pub returns-else-i-n : goal.returns-else-i-n
returns-else-i-n c = sym (sorted_none c.args.k c.args.body.now c.args.n c.requires.1 c.requires.0 c.args.i c.if-i-n.false)
