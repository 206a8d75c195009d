-- `representation::change_child` meets its contract: the body is the part of the record after its head, and the count, which is 2 or more, is in word 1.
use mathlib.Core.Path.{ap₂}
use native.Mathlib.Omega.{arith}
use lib.ListN.{set}
use Rattle.lists.specs.Part.{splice}
use Rattle.frames.proofs.KindTable.{kind_rules}
use Rattle.records.specs.Own.{child_at}
use Rattle.records.proofs.Owns.{body_fits, inner_rule}
use Rattle.edits.specs.Record.{change_of}
use Rattle.edits.proofs.representation.change_child.Goals as goal

pub body_change-requires : goal.body_change-requires
unfolding child_at
body_change-requires c = rw (c.record_words-e.ensures.0, c.header_of-h.ensures.0, c.num-n.ensures.0) (body_fits c.requires.0, c.requires.1)

pub count_in-requires : goal.count_in-requires
count_in-requires c = let a = c.args in
    let w = c.requires.0 in
    omega (arith, c.num-n.ensures.0, (inner_rule a.form a.kind a.rec.now w.ok).head.two, (body_fits w).few, (kind_rules a.kind w.low w.high).most)

pub returns : goal.returns
unfolding change_of splice
returns c = rw (← c.record_words-e.ensures.0, ← c.header_of-h.ensures.0, ← c.num-n.ensures.0) (ap₂ (λ b m. set (splice c.args.rec.now c.header_of-h.result c.record_words-e.result b) 1 m) c.body_change.ensures c.count_in.ensures)
