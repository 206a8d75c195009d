-- `representation::build` meets its contract: the body is laid over zeros, then the head, which does not reach into it.
use native.Mathlib.Omega.{arith}
use lib.ListN.{length}
use Rattle.lists.specs.Part.{splice}
use Rattle.frames.proofs.KindTable.{kind_rules}
use Rattle.edits.proofs.Builds.{zeros_body, built}
use Rattle.edits.proofs.representation.build.Goals as goal

pub body_fill-requires : goal.body_fill-requires
body_fill-requires c = ((c.requires.0.0, zeros_body c.args.form c.args.kind c.fill.new.self (length c.args.rec.now) c.header_of-h.result c.record_words-e.result (c.fill.ensures.after (λ y e. e)) c.requires.0.1 c.header_of-h.ensures.0 c.record_words-e.ensures.0), c.requires.1.1)

pub overflow_cast-n : goal.overflow_cast-n
overflow_cast-n c = omega (arith, c.count_nonzero-n.ensures, c.requires.1.1, (kind_rules c.args.kind c.requires.0.0.0 c.requires.0.0.1).most)

pub returns : goal.returns
unfolding splice
returns c = built c.args.form c.args.kind c.fill.new.self (length c.args.rec.now) c.header_of-h.result c.record_words-e.result (c.fill.ensures.after (λ y e. e)) c.requires.0.1 c.header_of-h.ensures.0 c.record_words-e.ensures.0 c.requires.1.0 c.args.p c.args.places c.body_fill.new.body c.count_nonzero-n.result c.count_nonzero-n.ensures c.body_fill.ensures c.set_head.ensures
