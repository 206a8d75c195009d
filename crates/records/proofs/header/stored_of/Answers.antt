-- `header::stored_of` meets its contract: each way reads the words after the count below.
use borrow.Author.Tests.{eq-eqb, ne_eqb}
use Rattle.frames.specs.Form.{stored_of}
use Rattle.records.proofs.header.stored_of.Goals as goal

pub returns-then-form-ne8 : goal.returns-then-form-ne8
unfolding stored_of
returns-then-form-ne8 c = simp (ne_eqb _ _ c.if-form-ne8.true) (rw (c.eight_in.ensures, c.word-w.ensures, c.word-v.ensures))

pub returns-then-a-rec : goal.returns-then-a-rec
unfolding stored_of
returns-then-a-rec c = simp (eq-eqb _ _ c.if-form-ne8.false) c.eight.ensures

pub returns : goal.returns
unfolding stored_of
returns c = simp (eq-eqb _ _ c.if-form-ne8.false) c.eight_or_none.ensures
