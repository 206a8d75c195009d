-- `form::sizes_of` meets its contract: the four kinds' sizes, each by the same call, and a leaf's six words.
use Rattle.frames.proofs.form.sizes_of.Goals as goal

pub returns : goal.returns
returns c = rw (c.record_words-z1.ensures.0, c.record_words-z2.ensures.0, c.record_words-z3.ensures.0, c.record_words-z4.ensures.0)
