-- `lookup::inner_at` meets its contract: the record lies within the words.
use Rattle.tree.proofs.lookup.inner_at.Goals as goal

pub at_inner-requires : goal.at_inner-requires
at_inner-requires c = rw c.record_words.ensures.0 (c.requires.0.fits, c.requires.1)

pub returns : goal.returns
returns c = rw (← c.record_words.ensures.0) c.at_inner.ensures
