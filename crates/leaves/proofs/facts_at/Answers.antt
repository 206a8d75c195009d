-- `leaves::facts_at` meets its contract: the length and the total are read from the leaf's words.
use Rattle.leaves.proofs.facts_at.Goals as goal

pub returns : goal.returns
returns c = rw (← c.leaf_words-rec.ensures.0, c.tag_len.ensures.0, c.total_of.ensures)
