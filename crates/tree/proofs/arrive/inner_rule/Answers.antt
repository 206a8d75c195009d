-- `arrive::inner_rule` meets its contract: the record's part is tested.
use Rattle.tree.proofs.arrive.inner_rule.Goals as goal

pub returns : goal.returns
returns c = rw (← c.record_words.ensures.0) c.inner_ok.ensures
