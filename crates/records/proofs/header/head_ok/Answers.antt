-- `header::head_ok` meets its contract: each part of the test is the definition's, by what the calls ensure.
use Rattle.records.specs.Own.{head_ok}
use Rattle.records.proofs.header.head_ok.Goals as goal

pub returns : goal.returns
unfolding head_ok
returns c = rw (c.all_at_most-rest.ensures, c.all_at_most-bytes.ensures, ← c.stored_len-s.ensures, ← c.stored_of-stored.ensures)
