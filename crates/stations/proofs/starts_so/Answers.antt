-- `starts_so` meets its contract: the tag is the front of the leaf's key bytes.
use Rattle.stations.proofs.Steps.{starts_long, starts_by}
use Rattle.stations.proofs.starts_so.Goals as goal

pub returns-then-key-n : goal.returns-then-key-n
returns-then-key-n c = starts_long _ _ _ c.tag_len-n.ensures.0 c.if-key-n.true

pub returns : goal.returns
returns c = starts_by _ _ _ c.tag_len-n.ensures.0 c.if-key-n.false c.begins_bytes.ensures
