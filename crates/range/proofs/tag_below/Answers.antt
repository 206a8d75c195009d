-- `tag_below` meets its contract: the tag is the front of the leaf's key bytes.
use Rattle.range.proofs.Steps.{tag_by}
use Rattle.range.proofs.tag_below.Goals as goal

pub returns : goal.returns
returns c = tag_by _ _ _ c.tag_len-n.ensures.0 c.less_bytes.ensures
