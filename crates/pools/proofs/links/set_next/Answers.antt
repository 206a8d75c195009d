-- `links::set_next` meets its contract: it is the link to the leaf after.
use Rattle.pools.specs.Link.{set_next}
use Rattle.pools.proofs.links.set_next.Goals as goal

pub returns : goal.returns
unfolding set_next
returns c = c.set_link.ensures
