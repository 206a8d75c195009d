-- `links::set_previous` meets its contract: it is the link to the leaf before.
use Rattle.pools.specs.Link.{set_previous}
use Rattle.pools.proofs.links.set_previous.Goals as goal

pub returns : goal.returns
unfolding set_previous
returns c = c.set_link.ensures
