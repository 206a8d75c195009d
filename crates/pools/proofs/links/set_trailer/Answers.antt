-- `links::set_trailer` meets its contract: the word stands in the last 16.
use mathlib.Core.Path.{refl}
use Rattle.pools.specs.Link.{set_trailer}
use Rattle.pools.proofs.links.set_trailer.Goals as goal

pub returns : goal.returns
unfolding set_trailer
returns c = refl
