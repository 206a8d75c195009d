-- `prefix::header::first_eight` meets its contract: the closure gives the run's byte at each place.
use borrow.Author.Rules.{rules}
use Rattle.prefix.proofs.Eights.{eight_made}
use Rattle.prefix.proofs.header.first_eight.Goals as goal

pub returns : goal.returns
returns c = eight_made _ _ c.args.run.now (λ i y q k. search rules) c.from_fn.result c.from_fn.ensures.items
