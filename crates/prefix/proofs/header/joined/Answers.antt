-- `prefix::header::joined` meets its contract: the closure gives the number of the two runs at each place.
use mathlib.Core.List.{◌++◌}
use borrow.Author.Rules.{rules}
use Rattle.prefix.proofs.Eights.{eight_made}
use Rattle.prefix.proofs.header.joined.Goals as goal

pub returns : goal.returns
returns c = let a = c.args in
    eight_made _ _ (a.s.now ++ a.t.now) (λ i y q k. search rules) c.from_fn.result c.from_fn.ensures.items
