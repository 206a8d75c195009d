-- `scan::first_at_least` meets its contract: `position` finds the first that passes.
use Rattle.std.proofs.Common.{rules, ◌∙◌}
use Rattle.std.proofs.lemmas.Iterator.{YieldsList-from_slice}
use Rattle.std.proofs.lemmas.Iterator.Search.{position_from_yields_List}
use borrow.Author.Tests.{tests}
use Rattle.lists.specs.Scan.{at_least}
use Rattle.lists.proofs.Words.{first_found}
use Rattle.lists.proofs.scan.first_at_least.Goals as goal

pub returns : goal.returns
returns c = let x = c.args.x in
    let s = c.args.s.now in
    c.unwrap_or.ensures ∙ first_found (at_least x) s c.position.result (position_from_yields_List (at_least x) _ _ _ c.position.ensures.ran (YieldsList-from_slice s cc) (λ x b q k. search (rules, tests)))
