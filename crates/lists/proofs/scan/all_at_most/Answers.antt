-- `scan::all_at_most` meets its contract: the largest is at most `b` exactly where each is.
use Rattle.std.proofs.Common.{rules, ◌≡◌, ◌∙◌, ap}
use Rattle.std.proofs.iter.runs.Made.{chains}
use Rattle.std.specs.List.{fold}
use Prim.Native.Nat.{max}
use lib.Dec.{leb}
use Rattle.lists.proofs.Words.{largest_is}
use Rattle.lists.proofs.scan.all_at_most.Goals as goal

pub returns : goal.returns
returns c = let b = c.args.b in
    let s = c.args.s.now in
    let q : c.fold.result ≡ fold max 0 s = search (rules, chains) in
    ap (λ n. leb n b) q ∙ largest_is b s
