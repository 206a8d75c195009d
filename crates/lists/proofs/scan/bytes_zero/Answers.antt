-- `scan::bytes_zero` meets its contract: no bit is set in any exactly where each is 0.
use Rattle.std.proofs.Common.{rules, ◌≡◌, ◌∙◌, ap}
use Rattle.std.proofs.iter.runs.Made.{chains}
use Rattle.std.specs.List.{fold}
use lib.Dec.{eqb}
use lib.Bits.{bit_or}
use Rattle.lists.proofs.Words.{fold_bits}
use Rattle.lists.proofs.scan.bytes_zero.Goals as goal

pub returns : goal.returns
returns c = let q : c.fold.result ≡ fold bit_or 0 c.args.s.now = search (rules, chains) in
    ap (λ n. eqb n 0) q ∙ fold_bits 0 c.args.s.now
