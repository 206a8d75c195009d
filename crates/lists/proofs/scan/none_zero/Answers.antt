-- `scan::none_zero` meets its contract: each passes exactly where as many pass as there are.
use mathlib.Core.Path.{sym, ap, ◌∙◌}
use Prim.Native.Nat.{ℕ}
use lib.Dec.{eqb}
use lib.ListN.{length}
use Rattle.lists.specs.Scan.{nonzero}
use Rattle.lists.proofs.Tests.{all_count}
use Rattle.lists.proofs.scan.none_zero.Goals as goal

pub returns : goal.returns
returns c = let s = c.args.s.now in
    ap (λ (n : ℕ). eqb n (length s)) c.count_nonzero.ensures ∙ sym (all_count nonzero s)
