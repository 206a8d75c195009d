-- `fork_choice` meets its contract: by whether there is a free record of any kind.
use mathlib.Core.Path.{ap, ◌∙◌}
use native.Mathlib.Omega.{arith}
use Rattle.std.specs.Prelude.{Some}
use Rattle.insert.specs.declared.plan.Site.TheVariants.{Fork}
use Rattle.insert.proofs.Planning.{free_small, fork_by}
use Rattle.insert.proofs.plan.fork_choice.Goals as goal

pub returns-in_err-k : goal.returns-in_err-k
returns-in_err-k c = c.from_residual.ensures ∙ fork_by _ _ _ _ _ _ _ c.smallest_free.ensures c.in_err-k.was

pub reference_to-requires : goal.reference_to-requires
reference_to-requires c = free_small c.args.block.now.framed 1 (omega arith) c.smallest_free.ensures c.in_ok-k.was

pub returns : goal.returns
returns c = let a = c.args in
    ap (λ r. Some (Fork a.up a.reference r a.leaf a.d a.c)) c.reference_to.ensures
    ∙ fork_by _ _ _ _ _ _ _ c.smallest_free.ensures c.in_ok-k.was
