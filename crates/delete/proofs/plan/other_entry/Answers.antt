-- `other_entry` meets its contract: the first child, or the last where the first is for the byte.
use mathlib.Core.Path.{◌∙◌}
use native.Mathlib.Omega.{arith}
use Rattle.delete.proofs.Planning.{other_by, other_last, other_first}
use Rattle.delete.proofs.plan.other_entry.Goals as goal

pub returns-in_err-b : goal.returns-in_err-b
returns-in_err-b c = c.from_residual.ensures ∙ other_by _ _ c.nth_child-low.ensures c.in_err-b.was

pub returns-then-b-byte : goal.returns-then-b-byte
returns-then-b-byte c = c.last_child.ensures ∙ other_last c.args.byte _ _ _ (omega arith) ∙ other_by _ _ c.nth_child-low.ensures c.in_ok-b.was

pub returns : goal.returns
returns c = c.in_ok-b.was ∙ other_first _ _ _ _ (λ z. omega arith) ∙ other_by _ _ c.nth_child-low.ensures c.in_ok-b.was
