-- `leaf_step` meets its contract: each return is a case of `leaf_step`.
use mathlib.Core.Path.{ap, ◌∙◌}
use native.Mathlib.Omega.{arith}
use Rattle.std.specs.Prelude.{ℕ, Ok}
use Rattle.std.specs.declared.ops.ControlFlow.TheVariants.{Continue, Break}
use Rattle.range.proofs.Steps.{leaf_long, leaf_within}
use Rattle.range.proofs.leaf_step.Goals as goal

pub returns-then-key-tag_len : goal.returns-then-key-tag_len
returns-then-key-tag_len c = leaf_long _ _ _ c.tag_len.ensures.0 _ c.if-key-tag_len.true

pub returns-then-tag_below : goal.returns-then-tag_below
returns-then-tag_below c = ap (λ (next : ℕ). Continue next) c.next.ensures
    ∙ leaf_within _ _ _ c.tag_len.ensures.0 _ (omega arith) c.tag_below.ensures c.if-tag_below.true

pub returns : goal.returns
returns c = ap (λ (total : ℕ). Break (Ok (record { number = c.args.number; total = total }))) c.total_of.ensures
    ∙ leaf_within _ _ _ c.tag_len.ensures.0 _ (omega arith) c.tag_below.ensures c.if-tag_below.false
