-- `prefix::header::merge` meets its contract: pushing the byte and then the child's held bytes loses none that the first eight show.
use mathlib.Core.Path.{ap, ◌∙◌}
use native.Mathlib.Omega.{arith}
use Rattle.prefix.specs.declared.Prefix.{Prefix}
use Rattle.prefix.proofs.Runs.{push_full, merge_by}
use Rattle.prefix.proofs.header.merge.Goals as goal

pub push_prefix-requires : goal.push_prefix-requires
push_prefix-requires c = omega (arith, ap (λ (p : Prefix). p.full.0) c.push_prefix-front.ensures ∙ push_full _ _ _)

pub returns : goal.returns
returns c = let s = c.args in
    merge_by s.parent s.byte s.child (omega arith)
    (rw c.from.ensures at c.push_prefix-front.ensures)
    c.push_prefix.ensures
    c.stored_len-s.ensures
    (omega arith)
