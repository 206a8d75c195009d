-- `lookup::at_leaf` meets its contract: comparing begins within both tags, and the leaf's lies within its key bytes.
use mathlib.Core.Path.{sym, ap, ◌∙◌}
use Prim.Native.Nat.{ℕ}
use native.Mathlib.Omega.{arith}
use Rattle.std.specs.Prelude.{Ok}
use Rattle.records.proofs.Owns.{leaf_rule}
use Rattle.tree.proofs.Walks.{leaf_fits, leaf_other}
use Rattle.tree.proofs.lookup.at_leaf.Goals as goal

pub slice_bounds-fits_aim-end-2 : goal.slice_bounds-fits_aim-end-2
slice_bounds-fits_aim-end-2 c = omega (arith, (leaf_rule _ c.args.rec.now c.args.key.now c.requires.ok).short, c.tag_len-len.ensures.0)

pub returns-then-fits_aim : goal.returns-then-fits_aim
returns-then-fits_aim c = let s = c.args in
    ap (λ (total : ℕ). Ok (record { number = s.number; total = total })) c.total_of.ensures
    ∙ leaf_fits s.rec.now s.key.now _ _ _ _ _ _ _ c.tag_len-len.ensures.0 c.compare_from-from.ensures.0
    (sym c.fits_aim.ensures ∙ c.if-fits_aim.true)

pub returns-else-fits_aim : goal.returns-else-fits_aim
returns-else-fits_aim c = leaf_other _ _ _ _ _ _ _ _ _ c.tag_len-len.ensures.0 c.compare_from-from.ensures.0 (sym c.fits_aim.ensures ∙ c.if-fits_aim.false)
