-- `start::start_fits` meets its contract: the capacities are tested before anything is reckoned from them.
use Prim.Native.Nat.{ℕ, ◌+◌, ◌*◌}
use mathlib.Core.Path.{◌≡◌, sym, subst, ◌∙◌}
use mathlib.Core.Bool.{Bool, true, ◌&&◌}
use native.Mathlib.Nat.{mul-le-mul_right}
use native.Mathlib.Omega.{arith}
use lib.Dec.{eqb}
use Rattle.frames.specs.Form.{SmallSizes, sizes_of}
use Rattle.frames.specs.Frame.{caps_small, backs_of}
use Rattle.frames.specs.declared.form.Form.{Form}
use Rattle.frames.specs.declared.form.Sizes.{Sizes}
use Rattle.frames.specs.declared.frame.Caps.{Caps}
use Rattle.frames.specs.declared.frame.Backs.{Backs}
use Rattle.frames.proofs.Frames.{caps_small_lem}
use Rattle.pools.specs.Start.{start_fits}
use Rattle.pools.proofs.start.start_fits.Goals as goal

two_lengths : (form : Form) (c : Caps) (n k : ℕ) {small : Bool} {s : Sizes} {b : Backs} → small ≡ caps_small c → small ≡ true → s ≡ sizes_of form → b ≡ backs_of s c
    → eqb n (b.b1 + 16) && eqb k (c.c5 * form.limit) ≡ start_fits form c n k
unfolding start_fits
two_lengths form c n k e t z h = simp (sym e ∙ t) (rw (h, z))

pub backs_of-b-requires : goal.backs_of-b-requires
backs_of-b-requires c = (subst SmallSizes (sym c.sizes_of.ensures) c.requires, caps_small_lem _ (sym c.caps_small.ensures ∙ c.if-caps_small.true))

pub overflow_mul-result : goal.overflow_mul-result
overflow_mul-result c = omega (arith, mul-le-mul_right c.args.form.limit (caps_small_lem c.args.c (sym c.caps_small.ensures ∙ c.if-caps_small.true)).s5)

pub returns-then-caps_small : goal.returns-then-caps_small
returns-then-caps_small c = let a = c.args in
    two_lengths a.form a.c a.n a.k c.caps_small.ensures c.if-caps_small.true c.sizes_of.ensures c.backs_of-b.ensures.0

pub returns-else-caps_small : goal.returns-else-caps_small
unfolding start_fits
returns-else-caps_small c = simp (sym c.caps_small.ensures ∙ c.if-caps_small.false)
