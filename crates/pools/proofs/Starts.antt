-- What the test of start gives, and the slices that it leaves.
use Prim.Native.Nat.{ℕ, ◌+◌, ◌-◌, ◌*◌, ◌≤◌}
use mathlib.Core.Path.{◌≡◌, sym, ap, ap₂, ◌∙◌}
use mathlib.Core.List.{List, ◌++◌}
use mathlib.Core.Bool.{Bool, true, false, ◌&&◌}
use native.Mathlib.Omega.{arith}
use lib.ListN.{length, replicate}
use lib.Dec.{eqb}
use borrow.Author.Tests.{eqb-true}
use Rattle.std.specs.Prelude.{Ok, Err}
use Rattle.refusals.specs.declared.Refusal.TheVariants.{Unfit}
use Rattle.lists.specs.Scan.{choose}
use Rattle.lists.specs.Part.{splice}
use Rattle.lists.proofs.Tests.{both}
use Rattle.frames.specs.Form.{form_known, form_of, sizes_of}
use Rattle.frames.specs.Frame.{caps_small, SmallCaps, backs_of}
use Rattle.frames.specs.declared.form.Form.{Form}
use Rattle.frames.specs.declared.frame.Caps.{Caps}
use Rattle.frames.proofs.Frames.{caps_small_lem}
use Rattle.pools.specs.Start.{start_fits, start_fits_in, trailer_words, out, fresh, start_in, start_of}
use Rattle.lists.proofs.Pieces.{zeros_then}

-- it lets only small capacities pass, and slices with room for the trailer
pub starts_small : (form : Form) (c : Caps) (n k : ℕ) {r : Bool} → r ≡ start_fits form c n k → r ≡ true → SmallCaps c × (16 ≤ n)
unfolding start_fits
starts_small form c n k e t =
    let b = (backs_of (sizes_of form) c).b1 in
    let p = both (caps_small c) (eqb n (b + 16) && eqb k (c.c5 * form.limit)) (sym e ∙ t) in
    let q = both (eqb n (b + 16)) (eqb k (c.c5 * form.limit)) p.1 in
    (caps_small_lem c p.0, omega (arith, eqb-true n (b + 16) q.0))

module _ (words keys : List ℕ) (form : Form) (c : Caps) {r : Bool} (test : r ≡ start_fits form c (length words) (length keys)) where
  -- all cleared, and the trailer laid over the last 16 words
  pub start_done : r ≡ true → (w t k : List ℕ) {u : List ℕ} → w ≡ replicate (length words) 0 → t ≡ u → u ≡ trailer_words form c → k ≡ replicate (length keys) 0
      → out (Ok tt) (splice w (length words - 16) (length words) t) k ≡ start_in words keys form c
  unfolding start_in
  start_done e w t k a b g d =
      let laid = zeros_then (length words - 16) (length words) t (omega arith) ∙ ap (λ (x : List ℕ). replicate (length words - 16) 0 ++ x) (b ∙ g) in
      ap₂ (λ (x y : List ℕ). out (Ok tt) (splice x (length words - 16) (length words) t) y) a d
      ∙ ap (λ (x : List ℕ). out (Ok tt) x (replicate (length keys) 0)) laid
      ∙ sym (ap (λ (v : Bool). choose v (fresh words keys form c) (out (Err Unfit) words keys)) (sym test ∙ e))

  pub start_refused : r ≡ false → out (Err Unfit) words keys ≡ start_in words keys form c
  unfolding start_in
  start_refused e = sym (ap (λ (v : Bool). choose v (fresh words keys form c) (out (Err Unfit) words keys)) (sym test ∙ e))

-- by the number: where there is such a form, as in that form; else refused
pub start_known : (words keys : List ℕ) (number : ℕ) (c : Caps) {r : Bool} → r ≡ form_known number → r ≡ true → {form : Form} → form ≡ form_of number → start_in words keys form c ≡ start_of words keys number c
unfolding start_in start_of start_fits_in
start_known words keys number c e t f =
    ap (λ (x : Form). start_in words keys x c) f
    ∙ sym (ap (λ (v : Bool). choose (v && start_fits (form_of number) c (length words) (length keys)) (fresh words keys (form_of number) c) (out (Err Unfit) words keys)) (sym e ∙ t))

pub start_unknown : (words keys : List ℕ) (number : ℕ) (c : Caps) {r : Bool} → r ≡ form_known number → r ≡ false → out (Err Unfit) words keys ≡ start_of words keys number c
unfolding start_of start_fits_in
start_unknown words keys number c e t =
    sym (ap (λ (v : Bool). choose (v && start_fits (form_of number) c (length words) (length keys)) (fresh words keys (form_of number) c) (out (Err Unfit) words keys)) (sym e ∙ t))
