-- The cases of a step along the leaf list, of the walk from a reference, and of the call.
use Prim.Native.Nat.{ℕ, zero, suc, ◌+◌, ◌/◌, ◌%◌, ◌≤◌, ◌<◌}
use mathlib.Core.Path.{◌≡◌, sym, ap, ◌∙◌}
use mathlib.Core.List.{List}
use mathlib.Core.Bool.{Bool, true, false}
use native.Mathlib.Omega.{arith}
use native.Mathlib.Nat.{sub-zero}
use lib.ListN.{length, get_or, take}
use borrow.Author.Tests.{lt-ltb, le-ltb, eq-eqb, ne_eqb}
use Rattle.std.specs.Prelude.{Ok, Err}
use Rattle.std.specs.declared.ops.ControlFlow.TheVariants.{Continue, Break}
use Rattle.refusals.specs.declared.Refusal.TheVariants.{Damaged, Missing}
use Rattle.range.specs.Range.{Step, below, leaf_step, place_step, step_of, after_from, after_first, answer, after_check, after_of}
use Rattle.tree.specs.Answer.{Found}
use Rattle.whole.specs.Check.{Checked}
use Rattle.lists.specs.Scan.{choose}
use Rattle.lists.specs.Compare.{less}
use Rattle.lists.specs.Part.{between}
use Rattle.frames.specs.Kind.{leaf_size}
use Rattle.frames.specs.Frame.{FrameOf, frame}
use Rattle.frames.specs.Place.{place_at, in_pool, start_at, key_at}
use Rattle.frames.specs.declared.frame.Frame.{Frame}
use Rattle.records.specs.Own.{total_of}
use Rattle.art.specs.Stores.{Place, leaf_place}
use Rattle.whole.specs.Check as check
use Rattle.tree.proofs.Arrivals.{leaf_named, inner_named}

-- ── at a leaf, by its length n ──
module _ (rec key tag : List ℕ) {n : ℕ} (e : n ≡ get_or rec 1 0) where
  pub tag_by : {b : Bool} → b ≡ less (between key 0 n) tag → b ≡ below rec key tag
  unfolding below
  tag_by l = l ∙ ap (λ (k : ℕ). less (take k key) tag) (sub-zero n ∙ e)

  module _ (number : ℕ) where
    abbrev either : Bool → Step
    either b = choose b (Continue (get_or rec 3 0)) (Break (Ok (record { number = number; total = total_of rec })))

    pub leaf_long : length key < n → Break (Err Damaged) ≡ leaf_step rec key tag number
    unfolding leaf_step
    leaf_long h =
        ap (λ (b : Bool). choose b (Break (Err Damaged)) (either (below rec key tag))) (sym (lt-ltb (length key) (get_or rec 1 0) (omega arith)))

    pub leaf_within : {b v : Bool} → n ≤ length key → b ≡ below rec key tag → b ≡ v → either v ≡ leaf_step rec key tag number
    unfolding leaf_step
    leaf_within h l t =
        ap either (sym t ∙ l)
        ∙ ap (λ (b : Bool). choose b (Break (Err Damaged)) (either (below rec key tag))) (sym (le-ltb (length key) (get_or rec 1 0) (omega arith)))

-- ── at a reference ──
module _ (f : Frame) (words keys tag : List ℕ) (ref : ℕ) where
  pub step_end : ref ≡ 0 → Break (Err Missing) ≡ step_of f words keys tag ref
  unfolding step_of
  step_end z = ap (λ (b : Bool). choose b (Break (Err Missing)) (place_step f words keys tag (place_at ref))) (sym (eq-eqb ref 0 z))

  step_on : {x : Place} → (ref ≡ 0 → ⊥) → place_at ref ≡ x → place_step f words keys tag x ≡ step_of f words keys tag ref
  unfolding step_of
  step_on z e =
      ap (place_step f words keys tag) (sym e) ∙ ap (λ (b : Bool). choose b (Break (Err Missing)) (place_step f words keys tag (place_at ref))) (sym (ne_eqb ref 0 z))

  pub step_other : (ref ≡ 0 → ⊥) → (ref % 8 ≡ 5 → ⊥) → Break (Err Damaged) ≡ step_of f words keys tag ref
  step_other z k = step_on z (inner_named ref k)

  module _ (k : ref % 8 ≡ 5) where
    abbrev leaf : Step
    leaf = leaf_step (between words (start_at f (leaf_place (ref / 8))) (start_at f (leaf_place (ref / 8)) + leaf_size)) (key_at f keys (ref / 8)) tag (ref / 8)

    leaf_by : {b : Bool} → in_pool f (place_at ref) ≡ b → choose b leaf (Break (Err Damaged)) ≡ step_of f words keys tag ref
    leaf_by p =
        ap (λ (b : Bool). choose b leaf (Break (Err Damaged))) (sym p ∙ ap (in_pool f) (leaf_named ref k)) ∙ step_on (λ z. omega arith) (leaf_named ref k)

    pub step_outside : in_pool f (place_at ref) ≡ false → Break (Err Damaged) ≡ step_of f words keys tag ref
    step_outside p = leaf_by p

    pub step_leaf : {start : ℕ} {s : Step} → in_pool f (place_at ref) ≡ true → start ≡ start_at f (place_at ref)
        → s ≡ leaf_step (between words start (start + leaf_size)) (key_at f keys (ref / 8)) tag (ref / 8) → s ≡ step_of f words keys tag ref
    step_leaf p e h =
        h
        ∙ ap (λ (a : ℕ). leaf_step (between words a (a + leaf_size)) (key_at f keys (ref / 8)) tag (ref / 8)) (e ∙ ap (start_at f) (leaf_named ref k))
        ∙ leaf_by p

-- ── from a reference on ──
module _ (f : Frame) (words keys tag : List ℕ) where
  abbrev pub go_on : ℕ → Step → Found
  go_on left s = elim s [ Continue r ↦ after_from f words keys tag left r | Break a ↦ a ]

  pub after_next : {n left : ℕ} (ref : ℕ) {r : ℕ} → n ≡ suc left → step_of f words keys tag ref ≡ Continue r → after_from f words keys tag n ref ≡ after_from f words keys tag left r
  unfolding after_from
  after_next {n} {left} ref l e = ap (λ (n : ℕ). after_from f words keys tag n ref) l ∙ ap (go_on left) e

  pub after_end : (left ref : ℕ) {a : Found} → 0 < left → step_of f words keys tag ref ≡ Break a → after_from f words keys tag left ref ≡ a
  unfolding after_from
  after_end zero ref h e = absurd (omega arith)
  after_end (suc left) ref h e = ap (go_on left) e

  -- the last step that goes on is one too many
  pub after_over : {n : ℕ} (ref : ℕ) {r : ℕ} → n ≡ 1 → step_of f words keys tag ref ≡ Continue r → after_from f words keys tag n ref ≡ Err Damaged
  unfolding after_from
  after_over ref l e = after_next {left = 0} ref l e

-- ── the call ──
-- along the list of a block, in the frame that its slices give
pub walk_by : {f : Frame} {w k words keys : List ℕ} (tag : List ℕ) {a : Found} → FrameOf f w k → (w ≡ words) × (k ≡ keys) → a ≡ after_first f w k tag → a ≡ after_first (frame words) words keys tag
walk_by {w = w} {k} {words} tag h q e =
    e
    ∙ ap (λ (g : Frame). after_first g w k tag) h.read
    ∙ ap (λ (l : List ℕ). after_first (frame l) l k tag) q.0
    ∙ ap (λ (l : List ℕ). after_first (frame words) words l tag) q.1

pub call_by : (words keys scratch tag : List ℕ) {c : Checked} {s : List ℕ} {a : Found} → check.answer c s ≡ check.check_of words keys scratch
    → a ≡ after_check words keys tag c → answer a s ≡ after_of words keys scratch tag
unfolding after_of
call_by words keys scratch tag {c} {s} {a} e h =
    ap (λ (x : Found). answer x s) h ∙ ap (λ (x : check.Answer). answer (after_check words keys tag x.result) x.scratch) e
