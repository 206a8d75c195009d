-- The cases of a delete: of the plan carried out, and of the check's answer; and why a plan for a sound block is ready.
use Prim.Native.Nat.{ℕ}
use mathlib.Core.Path.{◌≡◌, sym, ap, subst, ◌∙◌}
use mathlib.Core.List.{List}
use Rattle.std.specs.Prelude.{Ok, Err}
use Rattle.delete.specs.Plan.{Planned, plan_of}
use Rattle.whole.specs.Check.{Checked}
use Rattle.frames.specs.Frame.{FrameOf, frame}
use Rattle.frames.specs.declared.frame.Frame.{Frame}
use Rattle.reading.specs.Answers.{Bytes}
use Rattle.whole.specs.Sound.{Sound}
use Rattle.whole.specs.Check as check
use Rattle.whole.proofs.Sounds.{zero_sound}
use Rattle.delete.specs.Delete.{Out, planned, PlanReady, delete_sound, delete_by, delete_checked, delete_of}
use Rattle.delete.proofs.Ready.{delete_ready}

-- ── a plan for a sound block is ready ──
ready_by : {words keys : List ℕ} → Sound words keys → (tag : List ℕ) → Bytes tag → (p : Planned) → plan_of (frame words) words keys tag ≡ p
    → PlanReady (frame words) words p
ready_by s tag b (Ok plan) e = delete_ready s tag b plan.cut plan.leaf plan.gap e
ready_by s tag b (Err refusal) e = tt

-- every plan has what its writes need
pub plan_ready : {f : Frame} {words keys : List ℕ} → FrameOf f words keys → Sound words keys → (tag : List ℕ) → Bytes tag → {p : Planned}
    → p ≡ plan_of f words keys tag → PlanReady f words p
plan_ready {f} {words} {keys} w s tag b {p} e =
    subst (λ (g : Frame). PlanReady g words p) (sym w.read)
    (ready_by s tag b p (sym (e ∙ ap (λ (g : Frame). plan_of g words keys tag) w.read)))

-- the plan of a block that was lent is the plan of its slices
pub lent_plan : (f : Frame) (tag : List ℕ) {words keys lent_words lent_keys : List ℕ} {p : Planned} → lent_words ≡ words → lent_keys ≡ keys → FrameOf f lent_words lent_keys
    → p ≡ plan_of f lent_words lent_keys tag → FrameOf f words keys × (p ≡ plan_of f words keys tag)
lent_plan f tag ew ek w e = rw (← ew, ← ek) (w, e)

-- ── the plan carried out ──
module _ (f : Frame) (words keys scratch : List ℕ) where
  pub sound_by : (tag : List ℕ) {p : Planned} {l : Out} → FrameOf f words keys → p ≡ plan_of f words keys tag → l ≡ planned f words keys scratch p
      → l ≡ delete_sound words keys scratch tag
  unfolding delete_sound
  sound_by tag w e h =
      h ∙ ap (planned f words keys scratch) e ∙ ap (λ (g : Frame). planned g words keys scratch (plan_of g words keys tag)) w.read

-- ── the call ──
module _ (words keys scratch : List ℕ) {c : Checked} {s : List ℕ} (e : check.answer c s ≡ check.check_of words keys scratch) where
  pub call_sound : c ≡ Ok tt → Sound words keys
  call_sound k = zero_sound words keys scratch (ap (λ (x : check.Answer). check.number_of x.result) (sym e) ∙ ap check.number_of k)

  pub call_by : (tag : List ℕ) {l : Out} → l ≡ delete_by words keys s tag c → l ≡ delete_of words keys scratch tag
  unfolding delete_of delete_checked
  call_by tag h = h ∙ ap (delete_checked words keys tag) e
