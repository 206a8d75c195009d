-- The cases of an insert: of the plan carried out, and of the check's answer; and why a plan for a sound block is ready.
use Prim.Native.Nat.{ℕ, ◌/◌, ◌≤◌}
use mathlib.Core.Path.{◌≡◌, refl, sym, ap, subst, ◌∙◌}
use mathlib.Core.List.{List}
use mathlib.Core.Bool.{Bool, true, false}
use native.Mathlib.Omega.{arith}
use lib.ListN.{length, get_or}
use lib.Dec.{eqb, ltb}
use borrow.Author.Tests.{ltb-false}
use Rattle.std.specs.Prelude.{Some, None, Ok, Err}
use Rattle.refusals.specs.declared.Refusal.TheVariants.{Missing, NoLeaf, TooLong}
use Rattle.insert.specs.declared.plan.Plan.TheVariants.{New, Over}
use Rattle.insert.specs.Plan.{Choice, Planned, into_choice, fork_choice, new_plan, site_plan, leaf_plan, point_plan, plan_of}
use Rattle.tree.specs.Answer.{Found}
use Rattle.whole.specs.Check.{Checked}
use Rattle.lists.specs.Scan.{choose}
use Rattle.frames.specs.Form.{form_of}
use Rattle.frames.specs.Frame.{trailer_of, root_word, frame_fits, frame_of, FrameOf, frame}
use Rattle.frames.specs.Place.{in_pool}
use Rattle.frames.specs.declared.frame.Frame.{Frame}
use Rattle.frames.proofs.FormTable.{known_limit}
use Rattle.frames.proofs.Frames.{totals}
use Rattle.art.specs.Stores.{leaf_place}
use Rattle.reading.specs.Answers.{Bytes}
use Rattle.whole.specs.Sound.{Sound}
use Rattle.whole.specs.Check as check
use Rattle.whole.proofs.Sounds.{zero_sound}
use Rattle.pools.specs.Pool.{lowest_free}
use Rattle.range.specs.Range.{after_first}
use Rattle.points.specs.Point.{point_of}
use Rattle.points.specs.There.{PointThere}
use Rattle.points.proofs.There.{point_there}
use Rattle.points.specs.declared.insert_point.Point.{Point}
use Rattle.points.specs.declared.insert_point.Point.TheVariants as point
use Rattle.insert.specs.Insert as call
use Rattle.insert.specs.declared.plan.Site.{Site}
use Rattle.insert.specs.declared.plan.Site.TheVariants.{Root}
use Rattle.insert.proofs.Ready.{insert_ready}

-- ── a plan that overwrites names a leaf of the pool, since its point is at one ──
module _ (f : Frame) (words keys tag : List ℕ) {leaf : ℕ} where
  new_makes : (site : Site) (n : ℕ) (a : Found) → new_plan f words site n a ≡ Ok (Over leaf) → ⊥
  new_makes site n (Ok next) e = let z : ◌≡◌ {A = ℕ} 0 1 = cc in absurd (omega arith)
  new_makes site n (Err Missing) e = let z : ◌≡◌ {A = ℕ} 0 1 = cc in absurd (omega arith)
  new_makes site n (Err refusal) e = let z : ◌≡◌ {A = ℕ} 0 1 = cc in absurd (omega arith)

  site_makes : (n : ℕ) (c : Choice) → site_plan f words keys tag n c ≡ Ok (Over leaf) → ⊥
  site_makes n (Some site) e = new_makes site n (after_first f words keys tag) e
  site_makes n None e = let z : ◌≡◌ {A = ℕ} 0 1 = cc in absurd (omega arith)

  leaf_makes : (c : Choice) → leaf_plan f words keys tag c ≡ Ok (Over leaf) → ⊥
  unfolding leaf_plan
  leaf_makes c = go (ltb (lowest_free f words 5) (get_or f.caps 5 0))
    where
      go : (b : Bool) → choose b (site_plan f words keys tag (lowest_free f words 5) c) (Err NoLeaf) ≡ Ok (Over leaf) → ⊥
      go true e = site_makes (lowest_free f words 5) c e
      go false e = let z : ◌≡◌ {A = ℕ} 0 1 = cc in absurd (omega arith)

  point_over : (p : Point) → PointThere f words keys tag p → point_plan f words keys tag p ≡ Ok (Over leaf) → in_pool f (leaf_place (leaf / 8)) ≡ true
  unfolding point_plan
  point_over (point.Holds upper up l) h e = let q : leaf ≡ l = cc in ap (λ (m : ℕ). in_pool f (leaf_place (m / 8))) q ∙ h.seen.pool
  point_over point.Clash h e = cc
  point_over (point.Into up ref byte) h e = absurd (leaf_makes (into_choice f words up ref byte) e)
  point_over (point.Fork up ref l d c) h e = absurd (leaf_makes (fork_choice f words up ref l d c) e)
  point_over point.Broken h e = cc

  plan_over : PointThere f words keys tag (point_of f words keys tag (root_word words)) → plan_of f words keys tag ≡ Ok (Over leaf) → in_pool f (leaf_place (leaf / 8)) ≡ true
  unfolding plan_of
  plan_over h = go (eqb (root_word words) 0)
    where
      go : (b : Bool) → choose b (leaf_plan f words keys tag (Some Root)) (point_plan f words keys tag (point_of f words keys tag (root_word words))) ≡ Ok (Over leaf)
          → in_pool f (leaf_place (leaf / 8)) ≡ true
      go true e = absurd (leaf_makes (Some Root) e)
      go false e = point_over (point_of f words keys tag (root_word words)) h e

-- ── a plan for a sound block is ready ──
-- a tag that is not too long is as long as the block's form allows, since every known form has the same limit
pub short_fits : (words keys tag : List ℕ) → frame_fits words keys ≡ true → call.too_long words keys tag ≡ false → length tag ≤ (frame words).form.limit
unfolding call.too_long frame_of form_of
short_fits words keys tag fits e =
    omega (arith, ltb-false (form_of 1).limit (length tag) e, known_limit (get_or (trailer_of words) 0 0) (totals words keys fits).known)

module _ {words keys : List ℕ} (w : FrameOf (frame words) words keys) (s : Sound words keys) (tag : List ℕ) (b : Bytes tag) (k : Bytes keys)
    (l : length tag ≤ (frame words).form.limit) where
  ready_by : (p : Planned) → plan_of (frame words) words keys tag ≡ p → call.PlanReady (frame words) words keys tag p
  ready_by (Ok (Over leaf)) e = plan_over (frame words) words keys tag (point_there w tag (root_word words)) e
  ready_by (Ok (New site n gap)) e = insert_ready s b k l site n gap e
  ready_by (Err refusal) e = tt

-- every plan has what its writes need
pub plan_ready : {f : Frame} {words keys : List ℕ} → FrameOf f words keys → Sound words keys → (tag : List ℕ) → Bytes tag → Bytes keys
    → call.too_long words keys tag ≡ false → {p : Planned} → p ≡ plan_of f words keys tag → call.PlanReady f words keys tag p
plan_ready {f} {words} {keys} w s tag b k l {p} e =
    subst (λ (g : Frame). call.PlanReady g words keys tag p) (sym w.read)
    (ready_by (record { read = refl; fits = s.fits }) s tag b k (short_fits words keys tag s.fits l) p
    (sym (e ∙ ap (λ (g : Frame). plan_of g words keys tag) w.read)))

-- the plan of a block that was lent is the plan of its slices
pub lent_plan : (f : Frame) (tag : List ℕ) {words keys lent_words lent_keys : List ℕ} {p : Planned} → lent_words ≡ words → lent_keys ≡ keys → FrameOf f lent_words lent_keys
    → p ≡ plan_of f lent_words lent_keys tag → FrameOf f words keys × (p ≡ plan_of f words keys tag)
lent_plan f tag ew ek w e = rw (← ew, ← ek) (w, e)

-- ── the plan carried out ──
module _ (f : Frame) (words keys scratch tag : List ℕ) (total : ℕ) where
  pub sound_by : {p : Planned} {o : call.Out} → FrameOf f words keys → p ≡ plan_of f words keys tag → o ≡ call.planned f words keys scratch tag total p
      → o ≡ call.insert_sound words keys scratch tag total
  unfolding call.insert_sound
  sound_by w e h =
      h
      ∙ ap (call.planned f words keys scratch tag total) e
      ∙ ap (λ (g : Frame). call.planned g words keys scratch tag total (plan_of g words keys tag)) w.read

-- ── the call ──
module _ (words keys scratch tag : List ℕ) (total : ℕ) where
  abbrev by_length : Bool → call.Out
  by_length b = choose b (call.out (Err TooLong) words keys scratch) (call.insert_checked words keys tag total (check.check_of words keys scratch))

  pub call_long : {b : Bool} → b ≡ call.too_long words keys tag → b ≡ true → call.out (Err TooLong) words keys scratch ≡ call.insert_of words keys scratch tag total
  unfolding call.insert_of
  call_long e h = ap by_length (sym h ∙ e)

  pub call_by : {b : Bool} {c : Checked} {s : List ℕ} {o : call.Out} → b ≡ call.too_long words keys tag → b ≡ false → check.answer c s ≡ check.check_of words keys scratch
      → o ≡ call.insert_by words keys s tag total c → o ≡ call.insert_of words keys scratch tag total
  unfolding call.insert_of call.insert_checked
  call_by e l q h = h ∙ ap (call.insert_checked words keys tag total) q ∙ ap by_length (sym l ∙ e)

pub call_sound : (words keys scratch : List ℕ) {c : Checked} {s : List ℕ} → check.answer c s ≡ check.check_of words keys scratch → c ≡ Ok tt → Sound words keys
call_sound words keys scratch e k = zero_sound words keys scratch (ap (λ (x : check.Answer). check.number_of x.result) (sym e) ∙ ap check.number_of k)
