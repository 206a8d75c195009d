-- The ends of the check, and the cases of the call.
use Prim.Native.Nat.{ℕ, ◌-◌, ◌≤◌, ◌<◌}
use mathlib.Core.Path.{◌≡◌, refl, sym, ap, subst, ◌∙◌}
use mathlib.Core.List.{List, ◌++◌}
use mathlib.Core.Bool.{Bool, true, false, ◌&&◌}
use native.Mathlib.Nat.{sub-zero}
use lib.ListN.{length, take, drop, replicate, length-replicate}
use lib.Seq.{take_at, drop_at}
use lib.Dec.{eqb}
use borrow.Author.Tests.{eq-eqb, ne_eqb, lt-ltb, le-ltb}
use Rattle.std.specs.Prelude.{Some, Ok, Err}
use Rattle.refusals.specs.declared.Refusal.TheVariants.{Damaged, ShortScratch}
use Rattle.whole.specs.Check.{Checked, at_start, root_way, ended_well, way_well, whole_by, Answer, answer, cleared, check_with, check_of}
use Rattle.whole.specs.Visit.{Visit, Way, way, record_by}
use Rattle.lists.specs.Scan.{choose}
use Rattle.frames.specs.Frame.{frame_fits, frame, FrameOf, root_word, first_word}
use Rattle.frames.specs.declared.frame.Frame.{Frame}
use Rattle.whole.specs.Marks.{places_in}
use Rattle.whole.specs.Sweep.{swept}

-- ── the way from the root ──
module _ (f : Frame) (words keys m : List ℕ) where
  abbrev pub fork : Bool → Way
  fork b = choose b (way (Some (0, at_start words)) m) (record_by f words keys f.form.limit (root_word words) 0 m (at_start words))

  pub root_by : (b : Bool) → eqb (root_word words) 0 ≡ b → fork b ≡ root_way f words keys m
  unfolding root_way
  root_by b e = ap fork (sym e)

  module _ {root first : ℕ} (re : root ≡ root_word words) (fe : first ≡ first_word words) where
    pub root_none : root ≡ 0 → way (Some (0, record { prev = 0; next = first; count = 0 })) m ≡ root_way f words keys m
    root_none z = ap (λ (x : ℕ). way (Some (0, record { prev = 0; next = x; count = 0 })) m) fe ∙ root_by true (eq-eqb (root_word words) 0 (sym re ∙ z))

    pub root_goes : {v : Visit} {m' : List ℕ} → (root ≡ 0 → ⊥) → v ≡ (record_by f words keys f.form.limit root 0 m (record { prev = 0; next = first; count = 0 })).visit
        → m' ≡ (record_by f words keys f.form.limit root 0 m (record { prev = 0; next = first; count = 0 })).marks → way v m' ≡ root_way f words keys m
    root_goes {v} {m'} z ve me =
        ap (λ (x : Visit). way x m') ve
        ∙ ap (λ (x : List ℕ). way (record_by f words keys f.form.limit root 0 m (record { prev = 0; next = first; count = 0 })).visit x) me
        ∙ ap (λ (x : ℕ). record_by f words keys f.form.limit root 0 m (record { prev = 0; next = x; count = 0 })) fe
        ∙ ap (λ (x : ℕ). record_by f words keys f.form.limit x 0 m (at_start words)) re
        ∙ root_by false (ne_eqb (root_word words) 0 (λ q. z (re ∙ q)))

-- ── the whole ──
pub whole_by_lem : (f : Frame) (words keys : List ℕ) {x : Way} {v : Visit} {m : List ℕ} {a b : Bool} → way v m ≡ x → a ≡ ended_well words v → b ≡ swept f words keys m → a && b ≡ way_well f words keys x
unfolding way_well
whole_by_lem f words keys {x} {v} {m} {a} {b} e p q =
    ap (λ (t : Bool). t && b) p ∙ ap (λ (t : Bool). ended_well words v && t) q ∙ ap (way_well f words keys) e

module _ (f : Frame) {n : ℕ} {z : List ℕ} (long : n ≡ places_in f) (ze : z ≡ replicate n 0) where
  clean_start : z ≡ replicate (places_in f) 0
  clean_start = ze ∙ ap (λ (n : ℕ). replicate n 0) long

  pub clean_by : (words keys : List ℕ) {r : Bool} → r ≡ way_well f words keys (root_way f words keys z) → r ≡ whole_by f words keys
  unfolding whole_by
  clean_by words keys h = h ∙ ap (λ (l : List ℕ). way_well f words keys (root_way f words keys l)) clean_start

  pub clean_long : {k : ℕ} → k ≡ length z → k ≡ places_in f
  clean_long l = l ∙ ap length clean_start ∙ length-replicate (places_in f) 0

-- ── the call ──
module _ (words keys scratch : List ℕ) where
  pub check_unframed : {r : Checked} → frame_fits words keys ≡ false → r ≡ Err Damaged → answer r scratch ≡ check_of words keys scratch
  unfolding check_of
  check_unframed e d =
      ap (λ (r : Checked). answer r scratch) d
      ∙ ap (λ (b : Bool). choose b (check_with (frame words) words keys scratch) (answer (Err Damaged) scratch)) (sym e)

-- a block is checked as the slices that it lends
pub check_lent : (scratch : List ℕ) {w words k keys : List ℕ} → (w ≡ words) × (k ≡ keys) → check_of w k scratch ≡ check_of words keys scratch
check_lent scratch {w} {words} {k} {keys} e = ap (λ (l : List ℕ). check_of l k scratch) e.0 ∙ ap (λ (l : List ℕ). check_of words l scratch) e.1

module _ {words keys : List ℕ} (scratch : List ℕ) {f : Frame} (w : FrameOf f words keys) where
  framed_by : check_with f words keys scratch ≡ check_of words keys scratch
  unfolding check_of
  framed_by =
      ap (λ (g : Frame). check_with g words keys scratch) w.read
      ∙ ap (λ (b : Bool). choose b (check_with (frame words) words keys scratch) (answer (Err Damaged) scratch)) (sym w.fits)

  abbrev done : Answer
  done = answer (choose (whole_by f words keys) (Ok tt) (Err Damaged)) (cleared (places_in f) scratch)

  pub check_short : length scratch < places_in f → answer (Err ShortScratch) scratch ≡ check_of words keys scratch
  check_short h = ap (λ (b : Bool). choose b (answer (Err ShortScratch) scratch) done) (sym (lt-ltb (length scratch) (places_in f) h)) ∙ framed_by

  check_done : places_in f ≤ length scratch → done ≡ check_of words keys scratch
  check_done h = ap (λ (b : Bool). choose b (answer (Err ShortScratch) scratch) done) (sym (le-ltb (length scratch) (places_in f) h)) ∙ framed_by

-- the check is over: r was found, with the marks m in the first n bytes of scratch, and then the zeros z
pub record Finished (words keys scratch : List ℕ) (f : Frame) (n : ℕ) (r : Bool) (m z : List ℕ) : Type 0 where
  pub frame : FrameOf f words keys
  pub places : n ≡ places_in f
  pub room : n ≤ length scratch
  pub sound : r ≡ whole_by f words keys
  pub long : length m ≡ places_in f
  pub zeros : z ≡ replicate (length (take (n - 0) (m ++ drop (n - 0) scratch))) 0

module _ {words keys scratch : List ℕ} {f : Frame} {n : ℕ} {r : Bool} {m z : List ℕ} (h : Finished words keys scratch f n r m z) where
  marks_long : length m ≡ n - 0
  marks_long = h.long ∙ sym (sub-zero n ∙ h.places)

  pub check_finished : (b : Bool) → r ≡ b → answer (choose b (Ok tt) (Err Damaged)) (z ++ drop (n - 0) (m ++ drop (n - 0) scratch)) ≡ check_of words keys scratch
  check_finished b e =
      ap (λ (t : Bool). answer (choose t (Ok tt) (Err Damaged)) (z ++ drop (n - 0) (m ++ drop (n - 0) scratch))) (sym e ∙ h.sound)
      ∙ ap (λ (l : List ℕ). answer (choose (whole_by f words keys) (Ok tt) (Err Damaged)) (l ++ drop (n - 0) (m ++ drop (n - 0) scratch)))
      (h.zeros ∙ ap (λ (l : List ℕ). replicate (length l) 0) (take_at m (drop (n - 0) scratch) (n - 0) marks_long) ∙ ap (λ (i : ℕ). replicate i 0) h.long)
      ∙ ap (λ (l : List ℕ). answer (choose (whole_by f words keys) (Ok tt) (Err Damaged)) (replicate (places_in f) 0 ++ l))
      (drop_at m (drop (n - 0) scratch) (n - 0) marks_long ∙ ap (λ (i : ℕ). drop i scratch) (sub-zero n ∙ h.places))
      ∙ check_done scratch h.frame (subst (λ (k : ℕ). k ≤ length scratch) h.places h.room)

-- a block that the check finds sound has a frame that fits
pub sound_fits : (words keys scratch : List ℕ) {c : Checked} {s : List ℕ} → answer c s ≡ check_of words keys scratch → c ≡ Ok tt
    → frame_fits words keys ≡ true
unfolding check_of
sound_fits words keys scratch {c} {s} e k = go (frame_fits words keys) refl (sym k ∙ ap (λ (x : Answer). x.result) e)
  where
    go : (b : Bool) → frame_fits words keys ≡ b
        → Ok tt ≡ (choose b (check_with (frame words) words keys scratch) (answer (Err Damaged) scratch)).result
        → frame_fits words keys ≡ true
    go true q h = q
    go false q h = cc
