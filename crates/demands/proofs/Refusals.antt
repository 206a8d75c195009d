-- Every answer but 0 hands the words and key bytes back as they came, and past the check no call touches scratch again.
use Prim.Native.Nat.{ℕ}
use mathlib.Core.Path.{◌≡◌, refl, sym, ap, ◌∙◌}
use mathlib.Core.Logic.{◌≢◌}
use mathlib.Core.List.{List}
use mathlib.Core.Bool.{Bool, true, false, not, ◌&&◌}
use lib.ListN.{length}
use lib.Dec.{leb, ltb}
use borrow.Author.Tests.{le-leb, lt-leb, ltb-true, ltb-false}
use Rattle.std.specs.Prelude.{Ok, Err}
use Rattle.refusals.specs.declared.Refusal.TheVariants.{Damaged, ShortScratch, TooLong}
use Rattle.insert.specs.declared.plan.Plan.TheVariants.{New, Over}
use Rattle.whole.specs.Check.{Checked, check_of, cleared, whole_by}
use Rattle.lists.specs.Scan.{choose}
use Rattle.frames.specs.Frame.{frame_fits, frame}
use Rattle.frames.specs.declared.frame.Caps.{Caps}
use Rattle.frames.specs.declared.frame.Frame.{Frame}
use Rattle.pools.specs.Start as start-call
use Rattle.pools.specs.Start.{start_fits_in, start_of}
use Rattle.whole.specs.Marks.{places_in}
use Rattle.whole.specs.Check as check-call
use Rattle.insert.specs.Insert as insert-call
use Rattle.insert.specs.Insert.{too_long, insert_of, insert_checked, insert_sound, insert_by}
use Rattle.insert.specs.Plan as insert-plan
use Rattle.delete.specs.Delete as delete-call
use Rattle.delete.specs.Delete.{delete_of, delete_checked, delete_sound, delete_by}
use Rattle.delete.specs.Plan as delete-plan
use Rattle.demands.specs.Calls.{Call, start, query, ask, edit, insert, delete, Slices, run}
use Rattle.demands.specs.Told.{number}
use Rattle.demands.specs.Scratch.{left_in}
use Rattle.demands.proofs.Cases.{either}
use Rattle.demands.proofs.Edits.{edit_refused}

-- the words and key bytes as they came
abbrev Same : (words keys w k : List ℕ) → Type 0
Same words keys w k = (w ≡ words) × (k ≡ keys)

-- ── start ──
abbrev StartKept : (words keys : List ℕ) → start-call.Out → Type 0
StartKept words keys o = start-call.start_number o.answer ≢ 0 → Same words keys o.words o.keys

start_kept : (words keys : List ℕ) (form : ℕ) (c : Caps) → StartKept words keys (start_of words keys form c)
unfolding start_of
start_kept words keys form c = either (StartKept words keys) (start_fits_in form c (length words) (length keys)) _ _ (λ h. absurd (h refl)) (λ h. (refl, refl))

-- ── scratch, past the check ──
module _ (words keys tag : List ℕ) (total : ℕ) where
  -- scratch as the check leaves it
  insert_scratch_planned : (f : Frame) (scratch : List ℕ) (p : insert-plan.Planned) → (insert-call.planned f words keys scratch tag total p).scratch ≡ scratch
  insert_scratch_planned f scratch (Ok (Over leaf)) = refl
  insert_scratch_planned f scratch (Ok (New site n gap)) = refl
  insert_scratch_planned f scratch (Err refusal) = refl

  insert_scratch_by : (scratch : List ℕ) (c : Checked) → (insert_by words keys scratch tag total c).scratch ≡ scratch
  unfolding insert_sound
  insert_scratch_by scratch (Ok tt) = insert_scratch_planned (frame words) scratch (insert-plan.plan_of (frame words) words keys tag)
  insert_scratch_by scratch (Err refusal) = refl

module _ (words keys tag : List ℕ) where
  delete_scratch_planned : (f : Frame) (scratch : List ℕ) (p : delete-plan.Planned) → (delete-call.planned f words keys scratch p).scratch ≡ scratch
  delete_scratch_planned f scratch (Ok plan) = refl
  delete_scratch_planned f scratch (Err refusal) = refl

  delete_scratch_by : (scratch : List ℕ) (c : Checked) → (delete_by words keys scratch tag c).scratch ≡ scratch
  unfolding delete_sound
  delete_scratch_by scratch (Ok tt) = delete_scratch_planned (frame words) scratch (delete-plan.plan_of (frame words) words keys tag)
  delete_scratch_by scratch (Err refusal) = refl

-- ── all calls ──
-- a refusal changes no word and no key byte, whatever the memory holds
pub refused_same : (c : Call) (s : Slices) → number c s ≢ 0 → ((run c s).slices.words ≡ s.words) × ((run c s).slices.keys ≡ s.keys)
refused_same (start form c) s h = start_kept s.words s.keys form c h
refused_same (query q) s h = (refl, refl)
refused_same (ask a) s h = (refl, refl)
refused_same (edit e) s h = edit_refused e s h

-- ── scratch ──
-- the frame fits, and there is a byte for each record
abbrev enough : Slices → Bool
enough s = frame_fits s.words s.keys && leb (places_in (frame s.words)) (length s.scratch)

check_scratch : (s : Slices) → (check_of s.words s.keys s.scratch).scratch ≡ choose (enough s) (cleared (places_in (frame s.words)) s.scratch) s.scratch
unfolding check_of
check_scratch s = go (frame_fits s.words s.keys) (ltb (length s.scratch) places) refl
  where
    places : ℕ
    places = places_in (frame s.words)

    go : (fits short : Bool) → ltb (length s.scratch) places ≡ short
        → (choose fits (choose short (check-call.answer (Err ShortScratch) s.scratch) (check-call.answer (choose (whole_by (frame s.words) s.words s.keys) (Ok tt) (Err Damaged)) (cleared places s.scratch))) (check-call.answer (Err Damaged) s.scratch)).scratch
        ≡ choose (fits && leb places (length s.scratch)) (cleared places s.scratch) s.scratch
    go false short e = refl
    go true true e = ap (λ (b : Bool). choose b (cleared places s.scratch) s.scratch) (sym (lt-leb places (length s.scratch) (ltb-true (length s.scratch) places e)))
    go true false e = ap (λ (b : Bool). choose b (cleared places s.scratch) s.scratch) (sym (le-leb places (length s.scratch) (ltb-false (length s.scratch) places e)))

insert_scratch : (t : List ℕ) (total : ℕ) (s : Slices) → (insert_of s.words s.keys s.scratch t total).scratch ≡ left_in (edit (insert t total)) s
unfolding insert_of insert_checked
insert_scratch t total s = go (too_long s.words s.keys t)
  where
    checks : check-call.Answer
    checks = check_of s.words s.keys s.scratch

    go : (long : Bool) → (choose long (insert-call.out (Err TooLong) s.words s.keys s.scratch) (insert_by s.words s.keys checks.scratch t total checks.result)).scratch
        ≡ choose (not long && enough s) (cleared (places_in (frame s.words)) s.scratch) s.scratch
    go true = refl
    go false = insert_scratch_by s.words s.keys t total checks.scratch checks.result ∙ check_scratch s

-- scratch at exit, of every call: its first bytes 0 past the test for 7, all untouched before
pub scratch_left : (c : Call) (s : Slices) → (run c s).slices.scratch ≡ left_in c s
unfolding delete_of delete_checked
scratch_left (start form c) s = refl
scratch_left (query q) s = refl
scratch_left (ask a) s = check_scratch s
scratch_left (edit (insert t total)) s = insert_scratch t total s
scratch_left (edit (delete t)) s =
    let c = check_of s.words s.keys s.scratch in
    delete_scratch_by s.words s.keys t c.scratch c.result ∙ check_scratch s
