-- Insert on a sound block does what the sorted list says: a held tag's total is overwritten, a tag that clashes or has no room is refused with no byte changed, and any other is put in.
use Prim.Native.Nat.{ℕ, ◌≤◌, ◌/◌}
use mathlib.Core.Path.{◌≡◌, refl, sym, ap, subst, ◌∙◌}
use mathlib.Core.List.{List}
use mathlib.Core.Bool.{Bool, true, false}
use lib.ListN.{length}
use borrow.Author.Tests.{le-ltb}
use Rattle.std.specs.Prelude.{Ok, Err}
use Rattle.refusals.specs.declared.Refusal.TheVariants.{Clash, NoLeaf, NoRecord, TooLong}
use Rattle.insert.specs.declared.plan.Plan.TheVariants.{New, Over}
use Rattle.insert.specs.Plan.{Planned, plan_of}
use Rattle.lists.specs.Scan.{choose}
use Rattle.frames.specs.Frame.{frame}
use Rattle.frames.specs.Place.{record_at}
use Rattle.frames.specs.declared.frame.Frame.{Frame}
use Rattle.records.specs.Own.{total_of}
use Rattle.art.specs.Deletes.{held}
use Rattle.art.specs.Verdicts.{judge}
use Rattle.art.specs.Stores.{leaf_place}
use Rattle.art.specs.Points.{store_of}
use Rattle.whole.specs.Marks.{places_in}
use Rattle.whole.specs.Check as check
use Rattle.whole.specs.Sound.{Sound}
use Rattle.whole.proofs.Sounds.{sound_whole}
use Rattle.reading.specs.Answers.{Bytes}
use Rattle.states.proofs.Lowest.{lowest_leaf}
use Rattle.states.proofs.Sounds.{sound_state}
use Rattle.insert.specs.Room.{LeavesFull, Lacking, Answers}
use Rattle.insert.specs.Meets.{Inserts, overwrites, clashes, no_leaf, no_record, puts_in}
use Rattle.insert.specs.Insert.{out, planned, insert_sound, insert_checked, too_long, insert_of}
use Rattle.insert.proofs.Calls.{short_fits}
use Rattle.insert.proofs.Plans.{plan_new}
use Rattle.insert.proofs.Sounds.{insert_sound_lem}
use Rattle.insert.proofs.Overs.{over_held, over_sound}
use Rattle.insert.proofs.Refusals.{plan_answers}

-- ── the plan applied ──
module _ {words keys : List ℕ} (s : Sound words keys) (tag : List ℕ) (tag_bytes : Bytes tag) (key-bytes : Bytes keys) (short : length tag ≤ (frame words).form.limit) (scratch : List ℕ) (total : ℕ) where
  abbrev f : Frame
  f = frame words

  plan_meets : (p : Planned) → plan_of f words keys tag ≡ p → Answers (judge tag (held s.tree)) (LeavesFull f (store_of s.tree)) (Lacking f s.tree tag) p
      → Inserts s tag total (planned f words keys scratch tag total p)
  plan_meets (Ok (Over leaf)) e h =
      let done = over_sound s tag tag_bytes leaf e total in
      overwrites h (record { old = record { number = leaf / 8; total = total_of (record_at f words (leaf_place (leaf / 8))) }; was = over_held s tag tag_bytes leaf e; answers = refl; sound = done.0; holds = done.1 })
  plan_meets (Ok (New site n gap)) e h =
      let done = insert_sound_lem s tag tag_bytes key-bytes short site n gap total e in
      let new = plan_new f words keys tag site n gap e in
      puts_in h.0 h.1 h.2 (record { answers = refl; sound = done.0; leaf = n; lowest = lowest_leaf (sound_state s) n new.number new.room; holds = done.1 })
  plan_meets (Err Clash) e h = clashes h (record { answers = refl; words_kept = refl; keys_kept = refl })
  plan_meets (Err NoLeaf) e h = no_leaf h.0 h.1 (record { answers = refl; words_kept = refl; keys_kept = refl })
  plan_meets (Err NoRecord) e h = no_record h.0 h.1 h.2 (record { answers = refl; words_kept = refl; keys_kept = refl })
  plan_meets (Err refusal) e h = absurd h

-- ── the call ──
-- with scratch enough the check finds the block sound
checked_sound : {words keys : List ℕ} → Sound words keys → (scratch : List ℕ) → places_in (frame words) ≤ length scratch
    → check.check_of words keys scratch ≡ check.answer (Ok tt) (check.cleared (places_in (frame words)) scratch)
unfolding check.check_of check.whole_of
checked_sound {words} {keys} s scratch h =
    let f : Frame = frame words in
    let whole : check.whole_by f words keys ≡ true = ap (λ (b : Bool). choose b (check.whole_by f words keys) false) (sym s.fits) ∙ sound_whole words keys s in
    simp (s.fits, le-ltb (length scratch) (places_in f) h, whole)

on_sound : {words keys : List ℕ} → Sound words keys → (scratch tag : List ℕ) (total : ℕ) → places_in (frame words) ≤ length scratch → too_long words keys tag ≡ false
    → insert_of words keys scratch tag total ≡ planned (frame words) words keys (check.cleared (places_in (frame words)) scratch) tag total (plan_of (frame words) words keys tag)
unfolding insert_of insert_checked insert_sound
on_sound {words} {keys} s scratch tag total h short =
    ap (λ (b : Bool). choose b (out (Err TooLong) words keys scratch) (insert_checked words keys tag total (check.check_of words keys scratch))) short
    ∙ ap (insert_checked words keys tag total) (checked_sound s scratch h)

-- on every sound block, with scratch enough, insert of a tag of 64 bytes or fewer does one of the five, each where its condition holds
pub insert_meets : {words keys : List ℕ} (s : Sound words keys) (scratch tag : List ℕ) (total : ℕ) → Bytes tag → Bytes keys → places_in (frame words) ≤ length scratch → too_long words keys tag ≡ false
    → Inserts s tag total (insert_of words keys scratch tag total)
insert_meets {words} {keys} s scratch tag total tag_bytes key-bytes h short =
    subst (Inserts s tag total) (sym (on_sound s scratch tag total h short))
    (plan_meets s tag tag_bytes key-bytes (short_fits words keys tag s.fits short) (check.cleared (places_in (frame words)) scratch) total
    (plan_of (frame words) words keys tag) refl (plan_answers s tag tag_bytes))
