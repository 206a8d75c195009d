-- On every sound block, with scratch enough, each call answers as the sorted list of its tags and totals: what each call's own theorem says, said of the call's outcome.
use Prim.Native.Nat.{ℕ}
use mathlib.Core.Path.{◌≡◌, refl, sym, ap, ◌∙◌}
use mathlib.Core.List.{List}
use mathlib.Core.Option.{Option, none, some}
use mathlib.Core.Bool.{not}
use Rattle.std.specs.Prelude.{Ok}
use Rattle.delete.specs.Answer.{Deleted}
use Rattle.insert.specs.Answer.{Inserted}
use Rattle.stations.specs.Stations.{Totalled, tally_is, total_check}
use Rattle.tree.specs.Answer.{Found, LeafFacts}
use Rattle.whole.specs.Check.{Checked, check_of}
use Rattle.tally.specs.declared.Tally.{Tally}
use Rattle.records.specs.View.{Held}
use Rattle.art.specs.Tags.{Tag}
use Rattle.art.specs.Listings.{lookup, lookup_begun, begun_with}
use Rattle.art.specs.Orders.{first_of, last_of, after}
use Rattle.leaves.specs.Leaf.{next_leaf_of, facts_of, tag_of}
use Rattle.reading.specs.Answers.{answer_of}
use Rattle.reading.specs.Listing.{totals}
use Rattle.whole.specs.Sound.{Sound}
use Rattle.pointed.proofs.Sounds.{sound_shown}
use Rattle.insert.proofs.Afters.{after_shown}
use Rattle.range.specs.Range.{after_is, after_check, after_of}
use Rattle.reading.proofs.Stations.{tally_shown}
use Rattle.delete.specs.Meets as delete_answers
use Rattle.delete.proofs.Answers.{delete_meets}
use Rattle.demands.specs.Calls as calls
use Rattle.demands.specs.Calls.{Call, Slices, run}
use Rattle.demands.specs.Told.{Told, told_by}
use Rattle.demands.specs.Histories.{CallBytes}
use Rattle.demands.specs.Tests.{Passed}
use Rattle.demands.specs.Listed.{holds, Suffices, finds, takes, Listed}
use Rattle.demands.proofs.Reading.{reading_meets}
use Rattle.demands.proofs.Tested.{check_passed, insert_too_long}
use Rattle.demands.proofs.Inserted.{inserts_listed}

-- ── first at or after, past the check ──
after_by : (s : Slices) (t : Tag) (c : Checked) → (check_of s.words s.keys s.scratch).result ≡ c → (after_of s.words s.keys s.scratch t).result ≡ after_check s.words s.keys t c
unfolding after_of
after_by s t c e = ap (after_check s.words s.keys t) e

-- on a sound block it answers as the sorted list
pub after_meets : (s : Slices) (t : Tag) (p : Passed s) → (after_of s.words s.keys s.scratch t).result ≡ after_is (after t (holds p.sound))
after_meets s t p = after_by s t (Ok tt) (check_passed s p) ∙ after_shown (sound_shown p.sound) t

-- ── station total, past the check ──
-- on a sound block it is what the sorted list, filtered, adds up to
station_meets : (s : Slices) (t : Tag) (p : Passed s) → total_check s.words s.keys t (check_of s.words s.keys s.scratch).result ≡ Ok (tally_is (begun_with t (totals (holds p.sound))))
station_meets s t p = ap (total_check s.words s.keys t) (check_passed s p) ∙ ap (λ (sum : Tally). Ok sum) (tally_shown (sound_shown p.sound) t p.sound.count)

-- ── what an answer by the list tells ──
found_told : (o : Option Held) → told_by (calls.found (answer_of o)) ≡ finds o
found_told none = refl
found_told (some h) = refl

after_told : (o : Option Held) → told_by (calls.after (after_is o)) ≡ finds o
after_told none = refl
after_told (some h) = refl

taken_told : (o : Option Held) → told_by (calls.deleted (delete_answers.answer_of o)) ≡ takes o
taken_told none = refl
taken_told (some h) = refl

abbrev found : Found → Told
found a = told_by (calls.found a)

abbrev facts : LeafFacts → Told
facts a = told_by (calls.facts a)

abbrev tag : List ℕ → Told
tag b = told_by (calls.tag b)

-- demand 2: on every sound block, with scratch enough, each call answers as the sorted list of what the block holds
pub listed_by : (s : Slices) (z : Sound s.words s.keys) (c : Call) → CallBytes c → Suffices c s → Listed z c (told_by (run c s).answer)
unfolding after_of
listed_by s z (calls.start form c) b r = tt
listed_by s z (calls.query (calls.search t)) b r = ap found ((reading_meets z).search t b) ∙ found_told (lookup t (holds z))
listed_by s z (calls.query (calls.prefix_search t)) b r = ap found ((reading_meets z).prefix_search t b) ∙ found_told (lookup_begun t (holds z))
listed_by s z (calls.query calls.minimum) b r = ap found (reading_meets z).minimum ∙ found_told (first_of (holds z))
listed_by s z (calls.query calls.maximum) b r = ap found (reading_meets z).maximum ∙ found_told (last_of (holds z))
listed_by s z (calls.query (calls.next_leaf n)) b r =
    (λ front e rest i j. ap (λ (m : ℕ). found (next_leaf_of s.words s.keys m)) (sym j) ∙ ap found ((reading_meets z).next_leaf front e rest i) ∙ found_told (first_of rest), λ h. ap found ((reading_meets z).next_free n h))
listed_by s z (calls.query (calls.leaf_facts n)) b r =
    (λ e i j. ap (λ (m : ℕ). facts (facts_of s.words s.keys m)) (sym j) ∙ ap facts ((reading_meets z).leaf_facts e i), λ h. ap facts ((reading_meets z).facts_free n h))
listed_by s z (calls.query (calls.leaf_tag n)) b r =
    (λ e i j. ap (λ (m : ℕ). tag (tag_of s.words s.keys m)) (sym j) ∙ ap tag ((reading_meets z).leaf_tag e i), λ h. ap tag ((reading_meets z).tag_free n h))
listed_by s z (calls.ask calls.check) b r = ap (λ (a : Checked). told_by (calls.checked a)) (check_passed s (record { room = r refl; sound = z }))
listed_by s z (calls.ask (calls.first_at_or_after t)) b r = ap (λ (a : Found). told_by (calls.after a)) (after_meets s t (record { room = r refl; sound = z })) ∙ after_told (after t (holds z))
listed_by s z (calls.ask (calls.station_total t)) b r = ap (λ (a : Totalled). told_by (calls.totalled a)) (station_meets s t (record { room = r refl; sound = z }))
listed_by s z (calls.edit (calls.insert t total)) b r =
    (λ h. ap (λ (a : Inserted). told_by (calls.inserted a)) (insert_too_long s t total h), λ h. inserts_listed s t total b h (record { room = r (ap not h); sound = z }))
listed_by s z (calls.edit (calls.delete t)) b r = ap (λ (a : Deleted). told_by (calls.deleted a)) (delete_meets z t b s.scratch (r refl)).answer ∙ taken_told (lookup t (holds z))
