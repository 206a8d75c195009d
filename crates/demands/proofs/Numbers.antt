-- Each call tests its conditions in the table's order, so it gives a row's number exactly where the row's condition holds.
use Prim.Native.Nat.{ℕ}
use mathlib.Core.Path.{◌≡◌, refl, sym, ap, subst, ◌∙◌}
use mathlib.Core.Logic.{◌≢◌}
use mathlib.Core.List.{List}
use mathlib.Core.Bool.{Bool, true, false, true≢false, not}
use native.Mathlib.Omega.{arith}
use lib.ListN.{length}
use lib.Dec.{eqb}
use borrow.Author.Tests.{eq-eqb, ne_eqb, eqb-true, eqb-false, not-true}
use Rattle.std.specs.Prelude.{Ok, Err}
use Rattle.refusals.specs.Refusal.{number_in}
use Rattle.refusals.specs.declared.Refusal.TheVariants.{Clash, Damaged, Missing, NoLeaf, NoRecord, NotInUse, ShortScratch}
use Rattle.insert.specs.declared.plan.Plan.TheVariants.{New, Over}
use Rattle.insert.specs.Plan.{Planned, plan_of}
use Rattle.leaves.specs.Leaf.{LeafState, leaf_state, next_of, next_at, next_from, next_leaf_of, facts_from, facts_of}
use Rattle.whole.specs.Check.{Checked, check_of}
use Rattle.lists.specs.Scan.{choose}
use Rattle.frames.specs.Frame.{frame_fits, frame}
use Rattle.frames.specs.Place.{place_at, in_pool, start_at, record_at}
use Rattle.frames.specs.declared.frame.Caps.{Caps}
use Rattle.frames.specs.declared.frame.Frame.{Frame}
use Rattle.records.specs.Words.{used_as, next_leaf_word}
use Rattle.art.specs.Tags.{Tag}
use Rattle.art.specs.Verdicts.{free, judge}
use Rattle.art.specs.Points.{store_of}
use Rattle.art.specs.Stores.{Place, leaf_place, inner_place}
use Rattle.pools.specs.Start as start-call
use Rattle.pools.specs.Start.{start_fits_in, start_of}
use Rattle.view.proofs.Starts as starts
use Rattle.tree.specs.Answer.{found_number, facts_number, leaf_found}
use Rattle.tree.specs.Arrive.{with_frame}
use Rattle.tree.specs.declared.lookup.Aim.TheVariants.{Exact, Begin}
use Rattle.tree.specs.declared.minmax.Edge.TheVariants.{Low, High}
use Rattle.reading.specs.Answers.{Bytes}
use Rattle.whole.specs.Check as check-call
use Rattle.range.specs.Range.{after_of}
use Rattle.insert.specs.Answer as insert-answer
use Rattle.insert.specs.Insert as insert-call
use Rattle.insert.specs.Insert.{too_long}
use Rattle.insert.specs.Room.{LeavesFull, Lacking, Answers}
use Rattle.insert.proofs.Refusals.{plan_answers}
use Rattle.delete.specs.Answer as delete-answer
use Rattle.delete.specs.Delete as delete-call
use Rattle.demands.specs.Calls.{Query, search, prefix_search, minimum, maximum, next_leaf, leaf_facts, leaf_tag, Asked, check, first_at_or_after, station_total, insert, delete, Call, start, query, ask, edit, Slices, given, checks, run}
use Rattle.demands.specs.Told.{Told, told_by, number}
use Rattle.demands.specs.Histories.{CallBytes}
use Rattle.demands.specs.Listed.{holds, Enough, Listed}
use Rattle.demands.specs.Due as due
use Rattle.demands.specs.Due.{framed, leaf_at, InUse, obeys, names_leaf, OnLeaf, of_next, of_facts, Due}
use Rattle.demands.specs.Tests.{Short, Passed}
use Rattle.demands.proofs.Inserted.{inserts_same}
use Rattle.demands.proofs.Listed.{listed_by}
use Rattle.demands.proofs.Ways.{meets_number, met, ends_number, ended}
use Rattle.demands.proofs.Tested.{Tests, unframed, short, unsound, passed, tested, check_unframed, check_short, check_unsound, insert_too_long, insert_by_lem, insert_passed, delete_by_lem}

-- ── where the frame does not fit ──
unframed_is : {A : Type 0} (s : Slices) → framed s ≡ false → (given : Frame → A) (refused : A) → with_frame s.words s.keys given refused ≡ refused
unfolding with_frame
unframed_is s e given refused = ap (λ (b : Bool). choose b (given (frame s.words)) refused) e

framed_is : {A : Type 0} (s : Slices) → frame_fits s.words s.keys ≡ true → (given : Frame → A) (refused : A) → with_frame s.words s.keys given refused ≡ given (frame s.words)
unfolding with_frame
framed_is s e given refused = ap (λ (b : Bool). choose b (given (frame s.words)) refused) e

-- ── a leaf number ──
module _ (s : Slices) (n : ℕ) where
  abbrev f : Frame
  f = frame s.words

  abbrev state : LeafState
  state = leaf_state f s.words s.keys n

  absent_state : framed s ≡ true → ¬ InUse s n → state ≡ Err NotInUse
  unfolding leaf_state
  absent_state fits h = go (in_pool f (leaf_place n)) refl (eqb (used_as (leaf_at s n)) 0) refl
    where
      go : (p : Bool) → in_pool f (leaf_place n) ≡ p → (d : Bool) → eqb (used_as (leaf_at s n)) 0 ≡ d → state ≡ Err NotInUse
      go false e d i = simp e
      go true e true i = simp (e, i)
      go true e false i = absurd (h (fits, e, eqb-false (used_as (leaf_at s n)) 0 i))

  broken_state : InUse s n → obeys s n ≡ false → state ≡ Err Damaged
  unfolding leaf_state
  broken_state u r = simp (u.1, ne_eqb (used_as (leaf_at s n)) 0 u.2, r)

  good_state : InUse s n → obeys s n ≡ true → state ≡ Ok (start_at f (leaf_place n))
  unfolding leaf_state
  good_state u r = simp (u.1, ne_eqb (used_as (leaf_at s n)) 0 u.2, r)

  next_by : frame_fits s.words s.keys ≡ true → (x : LeafState) → state ≡ x → next_leaf_of s.words s.keys n ≡ next_from f s.words n x
  next_by fits x e = framed_is s fits _ _ ∙ ap (next_from f s.words n) e

  facts_by : frame_fits s.words s.keys ≡ true → (x : LeafState) → state ≡ x → facts_of s.words s.keys n ≡ facts_from (record_at f s.words (leaf_place n)) x
  facts_by fits x e = framed_is s fits _ _ ∙ ap (facts_from (record_at f s.words (leaf_place n))) e

  at_number : (x : Place) (b : Bool) → names_leaf s x ≡ b → found_number (next_at f s.words x) ≡ choose {A = ℕ} b 0 6
  at_number (leaf_place m) true e = ap (λ (b : Bool). found_number (choose b (leaf_found m (record_at f s.words (leaf_place m))) (Err Damaged))) e
  at_number (leaf_place m) false e = ap (λ (b : Bool). found_number (choose b (leaf_found m (record_at f s.words (leaf_place m))) (Err Damaged))) e
  at_number (inner_place k m) b e = ap (λ (b : Bool). choose {A = ℕ} b 0 6) e

  -- a leaf that obeys its rule: by what its next names
  next_end : InUse s n → obeys s n ≡ true → next_leaf_word (leaf_at s n) ≡ 0 → found_number (next_leaf_of s.words s.keys n) ≡ 1
  unfolding next_of
  next_end u r e =
      ap found_number (next_by u.0 _ (good_state u r))
      ∙ ap (λ (b : Bool). found_number (choose b (Err Missing) (next_at f s.words (place_at (next_leaf_word (leaf_at s n)))))) (eq-eqb (next_leaf_word (leaf_at s n)) 0 e)

  next_names : InUse s n → obeys s n ≡ true → next_leaf_word (leaf_at s n) ≢ 0 → (b : Bool) → names_leaf s (place_at (next_leaf_word (leaf_at s n))) ≡ b → found_number (next_leaf_of s.words s.keys n) ≡ choose {A = ℕ} b 0 6
  unfolding next_of
  next_names u r ne b e =
      ap found_number (next_by u.0 _ (good_state u r))
      ∙ ap (λ (b : Bool). found_number (choose b (Err Missing) (next_at f s.words (place_at (next_leaf_word (leaf_at s n)))))) (ne_eqb (next_leaf_word (leaf_at s n)) 0 ne)
      ∙ at_number (place_at (next_leaf_word (leaf_at s n))) b e

-- ── start ──
start_number_lem : (s : Slices) (form : ℕ) (c : Caps) (b : Bool) → start_fits_in form c (length s.words) (length s.keys) ≡ b → start-call.start_number (start_of s.words s.keys form c).answer ≡ choose {A = ℕ} b 0 8
start_number_lem s form c true e = ap start-call.start_number (starts.start_done s.words s.keys form c e)
start_number_lem s form c false e = ap (λ (o : start-call.Out). start-call.start_number o.answer) (starts.start_refused s.words s.keys form c e)

-- ── a class of calls ──
-- a query that gives a number: all do but the one that gives a tag
abbrev Numbered : Query → Type 0
Numbered q = (n : ℕ) → q ≢ leaf_tag n

-- every query that gives a number gives 6 where the frame does not fit
query_number : (q : Query) (s : Slices) → Numbered q → framed s ≡ false → number (query q) s ≡ 6
query_number (search t) s h e = ap found_number (unframed_is s e _ _)
query_number (prefix_search t) s h e = ap found_number (unframed_is s e _ _)
query_number minimum s h e = ap found_number (unframed_is s e _ _)
query_number maximum s h e = ap found_number (unframed_is s e _ _)
query_number (next_leaf n) s h e = ap found_number (unframed_is s e _ _)
query_number (leaf_facts n) s h e = ap facts_number (unframed_is s e _ _)
query_number (leaf_tag n) s h e = absurd (h n refl)

-- a leaf that is refused, by either call on a leaf number
leaf_number : (s : Slices) {q : Query} {n : ℕ} → OnLeaf q n → frame_fits s.words s.keys ≡ true → (x : LeafState) → state s n ≡ x → number_in x ≢ 0 → number (query q) s ≡ number_in x
leaf_number s (of_next n) fits (Ok at) e h = absurd (h refl)
leaf_number s (of_next n) fits (Err refusal) e h = ap found_number (next_by s n fits (Err refusal) e)
leaf_number s (of_facts n) fits (Ok at) e h = absurd (h refl)
leaf_number s (of_facts n) fits (Err refusal) e h = ap facts_number (facts_by s n fits (Err refusal) e)

-- what the check refuses, the calls after it refuse with the same number
asked_refused : (a : Asked) (words keys : List ℕ) (r : Checked) → check-call.number_of r ≢ 0 → (told_by (given a words keys r)).number ≡ check-call.number_of r
asked_refused check words keys r h = refl
asked_refused (first_at_or_after t) words keys (Ok tt) h = absurd (h refl)
asked_refused (first_at_or_after t) words keys (Err refusal) h = refl
asked_refused (station_total t) words keys (Ok tt) h = absurd (h refl)
asked_refused (station_total t) words keys (Err refusal) h = refl

inserted_refused : (words keys scratch : List ℕ) (t : Tag) (total : ℕ) (r : Checked) → check-call.number_of r ≢ 0
    → insert-answer.number_of (insert-call.insert_by words keys scratch t total r).answer ≡ check-call.number_of r
inserted_refused words keys scratch t total (Ok tt) h = absurd (h refl)
inserted_refused words keys scratch t total (Err refusal) h = refl

deleted_refused : (words keys scratch : List ℕ) (t : Tag) (r : Checked) → check-call.number_of r ≢ 0 → delete-answer.number_of (delete-call.delete_by words keys scratch t r).answer ≡ check-call.number_of r
deleted_refused words keys scratch t (Ok tt) h = absurd (h refl)
deleted_refused words keys scratch t (Err refusal) h = refl

checked_number : (c : Call) (s : Slices) → checks c s ≡ true → (r : Checked) → (check_of s.words s.keys s.scratch).result ≡ r → check-call.number_of r ≢ 0 → number c s ≡ check-call.number_of r
checked_number (start form c) s h r e n = absurd (true≢false (sym h))
checked_number (query q) s h r e n = absurd (true≢false (sym h))
checked_number (ask a) s h r e n = ap (λ (x : Checked). (told_by (given a s.words s.keys x)).number) e ∙ asked_refused a s.words s.keys r n
checked_number (edit (insert t total)) s h r e n =
    ap insert-answer.number_of (insert_by_lem s t total (not-true _ h) r e) ∙ inserted_refused s.words s.keys _ t total r n
checked_number (edit (delete t)) s h r e n = ap delete-answer.number_of (delete_by_lem s t r e) ∙ deleted_refused s.words s.keys _ t r n

-- past the check every call gives what the list has: what the list tells is one thing, and the call tells it
listed_number : (c : Call) (s : Slices) (p : Passed s) → CallBytes c → checks c s ≡ true → (a : Told) → Listed p.sound c a → number c s ≡ a.number
listed_number (start form c) s p b h a l = absurd (true≢false (sym h))
listed_number (query q) s p b h a l = absurd (true≢false (sym h))
listed_number (ask check) s p b h a l = ap (λ (a : Told). a.number) (listed_by s p.sound (ask check) b (λ e. p.room) ∙ sym l)
listed_number (ask (first_at_or_after t)) s p b h a l = ap (λ (a : Told). a.number) (listed_by s p.sound (ask (first_at_or_after t)) b (λ e. p.room) ∙ sym l)
listed_number (ask (station_total t)) s p b h a l = ap (λ (a : Told). a.number) (listed_by s p.sound (ask (station_total t)) b (λ e. p.room) ∙ sym l)
listed_number (edit (insert t total)) s p b h a l =
    let e = not-true _ h in
    ap (λ (a : Told). a.number) (inserts_same p.sound t b ((listed_by s p.sound (edit (insert t total)) b (λ e. p.room)).1 e) (l.1 e))
listed_number (edit (delete t)) s p b h a l = ap (λ (a : Told). a.number) (listed_by s p.sound (edit (delete t)) b (λ e. p.room) ∙ sym l)

-- ── each row's number is given where its condition holds ──
pub due_number : {c : Call} {s : Slices} {n : ℕ} → CallBytes c → Due c s n → number c s ≡ n
unfolding after_of
due_number b (due.start_refused {form} {c} {s} e) = start_number_lem s form c false e
due_number b (due.start_done {form} {c} {s} e) = start_number_lem s form c true e
due_number b (due.query_unframed {q} {s} h e) = query_number q s h e
due_number b (due.leaf_absent {q} {n} {s} k fits h) = leaf_number s k fits (Err NotInUse) (absent_state s n fits h) (λ z. omega arith)
due_number b (due.leaf_broken {q} {n} {s} k u r) = leaf_number s k u.0 (Err Damaged) (broken_state s n u r) (λ z. omega arith)
due_number b (due.checked_unframed {c} {s} h e) = checked_number c s h (Err Damaged) (check_unframed s e) (λ z. omega arith)
due_number b (due.checked_short {c} {s} h f l) = checked_number c s h (Err ShortScratch) (check_short s (record { fits = f; less = omega (arith, l) })) (λ z. omega arith)
due_number b (due.checked_unsound {c} {s} h f r u) = checked_number c s h (Err Damaged) (check_unsound s (record { fits = f; room = r; not_sound = u })) (λ z. omega arith)
due_number b (due.search_walked {t} {s} fits m) = ap found_number (framed_is s fits _ _) ∙ meets_number (frame s.words) s.words s.keys t Exact (record { read = refl; fits = fits }) b m
due_number b (due.prefix_walked {t} {s} fits m) = ap found_number (framed_is s fits _ _) ∙ meets_number (frame s.words) s.words s.keys t Begin (record { read = refl; fits = fits }) b m
due_number b (due.minimum_walked {s} fits m) = ap found_number (framed_is s fits _ _) ∙ ends_number (frame s.words) s.words s.keys Low m
due_number b (due.maximum_walked {s} fits m) = ap found_number (framed_is s fits _ _) ∙ ends_number (frame s.words) s.words s.keys High m
due_number b due.tag_given = refl
due_number b (due.next_unnamed {n} {s} u r ne e) = next_names s n u r ne false e
due_number b (due.next_end {n} {s} u r e) = next_end s n u r e
due_number b (due.next_done {n} {s} u r ne e) = next_names s n u r ne true e
due_number b (due.facts_done {n} {s} u r) = ap facts_number (facts_by s n u.0 _ (good_state s n u r))
due_number b (due.insert_long {t} {total} {s} l) = ap insert-answer.number_of (insert_too_long s t total l)
due_number b (due.checked_listed {c} {s} h r z a l) = listed_number c s (record { room = r; sound = z }) b h a l

-- ── and there is a row for every call ──
-- a number with its row
abbrev Row : Call → Slices → Type 0
Row c s = (n : ℕ) × Due c s n

-- a query on a leaf number gives a number
on_leaf : {q : Query} {n : ℕ} → OnLeaf q n → Numbered q
on_leaf (of_next n) m e = let z : ◌≡◌ {A = ℕ} 0 1 = cc in omega arith
on_leaf (of_facts n) m e = let z : ◌≡◌ {A = ℕ} 0 1 = cc in omega arith

-- a query: by the frame, then as the walk meets it
by_frame : {q : Query} {s : Slices} → Numbered q → (framed s ≡ true → Row (query q) s) → Row (query q) s
by_frame {q} {s} k walked = go (frame_fits s.words s.keys) refl
  where
    go : (b : Bool) → frame_fits s.words s.keys ≡ b → Row (query q) s
    go false e = (6, due.query_unframed k e)
    go true e = walked e

-- short scratch is not enough
pub short_not : (s : Slices) → Short s → ¬ Enough s
short_not s e r = omega (arith, e.less)

-- a call that gets to the check: by frame, scratch and soundness, then by the list
by_tests : (c : Call) (s : Slices) → CallBytes c → checks c s ≡ true → Tests s → Row c s
by_tests c s b h (unframed e) = (6, due.checked_unframed h e)
by_tests c s b h (short e) = (7, due.checked_short h e.fits (short_not s e))
by_tests c s b h (unsound e) = (6, due.checked_unsound h e.fits e.room e.not_sound)
by_tests c s b h (passed p) = ((told_by (run c s).answer).number, due.checked_listed h p.room p.sound (told_by (run c s).answer) (listed_by s p.sound c b (λ e. p.room)))

start_row : (form : ℕ) (c : Caps) (s : Slices) (b : Bool) → start_fits_in form c (length s.words) (length s.keys) ≡ b → Row (start form c) s
start_row form c s true e = (0, due.start_done e)
start_row form c s false e = (8, due.start_refused e)

-- a leaf number: the frame, the pool, word 0 and the rule
by_leaf : {q : Query} {n : ℕ} (s : Slices) → OnLeaf q n → (InUse s n → obeys s n ≡ true → Row (query q) s) → Row (query q) s
by_leaf {q} {n} s k good = by_frame (on_leaf k) (λ p. go p (in_pool (frame s.words) (leaf_place n)) refl (eqb word 0) refl (obeys s n) refl)
  where
    word : ℕ
    word = used_as (leaf_at s n)

    go : framed s ≡ true → (b : Bool) → in_pool (frame s.words) (leaf_place n) ≡ b → (d : Bool) → eqb word 0 ≡ d → (r : Bool) → obeys s n ≡ r → Row (query q) s
    go p false e d i r j = (9, due.leaf_absent k p (λ u. true≢false (sym u.1 ∙ e)))
    go p true e true i r j = (9, due.leaf_absent k p (λ u. u.2 (eqb-true word 0 i)))
    go p true e false i false j = (6, due.leaf_broken k (p, e, eqb-false word 0 i) j)
    go p true e false i true j = good (p, e, eqb-false word 0 i) j

next_row : (s : Slices) (n : ℕ) → InUse s n → obeys s n ≡ true → Row (query (next_leaf n)) s
next_row s n u r = go (eqb (next_leaf_word (leaf_at s n)) 0) refl (names_leaf s (place_at (next_leaf_word (leaf_at s n)))) refl
  where
    go : (b : Bool) → eqb (next_leaf_word (leaf_at s n)) 0 ≡ b → (d : Bool) → names_leaf s (place_at (next_leaf_word (leaf_at s n))) ≡ d → Row (query (next_leaf n)) s
    go true e d i = (1, due.next_end u r (eqb-true (next_leaf_word (leaf_at s n)) 0 e))
    go false e true i = (0, due.next_done u r (eqb-false (next_leaf_word (leaf_at s n)) 0 e) i)
    go false e false i = (6, due.next_unnamed u r (eqb-false (next_leaf_word (leaf_at s n)) 0 e) i)

insert_row : (s : Slices) (t : Tag) (total : ℕ) → Bytes t → (b : Bool) → too_long s.words s.keys t ≡ b → Row (edit (insert t total)) s
insert_row s t total bytes true e = (2, due.insert_long e)
insert_row s t total bytes false e = by_tests (edit (insert t total)) s bytes (ap not e) (tested s)

due_row : (c : Call) (s : Slices) → CallBytes c → Row c s
due_row (start form c) s b = start_row form c s (start_fits_in form c (length s.words) (length s.keys)) refl
due_row (query (search t)) s b = by_frame (λ m q. let z : ◌≡◌ {A = ℕ} 0 1 = cc in omega arith) (λ e. let m = met (frame s.words) s.words s.keys t Exact in (m.0, due.search_walked e m.1))
due_row (query (prefix_search t)) s b = by_frame (λ m q. let z : ◌≡◌ {A = ℕ} 0 1 = cc in omega arith) (λ e. let m = met (frame s.words) s.words s.keys t Begin in (m.0, due.prefix_walked e m.1))
due_row (query minimum) s b = by_frame (λ m q. let z : ◌≡◌ {A = ℕ} 0 1 = cc in omega arith) (λ e. let m = ended (frame s.words) s.words s.keys Low in (m.0, due.minimum_walked e m.1))
due_row (query maximum) s b = by_frame (λ m q. let z : ◌≡◌ {A = ℕ} 0 1 = cc in omega arith) (λ e. let m = ended (frame s.words) s.words s.keys High in (m.0, due.maximum_walked e m.1))
due_row (query (next_leaf k)) s b = by_leaf s (of_next k) (next_row s k)
due_row (query (leaf_facts k)) s b = by_leaf s (of_facts k) (λ u r. (0, due.facts_done u r))
due_row (query (leaf_tag k)) s b = (0, due.tag_given)
due_row (ask a) s b = by_tests (ask a) s b refl (tested s)
due_row (edit (insert t total)) s b = insert_row s t total b (too_long s.words s.keys t) refl
due_row (edit (delete t)) s b = by_tests (edit (delete t)) s b refl (tested s)

-- so the number that any call gives, on any block, is given where a row of the table gives it
pub number_due : (c : Call) (s : Slices) (n : ℕ) → CallBytes c → number c s ≡ n → Due c s n
number_due c s n b e = let r = due_row c s b in subst (Due c s) (sym (due_number b r.1) ∙ e) r.1

-- ── 5 is given only where the record that a new tag wants is not to be had ──
abbrev pub Lacked : Slices → Tag → Type 0
Lacked s t = (p : Passed s) × (judge t (holds p.sound) ≡ free) × (¬ LeavesFull (frame s.words) (store_of p.sound.tree)) × Lacking (frame s.words) p.sound.tree t

pub five_lacks : (s : Slices) (t : Tag) (total : ℕ) → Bytes t → number (edit (insert t total)) s ≡ 5 → Lacked s t
five_lacks s t total b e = by_long (too_long s.words s.keys t) refl
  where
    other : {n : ℕ} → Due (edit (insert t total)) s n → n ≢ 5 → Lacked s t
    other d ne = absurd (ne (sym (due_number b d) ∙ e))

    by_plan : too_long s.words s.keys t ≡ false → (p : Passed s) (q : Planned) → plan_of (frame s.words) s.words s.keys t ≡ q
        → Answers (judge t (holds p.sound)) (LeavesFull (frame s.words) (store_of p.sound.tree)) (Lacking (frame s.words) p.sound.tree t) q → Lacked s t
    by_plan l p (Ok (Over leaf)) i h = absurd (let z = ap insert-answer.number_of (insert_passed s t total l p (Ok (Over leaf)) i) in omega (arith, e, z))
    by_plan l p (Ok (New site n gap)) i h = absurd (let z = ap insert-answer.number_of (insert_passed s t total l p (Ok (New site n gap)) i) in omega (arith, e, z))
    by_plan l p (Err Clash) i h = absurd (let z = ap insert-answer.number_of (insert_passed s t total l p (Err Clash) i) in omega (arith, e, z))
    by_plan l p (Err NoLeaf) i h = absurd (let z = ap insert-answer.number_of (insert_passed s t total l p (Err NoLeaf) i) in omega (arith, e, z))
    by_plan l p (Err NoRecord) i h = (p, h.0, h.1, h.2)
    by_plan l p (Err refusal) i h = absurd h

    by_check : too_long s.words s.keys t ≡ false → Tests s → Lacked s t
    by_check l (unframed u) = other (due.checked_unframed (ap not l) u) (λ z. omega arith)
    by_check l (short u) = other (due.checked_short (ap not l) u.fits (short_not s u)) (λ z. omega arith)
    by_check l (unsound u) = other (due.checked_unsound (ap not l) u.fits u.room u.not_sound) (λ z. omega arith)
    by_check l (passed p) = by_plan l p (plan_of (frame s.words) s.words s.keys t) refl (plan_answers p.sound t b)

    by_long : (d : Bool) → too_long s.words s.keys t ≡ d → Lacked s t
    by_long true l = other (due.insert_long l) (λ z. omega arith)
    by_long false l = by_check l (tested s)
