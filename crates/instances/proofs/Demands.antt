-- The demands on blocks that are written out: what each theorem asks is computed, and what it says of the block can be read off.
use Prim.Native.Nat.{ℕ}
use mathlib.Core.Path.{◌≡◌, refl, ap, subst, ◌∙◌}
use mathlib.Core.Logic.{◌≢◌}
use mathlib.Core.Bool.{false}
use mathlib.Core.List.{List, [], ◌∷◌}
use mathlib.Core.Option.{some}
use native.Mathlib.Omega.{arith}
use Rattle.std.specs.Prelude.{None, Ok}
use lib.ListN.{replicate}
use Rattle.frames.specs.Frame.{frame_fits, frame}
use Rattle.records.specs.View.{Held}
use Rattle.art.specs.Tags.{Tag, Listing}
use Rattle.art.specs.Listings.{lookup}
use Rattle.art.specs.Orders.{after}
use Rattle.art.specs.Verdicts.{judge}
use Rattle.art.specs.Drawings.{one, branch, kid, done, draw}
use Rattle.art.specs.Deletes.{held}
use Rattle.tree.specs.Walk.{search_of}
use Rattle.reading.specs.Answers.{Bytes}
use Rattle.reading.specs.Calls.{Reads}
use Rattle.whole.specs.Sound.{Sound}
use Rattle.whole.proofs.Samples.{two_words, two_keys, two_sound}
use Rattle.range.specs.Range.{after_of, after_is}
use Rattle.pointed.proofs.Points.{tag_bytes}
use Rattle.insert.specs.Insert.{too_long}
use Rattle.demands.specs.Calls as calls
use Rattle.art.proofs.Clashes.{clash_clashes, free_unclashed}
use Rattle.demands.specs.Calls.{Call, query, ask, Edit, edit, search, leaf_tag, check, insert, delete, Outcome, outcome, Promise, run}
use Rattle.demands.specs.Told.{Told, only, with_total, with_leaf, with_tag, told_by}
use Rattle.reading.specs.Listing.{totals}
use Rattle.demands.specs.Histories.{Block, Turn, next, after_all}
use Rattle.demands.specs.Drawn.{drawing_of}
use Rattle.demands.specs.Due.{Due}
use Rattle.demands.specs.Ledger.{ledger}
use Rattle.demands.specs.Programs.{seen}
use Rattle.demands.specs.Demands.{Demands}
use Rattle.demands.specs.Listed.{holds, finds, takes, InsertsListed}
use Rattle.demands.proofs.Reading.{reading_meets}
use Rattle.demands.proofs.Drawings.{drawing_held}
use Rattle.demands.proofs.Outcomes.{one_outcome, promised}
use Rattle.demands.specs.Frames.{FrameKept}
use Rattle.demands.proofs.Frames.{frame_kept, frames_kept}
use Rattle.demands.proofs.Listed.{after_meets}
use Rattle.demands.proofs.Edits.{edit_changes}
use Rattle.demands.proofs.Steps.{step_bytes}
use Rattle.demands.proofs.Tested.{unchecked}
use Rattle.demands.proofs.Corollaries.{one_tree}
use Rattle.demands.proofs.Demands.{demands, kept_demands}
use Rattle.instances.specs.Opened.{opened}
use Rattle.instances.specs.Blocks.{bare, spare, two, swapped, room, three, lend, A, B, C, AB, holding, entry, pair}
use Rattle.instances.proofs.Sounds.{bare_sound, spare_sound, room_sound, two_holds, spare_holds, room_holds, two_places, two_passed, two_tree}
use Rattle.instances.proofs.Conditions.{two_full}

-- ── one outcome ──
abbrev put : Outcome
put = outcome (calls.inserted (Ok None)) three.words three.keys (replicate 5 0)

-- putting C in leaves these words, key bytes and scratch bytes
put_promised : Promise (edit (insert C 9)) (lend room 5) put
unfolding opened
put_promised = promised (edit (insert C 9)) (lend room 5)

-- and whatever else the promise allows is the same
put_only : (o : Outcome) → Promise (edit (insert C 9)) (lend room 5) o → o ≡ put
put_only o p = one_outcome (edit (insert C 9)) (lend room 5) o put p put_promised

-- so a program that keeps the contracts meets the demands: the port is one
kept : Demands (seen run)
kept = kept_demands run promised

-- ── a refused call: both leaves have tags, so C gets 4 ──
refused_due : Due (edit (insert C 9)) (lend two 3) 4
unfolding opened
refused_due = (demands.numbers (edit (insert C 9)) (tag_bytes C refl) (lend two 3)).1

-- it tells nothing but the 4
refused_bare : told_by (run (edit (insert C 9)) (lend two 3)).answer ≡ only 4
unfolding opened
refused_bare = demands.bare (edit (insert C 9)) (lend two 3) (λ e. omega arith)

-- and changes no byte
refused_unchanged : ((run (edit (insert C 9)) (lend two 3)).slices.words ≡ two_words) × ((run (edit (insert C 9)) (lend two 3)).slices.keys ≡ two_keys)
unfolding opened
refused_unchanged = demands.unchanged (edit (insert C 9)) (lend two 3) (λ e. omega arith)

-- ── scratch: five bytes for three records, and two ──
cleared : (run (ask check) (lend two 5)).slices.scratch ≡ 0 ∷ 0 ∷ 0 ∷ 1 ∷ 1 ∷ []
unfolding opened
cleared = demands.scratched (ask check) (lend two 5)

untouched : (run (ask check) (lend two 2)).slices.scratch ≡ 1 ∷ 1 ∷ []
unfolding opened
untouched = demands.scratched (ask check) (lend two 2)

-- ── the tag of a leaf: the byte of leaf 1, from key byte 64 on ──
B_read : told_by (run (query (leaf_tag 1)) (lend two 0)).answer ≡ with_tag B (only 0)
unfolding opened
B_read = demands.tagged 1 (lend two 0)

-- ── the frame ──
room_bytes : Bytes room.keys
room_bytes = tag_bytes room.keys refl

put_framed : FrameKept room.words room.keys three.words three.keys
unfolding opened
put_framed = frame_kept (edit (insert C 9)) tt (tag_bytes C refl) (lend room 5) room_bytes

abbrev turn : Edit → (scratch : ℕ) → Turn
turn e n = record { call = edit e; scratch = replicate n 1 }

-- C in and out again, with a search between
abbrev there_and_back : List Turn
there_and_back = turn (insert C 9) 5 ∷ record { call = query (search C); scratch = [] } ∷ turn (delete C) 5 ∷ []

back_framed : FrameKept room.words room.keys (after_all room there_and_back).words (after_all room there_and_back).keys
back_framed = let c : Bytes C = tag_bytes C refl in frames_kept room room_bytes there_and_back (tt, (tt, (tt, tt))) (c, (c, (c, tt)))

-- so it is the same frame, and fits
put_frame : (frame three.words ≡ frame room.words) × (frame_fits three.words three.keys ≡ frame_fits room.words room.keys)
unfolding opened
put_frame = demands.framed (edit (insert C 9)) (λ form k e. let z : ◌≡◌ {A = ℕ} 0 1 = cc in omega arith) (tag_bytes C refl) (lend room 5) room_bytes

-- ── as a sorted list ──
two_reads : Reads two_words two_keys (entry A 0 7 ∷ entry B 1 8 ∷ [])
two_reads = subst (Reads two_words two_keys) two_holds (reading_meets two_sound)

-- B is found in leaf 1 with its total
B_found : search_of two_words two_keys B ≡ Ok (record { number = 1; total = 8 })
unfolding opened
B_found = two_reads.search B (tag_bytes B refl)

-- and so tells the call, made on the block
abbrev on_two : Call → Told
on_two c = told_by (run c (lend two 3)).answer

B_listed : on_two (query (search B)) ≡ with_leaf 1 (with_total 8 (only 0))
unfolding opened
B_listed = demands.on_sound (lend two 3) two_sound (query (search B)) (tag_bytes B refl) unchecked ∙ ap (λ (l : Listing Held). finds (lookup B l)) two_holds

C_unlisted : on_two (query (search C)) ≡ only 1
unfolding opened
C_unlisted = demands.on_sound (lend two 3) two_sound (query (search C)) (tag_bytes C refl) unchecked ∙ ap (λ (l : Listing Held). finds (lookup C l)) two_holds

-- A with another total gives the old one, AB clashes, C has no leaf, and A goes out with its total
inserted_listed : (t : Tag) → Bytes t → too_long two_words two_keys t ≡ false → InsertsListed two_sound t (on_two (edit (insert t 9)))
inserted_listed t bytes short = (demands.on_sound (lend two 3) two_sound (edit (insert t 9)) bytes (λ e. two_places)).1 short

A_over : on_two (edit (insert A 9)) ≡ with_total 7 (only 0)
unfolding opened
A_over = (inserted_listed A (tag_bytes A refl) refl).over (holding 0 7) (ap (lookup A) two_holds)

AB_clashes : on_two (edit (insert AB 9)) ≡ only 3
unfolding opened
AB_clashes = let c = clash_clashes AB (holds two_sound) (ap (judge AB) two_holds) in (inserted_listed AB (tag_bytes AB refl) refl).clashes c.0 c.1

C_leafless : on_two (edit (insert C 9)) ≡ only 4
unfolding opened
C_leafless = (inserted_listed C (tag_bytes C refl) refl).full (free_unclashed C (holds two_sound) (ap (judge C) two_holds)).1 two_full

A_gone : on_two (edit (delete A)) ≡ with_total 7 (only 0)
unfolding opened
A_gone = demands.on_sound (lend two 3) two_sound (edit (delete A)) (tag_bytes A refl) (λ e. two_places) ∙ ap (λ (l : Listing Held). takes (lookup A l)) two_holds

-- the first at or after AB is B
AB_after : (after_of two_words two_keys (replicate 3 1) AB).result ≡ Ok (record { number = 1; total = 8 })
unfolding opened
AB_after = after_meets (lend two 3) AB two_passed ∙ ap (λ (l : Listing Held). after_is (after AB l)) two_holds

-- putting C in leaves a sound block with C
put_sound : (s : Sound three.words three.keys) × (totals (held s.tree) ≡ (A, 7) ∷ (B, 8) ∷ (C, 9) ∷ [])
unfolding opened
put_sound =
    let c = edit_changes (insert C 9) (lend room 5) (tag_bytes C refl) room_bytes refl room_sound in
    (c.after, c.enters (ledger ((A, 7) ∷ (B, 8) ∷ []) 2 0) (ap totals room_holds))

-- and key bytes below 256
put_bytes : Bytes three.keys
unfolding opened
put_bytes = step_bytes room room_bytes (turn (insert C 9) 5) (tag_bytes C refl)

-- ── in either order ──
-- A and B put into a bare block, and B and A: other words, the same drawing
orders : drawing_of two_words two_keys ≡ drawing_of swapped.words swapped.keys
unfolding opened
orders =
    let s : List ℕ = replicate 3 1 in
    (demands.either_order bare bare_sound (tag_bytes bare.keys refl) (insert A 7) (insert B 8) (tag_bytes A refl) (tag_bytes B refl) A≢B s s s s refl refl refl refl).2
  where
    A≢B : A ≢ B
    A≢B e = let z : ◌≡◌ {A = ℕ} 65 66 = cc in omega arith

-- which is a fork with no run, A and B below it
orders_draw : drawing_of two_words two_keys ≡ branch 0 [] (kid 65 (one A 7) (kid 66 (one B 8) done))
unfolding opened
orders_draw = drawing_held two_sound ∙ ap (λ (l : Listing Held). draw (totals l)) two_holds

-- ── undone ──
abbrev undone : Block
undone = next (next spare (turn (insert B 8) 3)) (turn (delete B) 3)

-- B put in beside A and taken out: A alone is drawn
undone_draws : drawing_of undone.words undone.keys ≡ one A 7
unfolding opened
undone_draws =
    (demands.restored spare spare_sound (tag_bytes spare.keys refl) B 8 (tag_bytes B refl) (ap (lookup B) spare_holds) (replicate 3 1) (replicate 3 1) refl refl).1
    ∙ drawing_held spare_sound
    ∙ ap (λ (l : Listing Held). draw (totals l)) spare_holds

-- ── what a sound block holds is fixed ──
-- whatever shows the block of A and B sound, its tree is the one with these two
two_fixed : (s : Sound two_words two_keys) → s.tree ≡ some pair
two_fixed s = one_tree s two_sound ∙ two_tree
