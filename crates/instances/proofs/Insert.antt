-- Insert on sound blocks: a tag at each kind of site, one that is held, and each refusal, with the block that is left.
use Prim.Native.Nat.{ℕ, zero, suc}
use mathlib.Core.Path.{◌≡◌, refl, ap, subst, ◌∙◌}
use mathlib.Core.Logic.{inl, inr}
use mathlib.Core.List.{List, [], ◌∷◌}
use mathlib.Core.Option.{Option, some}
use mathlib.Core.Bool.{true}
use native.Mathlib.Omega.{arith}
use Rattle.std.specs.Prelude.{None, Ok, Err}
use Rattle.refusals.specs.declared.Refusal.TheVariants.{Clash, NoLeaf, NoRecord}
use Rattle.insert.specs.declared.plan.Plan.TheVariants.{New, Over}
use Rattle.insert.specs.Plan.{Planned, plan_of}
use lib.ListN.{replicate}
use Rattle.art.specs.Tags.{Tag}
use Rattle.art.specs.Puts.{put, alter}
use Rattle.art.specs.Verdicts.{Verdict, known, clash, free, judge}
use Rattle.art.specs.Trees.{Tree, leaf}
use Rattle.art.specs.Stores.{leaf_place, inner_place, home_place, empty, store}
use Rattle.art.specs.Points.{store_of, fork_place}
use Rattle.art.proofs.Stores.{used_not}
use Rattle.records.specs.View.{Held}
use Rattle.art.specs.Deletes.{held}
use Rattle.reading.specs.Answers.{Bytes}
use Rattle.frames.specs.Frame.{frame}
use Rattle.frames.specs.Place.{in_pool}
use Rattle.whole.specs.Sound.{Sound}
use Rattle.whole.proofs.Samples.{two_words, two_keys, two_sound}
use Rattle.writes.specs.Leaf.{total_at}
use Rattle.writes.specs.declared.leaf_node.Gap.{Gap}
use Rattle.states.specs.Lowest.{Lowest}
use Rattle.pointed.proofs.Points.{tag_bytes}
use Rattle.insert.specs.Apply.{NewReady}
use Rattle.insert.specs.declared.plan.Site.{Site}
use Rattle.insert.specs.declared.plan.Site.TheVariants.{Root, Add, Grow, Fork}
use Rattle.insert.specs.Insert.{out}
use Rattle.insert.specs.Room.{LeavesFull, Lacking, Answers}
use Rattle.insert.specs.Meets.{new_total, Inserts}
use Rattle.insert.specs.Grown.{NextFree, Grown, GrownFrom, AlteredFrom}
use Rattle.insert.proofs.Ready.{insert_ready}
use Rattle.insert.proofs.Calls.{plan_ready}
use Rattle.insert.proofs.Sounds.{insert_sound_lem, insert_grown}
use Rattle.insert.proofs.Overs.{over_sound, over_altered}
use Rattle.insert.proofs.Refusals.{plan_answers, only_over, only_clash, only_full, only_lacking, only_new}
use Rattle.insert.proofs.Inserts.{insert_meets}
use Rattle.demands.proofs.Leaves.{full_count, count_full}
use Rattle.instances.specs.Opened.{opened}
use Rattle.instances.specs.Blocks.{bare, spare, two, lone, room, three, full, wide, long, parted, A, B, C, D, E, AB, J1, J2, AX, holding, entry, pair, quadruple, long_tags, Holds, gap}
use Rattle.instances.proofs.Sounds.{bare_sound, spare_sound, lone_sound, room_sound, full_sound, long_sound, bare_holds, spare_holds, two_holds, lone_holds, room_holds, full_holds, long_holds, bare_tree, room_tree, full_tree, long_tree}
use Rattle.instances.proofs.Conditions.{two_full, lone_not_full, lone_lacks, room_not_full, room_not_lacks}

-- ── a new tag at each kind of site: what its writes need is there, and they leave a sound block that holds it too ──
-- the first tag of all
root_ready : NewReady (frame bare.words) bare.words bare.keys A Root 0 (gap 0 0)
unfolding opened
root_ready = insert_ready bare_sound (tag_bytes A refl) (tag_bytes bare.keys refl) (omega arith) Root 0 (gap 0 0) refl

root_put : Holds spare (entry A 0 7 ∷ [])
unfolding opened
root_put =
    let z = insert_sound_lem bare_sound A (tag_bytes A refl) (tag_bytes bare.keys refl) (omega arith) Root 0 (gap 0 0) 7 refl in
    (z.0, z.1 ∙ ap (put A (holding 0 7)) bare_holds)

-- its leaf is the lowest
root_tree : (s : Sound spare.words spare.keys) × (Lowest (frame bare.words) empty leaf_place 0 × (s.tree ≡ some (leaf 0 A (holding 0 7))))
unfolding opened
root_tree =
    let z = insert_grown bare_sound A (tag_bytes A refl) (tag_bytes bare.keys refl) (omega arith) Root 0 (gap 0 0) 7 refl in
    (z.0, subst (λ (d : Option (Tree Held)). GrownFrom (frame bare.words) d A (holding 0 7) z.0.tree) bare_tree z.1)

-- a missing child in a record with room
add_ready : NewReady (frame room.words) room.words room.keys C (Add 1 67) 2 (gap 13 0)
unfolding opened
add_ready = insert_ready room_sound (tag_bytes C refl) (tag_bytes room.keys refl) (omega arith) (Add 1 67) 2 (gap 13 0) refl

add_put : Holds three (entry A 0 7 ∷ entry B 1 8 ∷ entry C 2 9 ∷ [])
unfolding opened
add_put =
    let z = insert_sound_lem room_sound C (tag_bytes C refl) (tag_bytes room.keys refl) (omega arith) (Add 1 67) 2 (gap 13 0) 9 refl in
    (z.0, z.1 ∙ ap (put C (holding 2 9)) room_holds)

-- the tree is the one before, grown: the record had room, and stays
add_tree : (s : Sound three.words three.keys) × Grown (frame room.words) pair C (holding 2 9) s.tree
unfolding opened
add_tree =
    let z = insert_grown room_sound C (tag_bytes C refl) (tag_bytes room.keys refl) (omega arith) (Add 1 67) 2 (gap 13 0) 9 refl in
    (z.0, subst (λ (d : Option (Tree Held)). GrownFrom (frame room.words) d C (holding 2 9) z.0.tree) room_tree z.1)

add_place : home_place add_tree.1.plan 1 0 ≡ inner_place 1 0
unfolding opened
add_place = elim add_tree.1.chosen [ inl h ↦ h.1 | inr h ↦ absurd (omega (arith, h.0)) ]

-- a full record moves into the next kind
grow_ready : NewReady (frame full.words) full.words full.keys E (Grow None 1 2 69) 4 (gap 29 0)
unfolding opened
grow_ready = insert_ready full_sound (tag_bytes E refl) (tag_bytes full.keys refl) (omega arith) (Grow None 1 2 69) 4 (gap 29 0) refl

grow_put : Holds wide (entry A 0 1 ∷ entry B 1 2 ∷ entry C 2 3 ∷ entry D 3 4 ∷ entry E 4 5 ∷ [])
unfolding opened
grow_put =
    let z = insert_sound_lem full_sound E (tag_bytes E refl) (tag_bytes full.keys refl) (omega arith) (Grow None 1 2 69) 4 (gap 29 0) 5 refl in
    (z.0, z.1 ∙ ap (put E (holding 4 5)) full_holds)

-- the record was full, and takes the lowest free one of kind 2, the smallest larger one
grow_tree : (s : Sound wide.words wide.keys) × Grown (frame full.words) quadruple E (holding 4 5) s.tree
unfolding opened
grow_tree =
    let z = insert_grown full_sound E (tag_bytes E refl) (tag_bytes full.keys refl) (omega arith) (Grow None 1 2 69) 4 (gap 29 0) 5 refl in
    (z.0, subst (λ (d : Option (Tree Held)). GrownFrom (frame full.words) d E (holding 4 5) z.0.tree) full_tree z.1)

grow_place : home_place grow_tree.1.plan 1 0 ≡ inner_place 2 0
unfolding opened
grow_place = elim grow_tree.1.chosen [ inl h ↦ absurd (omega (arith, h.0)) | inr h ↦ place _ _ h.1 ]
  where
    number : (n : ℕ) → Lowest (frame full.words) (store quadruple []) (inner_place 2) n → n ≡ 0
    number zero low = refl
    number (suc n) low = absurd (low.lower 0 (omega arith))

    place : (k n : ℕ) → NextFree (frame full.words) (store quadruple []) 2 k n → inner_place k n ≡ inner_place 2 0
    place zero n h = absurd (omega (arith, h.0.0))
    place (suc zero) n h = absurd (omega (arith, h.0.0))
    place (suc (suc zero)) n h = ap (inner_place 2) (number n h.1)
    place (suc (suc (suc k))) n h = absurd (h.0.1 2 0 (omega arith) (omega arith) refl)

-- a branching against a leaf
fork_ready : NewReady (frame spare.words) spare.words spare.keys B (Fork None 5 1 5 0 0) 1 (gap 5 0)
unfolding opened
fork_ready = insert_ready spare_sound (tag_bytes B refl) (tag_bytes spare.keys refl) (omega arith) (Fork None 5 1 5 0 0) 1 (gap 5 0) refl

fork_put : Holds two (entry A 0 7 ∷ entry B 1 8 ∷ [])
unfolding opened
fork_put =
    let z = insert_sound_lem spare_sound B (tag_bytes B refl) (tag_bytes spare.keys refl) (omega arith) (Fork None 5 1 5 0 0) 1 (gap 5 0) 8 refl in
    (z.0, z.1 ∙ ap (put B (holding 1 8)) spare_holds)

-- one inside a prefix of over eight bytes, whose rest is filled again from a leaf
part_ready : NewReady (frame long.words) long.words long.keys AX (Fork None 1 9 5 0 1) 2 (gap 13 0)
unfolding opened
part_ready = insert_ready long_sound (tag_bytes AX refl) (tag_bytes long.keys refl) (omega arith) (Fork None 1 9 5 0 1) 2 (gap 13 0) refl

part_put : Holds parted (entry J1 0 1 ∷ entry J2 1 2 ∷ entry AX 2 3 ∷ [])
unfolding opened
part_put =
    let z = insert_sound_lem long_sound AX (tag_bytes AX refl) (tag_bytes long.keys refl) (omega arith) (Fork None 1 9 5 0 1) 2 (gap 13 0) 3 refl in
    (z.0, z.1 ∙ ap (put AX (holding 2 3)) long_holds)

-- the branching takes record 1 of kind 1, since record 0 is in use
part_tree : (s : Sound parted.words parted.keys) × Grown (frame long.words) long_tags AX (holding 2 3) s.tree
unfolding opened
part_tree =
    let z = insert_grown long_sound AX (tag_bytes AX refl) (tag_bytes long.keys refl) (omega arith) (Fork None 1 9 5 0 1) 2 (gap 13 0) 3 refl in
    (z.0, subst (λ (d : Option (Tree Held)). GrownFrom (frame long.words) d AX (holding 2 3) z.0.tree) long_tree z.1)

part_place : fork_place part_tree.1.plan ≡ inner_place 1 1
unfolding opened
part_place = place _ _ part_tree.1.chosen
  where
    number : (n : ℕ) → Lowest (frame long.words) (store long_tags []) (inner_place 1) n → n ≡ 1
    number zero low = absurd (used_not (store long_tags [] (inner_place 1 0)) tt low.free)
    number (suc zero) low = refl
    number (suc (suc n)) low = absurd (low.lower 1 (omega arith))

    place : (k n : ℕ) → NextFree (frame long.words) (store long_tags []) 1 k n → inner_place k n ≡ inner_place 1 1
    place zero n h = absurd (omega (arith, h.0.0))
    place (suc zero) n h = ap (inner_place 1) (number n h.1)
    place (suc (suc k)) n h = absurd (h.0.1 1 1 (omega arith) (omega arith) refl)

-- ── a held tag: its leaf is in the pool, as every plan has what it needs, and its total alone changes ──
over_ready : in_pool (frame two_words) (leaf_place 0) ≡ true
unfolding opened
over_ready = plan_ready (record { read = refl; fits = two_sound.fits }) two_sound A (tag_bytes A refl) (tag_bytes two_keys refl) refl {p = Ok (Over 5)} refl

over_put : (s : Sound (total_at (frame two_words) 0 5 two_words) two_keys) × (held s.tree ≡ entry A 0 5 ∷ entry B 1 8 ∷ [])
unfolding opened
over_put =
    let z = over_sound two_sound A (tag_bytes A refl) 5 refl 5 in
    (z.0, z.1 ∙ ap (alter (λ h. some (new_total 5 h)) A) two_holds)

over_tree : (s : Sound (total_at (frame two_words) 0 5 two_words) two_keys) × AlteredFrom two_sound.tree A 5 s.tree
unfolding opened
over_tree = over_altered two_sound A (tag_bytes A refl) 5 refl 5

-- ── which plan is due, by the verdict and the room ──
-- on a sound block, with any tag
module _ {words keys : List ℕ} (s : Sound words keys) (tag : Tag) (bytes : Bytes tag) where
  abbrev verdict : Verdict
  verdict = judge tag (held s.tree)

  abbrev leaves_full : Type 0
  leaves_full = LeavesFull (frame words) (store_of s.tree)

  abbrev lacking : Type 0
  lacking = Lacking (frame words) s.tree tag

  abbrev plan : Planned
  plan = plan_of (frame words) words keys tag

  answers : Answers verdict leaves_full lacking plan
  answers = plan_answers s tag bytes

  over_due : verdict ≡ known → (leaf : ℕ) × (plan ≡ Ok (Over leaf))
  over_due = only_over verdict leaves_full lacking plan answers

  clash_due : verdict ≡ clash → plan ≡ Err Clash
  clash_due = only_clash verdict leaves_full lacking plan answers

  full_due : verdict ≡ free → leaves_full → plan ≡ Err NoLeaf
  full_due = only_full verdict leaves_full lacking plan answers

  lacking_due : verdict ≡ free → ¬ leaves_full → lacking → plan ≡ Err NoRecord
  lacking_due = only_lacking verdict leaves_full lacking plan answers

  new_due : verdict ≡ free → ¬ leaves_full → ¬ lacking → (site : Site) × (n : ℕ) × (g : Gap) × (plan ≡ Ok (New site n g))
  new_due = only_new verdict leaves_full lacking plan answers

-- A is held, in the leaf that 5 refers to
two_over : (leaf : ℕ) × (plan_of (frame two_words) two_words two_keys A ≡ Ok (Over leaf))
unfolding opened
two_over = over_due two_sound A (tag_bytes A refl) (ap (judge A) two_holds)

-- A begins AB
two_clash : plan_of (frame two_words) two_words two_keys AB ≡ Err Clash
unfolding opened
two_clash = clash_due two_sound AB (tag_bytes AB refl) (ap (judge AB) two_holds)

-- C is free, and no leaf is
two_no_leaf : plan_of (frame two_words) two_words two_keys C ≡ Err NoLeaf
unfolding opened
two_no_leaf = full_due two_sound C (tag_bytes C refl) (ap (judge C) two_holds) (count_full two_sound two_full)

-- B needs a branching, and there is no record
lone_no_record : plan_of (frame lone.words) lone.words lone.keys B ≡ Err NoRecord
unfolding opened
lone_no_record = lacking_due lone_sound B (tag_bytes B refl) (ap (judge B) lone_holds) (λ full. lone_not_full (full_count lone_sound full)) lone_lacks

-- C has a leaf, and a record with room
room_new : (site : Site) × (n : ℕ) × (g : Gap) × (plan_of (frame room.words) room.words room.keys C ≡ Ok (New site n g))
unfolding opened
room_new = new_due room_sound C (tag_bytes C refl) (ap (judge C) room_holds) (λ full. room_not_full (full_count room_sound full)) room_not_lacks

-- ── the whole call ──
room_meets : Inserts room_sound C 9 (out (Ok None) three.words three.keys (replicate 5 0))
unfolding opened
room_meets = insert_meets room_sound (replicate 5 1) C 9 (tag_bytes C refl) (tag_bytes room.keys refl) (omega arith) refl

two_meets : Inserts two_sound AB 9 (out (Err Clash) two_words two_keys (replicate 3 0))
unfolding opened
two_meets = insert_meets two_sound (replicate 3 1) AB 9 (tag_bytes AB refl) (tag_bytes two_keys refl) (omega arith) refl
