-- Delete on sound blocks: each way for the record above the leaf, which undoes the insert of the same tag, and a tag that is not held.
use Prim.Native.Nat.{ℕ, zero, suc, ◌<◌}
use mathlib.Core.Path.{◌≡◌, refl, ap, ap₂, subst, ◌∙◌}
use mathlib.Core.Logic.{◌≢◌}
use mathlib.Core.List.{[], ◌∷◌}
use mathlib.Core.Option.{Option, none}
use mathlib.Core.Bool.{true}
use native.Mathlib.Omega.{arith}
use Rattle.std.specs.Prelude.{None, Ok, Err}
use Rattle.refusals.specs.declared.Refusal.TheVariants.{Damaged, Missing}
use lib.ListN.{replicate}
use Rattle.records.specs.View.{Held}
use Rattle.art.specs.Tags.{Listing}
use Rattle.art.specs.Listings.{lookup}
use Rattle.art.specs.Puts.{leave}
use Rattle.art.specs.Deletes.{held}
use Rattle.art.specs.Trees.{Tree}
use Rattle.art.specs.Stores.{inner_place, store}
use Rattle.frames.specs.Frame.{frame}
use Rattle.frames.specs.Place.{in_pool}
use Rattle.whole.specs.Sound.{Sound}
use Rattle.whole.proofs.Samples.{two_words, two_keys, two_sound}
use Rattle.view.proofs.Apart.{number_few}
use Rattle.states.specs.Lowest.{Lowest}
use Rattle.pointed.proofs.Points.{tag_bytes}
use Rattle.delete.specs.Plan.{plan_of}
use Rattle.delete.specs.Apply.{TakeReady}
use Rattle.delete.specs.Delete.{out}
use Rattle.delete.specs.declared.plan.Cut.TheVariants.{Root, Stay, Shrink, Merge}
use Rattle.delete.proofs.Ready.{delete_ready}
use Rattle.delete.proofs.Calls.{plan_ready}
use Rattle.delete.proofs.Sounds.{delete_sound_lem, delete_without}
use Rattle.delete.specs.Meets.{Deletes}
use Rattle.delete.specs.Without.{Goes, stays, shrinks, crowded, Without, WithoutFrom}
use Rattle.delete.proofs.Answers.{never_broken, missing_held, held_missing, delete_meets}
use Rattle.instances.specs.Opened.{opened}
use Rattle.instances.specs.Blocks.{bare, spare, two, room, three, full, wide, cramped, cramped_less, long, parted, triple, quintuple, A, B, C, D, E, J1, J2, AX, entry, Holds, gap}
use Rattle.instances.proofs.Sounds.{spare_sound, three_sound, wide_sound, cramped_sound, parted_sound, spare_holds, two_holds, three_holds, wide_holds, parted_holds, three_tree, wide_tree, cramped_tree}

-- ── a held tag, for each way with the record above: what the writes need is there, and they leave a sound block without the tag ──
-- the last tag of all
root_ready : TakeReady (frame spare.words) spare.words Root 0 (gap 0 0)
unfolding opened
root_ready = delete_ready spare_sound A (tag_bytes A refl) Root 0 (gap 0 0) refl

root_out : Holds bare []
unfolding opened
root_out =
    let z = delete_sound_lem spare_sound A (tag_bytes A refl) Root 0 (gap 0 0) refl in
    (z.0, z.1 ∙ ap (leave A) spare_holds)

-- the record stays
stay_ready : TakeReady (frame three.words) three.words (Stay 1 67) 2 (gap 13 0)
unfolding opened
stay_ready = delete_ready three_sound C (tag_bytes C refl) (Stay 1 67) 2 (gap 13 0) refl

stay_out : Holds room (entry A 0 7 ∷ entry B 1 8 ∷ [])
unfolding opened
stay_out =
    let z = delete_sound_lem three_sound C (tag_bytes C refl) (Stay 1 67) 2 (gap 13 0) refl in
    (z.0, z.1 ∙ ap (leave C) three_holds)

-- the tree is the one before without the tag, and the record is above its mark
stay_tree : (s : Sound room.words room.keys) × Without (frame three.words) triple C s.tree
unfolding opened
stay_tree =
    let z = delete_without three_sound C (tag_bytes C refl) (Stay 1 67) 2 (gap 13 0) refl in
    (z.0, subst (λ (d : Option (Tree Held)). WithoutFrom (frame three.words) d C z.0.tree) three_tree z.1)

stay_place : stay_tree.1.home 1 0 2 ≡ (1, 0)
unfolding opened
stay_place = go (stay_tree.1.settles (omega arith))
  where
    go : {to : ℕ × ℕ} → Goes (frame three.words) (store triple []) 1 0 2 to → to ≡ (1, 0)
    go (stays e h) = e
    go (shrinks e h low) = absurd (omega arith)
    go (crowded e h used) = e

-- it moves into the smaller kind
shrink_ready : TakeReady (frame wide.words) wide.words (Shrink None 2 1 69) 4 (gap 29 0)
unfolding opened
shrink_ready = delete_ready wide_sound E (tag_bytes E refl) (Shrink None 2 1 69) 4 (gap 29 0) refl

shrink_out : Holds full (entry A 0 1 ∷ entry B 1 2 ∷ entry C 2 3 ∷ entry D 3 4 ∷ [])
unfolding opened
shrink_out =
    let z = delete_sound_lem wide_sound E (tag_bytes E refl) (Shrink None 2 1 69) 4 (gap 29 0) refl in
    (z.0, z.1 ∙ ap (leave E) wide_holds)

-- the record came to its mark, and takes the lowest free record of kind 1
shrink_tree : (s : Sound full.words full.keys) × Without (frame wide.words) quintuple E s.tree
unfolding opened
shrink_tree =
    let z = delete_without wide_sound E (tag_bytes E refl) (Shrink None 2 1 69) 4 (gap 29 0) refl in
    (z.0, subst (λ (d : Option (Tree Held)). WithoutFrom (frame wide.words) d E z.0.tree) wide_tree z.1)

shrink_place : shrink_tree.1.home 2 0 4 ≡ (1, 0)
unfolding opened
shrink_place = go (shrink_tree.1.settles (omega arith))
  where
    -- every record of kind 1 is free
    zeroth : (n : ℕ) → Lowest (frame wide.words) (store quintuple []) (inner_place 1) n → n ≡ 0
    zeroth zero low = refl
    zeroth (suc n) low = absurd (low.lower 0 (omega arith))

    first : (j n : ℕ) → j ≡ 1 → Lowest (frame wide.words) (store quintuple []) (inner_place j) n → ◌≡◌ {A = ℕ × ℕ} (j, n) (1, 0)
    first j n e low = ap₂ (λ (k m : ℕ). (k, m)) e (zeroth n (subst (λ (k : ℕ). Lowest (frame wide.words) (store quintuple []) (inner_place k) n) e low))

    go : {to : ℕ × ℕ} → Goes (frame wide.words) (store quintuple []) 2 0 4 to → to ≡ (1, 0)
    go (stays e h) = absurd (omega arith)
    go {to} (shrinks e h low) = first to.0 to.1 (omega arith) low
    go (crowded e h used) = absurd (used 0 refl)

-- or stays where it is, since there is none
crowded_tree : (s : Sound cramped_less.words cramped_less.keys) × Without (frame cramped.words) quintuple E s.tree
unfolding opened
crowded_tree =
    let z = delete_without cramped_sound E (tag_bytes E refl) (Stay 2 69) 4 (gap 29 0) refl in
    (z.0, subst (λ (d : Option (Tree Held)). WithoutFrom (frame cramped.words) d E z.0.tree) cramped_tree z.1)

crowded_place : crowded_tree.1.home 2 0 4 ≡ (2, 0)
unfolding opened
crowded_place = go (crowded_tree.1.settles (omega arith))
  where
    -- kind 1 has no record
    none_there : (j n : ℕ) → j ≡ 1 → Lowest (frame cramped.words) (store quintuple []) (inner_place j) n → ⊥
    none_there j n e low = let few : n < 0 = number_few (frame cramped.words) (inner_place 1 n) (subst (λ (k : ℕ). in_pool (frame cramped.words) (inner_place k n) ≡ true) e low.pool) in omega arith

    go : {to : ℕ × ℕ} → Goes (frame cramped.words) (store quintuple []) 2 0 4 to → to ≡ (2, 0)
    go (stays e h) = e
    go {to} (shrinks e h low) = absurd (none_there to.0 to.1 (omega arith) low)
    go (crowded e h used) = e

-- the one child left stands in its place
merge_ready : TakeReady (frame two.words) two.words (Merge None 1 5 65) 1 (gap 5 0)
unfolding opened
merge_ready = delete_ready two_sound B (tag_bytes B refl) (Merge None 1 5 65) 1 (gap 5 0) refl

merge_out : Holds spare (entry A 0 7 ∷ [])
unfolding opened
merge_out =
    let z = delete_sound_lem two_sound B (tag_bytes B refl) (Merge None 1 5 65) 1 (gap 5 0) refl in
    (z.0, z.1 ∙ ap (leave B) two_holds)

-- as every plan has what it needs
every_ready : TakeReady (frame two.words) two.words (Merge None 1 5 65) 1 (gap 5 0)
unfolding opened
every_ready = plan_ready (record { read = refl; fits = two_sound.fits }) two_sound B (tag_bytes B refl) {p = Ok (record { cut = Merge None 1 5 65; leaf = 1; gap = gap 5 0 })} refl

-- or it takes over the run of the record above, with the byte to it
join_ready : TakeReady (frame parted.words) parted.words (Merge None 9 1 66) 2 (gap 13 0)
unfolding opened
join_ready = delete_ready parted_sound AX (tag_bytes AX refl) (Merge None 9 1 66) 2 (gap 13 0) refl

join_out : Holds long (entry J1 0 1 ∷ entry J2 1 2 ∷ [])
unfolding opened
join_out =
    let z = delete_sound_lem parted_sound AX (tag_bytes AX refl) (Merge None 9 1 66) 2 (gap 13 0) refl in
    (z.0, z.1 ∙ ap (leave AX) parted_holds)

-- ── a tag that is not held ──
not_held : lookup C (held two_sound.tree) ≡ none
unfolding opened
not_held = missing_held two_sound C (tag_bytes C refl) refl

not_planned : plan_of (frame two_words) two_words two_keys C ≡ Err Missing
not_planned = held_missing two_sound C (tag_bytes C refl) not_held

not_broken : plan_of (frame two_words) two_words two_keys C ≢ Err Damaged
not_broken = never_broken two_sound C (tag_bytes C refl)

-- ── the whole call: B goes, with its total ──
B_gone : Deletes B (replicate 3 0) (entry A 0 7 ∷ entry B 1 8 ∷ []) (out (Ok 8) spare.words spare.keys (replicate 3 0))
unfolding opened
B_gone =
    subst (λ (l : Listing Held). Deletes B (replicate 3 0) l (out (Ok 8) spare.words spare.keys (replicate 3 0))) two_holds
    (delete_meets two_sound B (tag_bytes B refl) (replicate 3 1) (omega arith))
