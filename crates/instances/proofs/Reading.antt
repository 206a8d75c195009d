-- The reading theorems on the block of A and B: the searches find each, with its leaf and total, and nothing else.
use Prim.Native.Nat.{ℕ}
use mathlib.Core.Path.{◌≡◌, refl, ap}
use mathlib.Core.Logic.{inl, inr, ◌≢◌}
use mathlib.Core.List.{[], ◌∷◌}
use mathlib.Core.Option.{none, some}
use native.Mathlib.Omega.{arith}
use Rattle.std.specs.Prelude.{Ok, Err}
use Rattle.refusals.specs.declared.Refusal.TheVariants.{Damaged, Missing}
use lib.ListN.{replicate}
use Rattle.frames.specs.Form.{form_of, sizes_of}
use Rattle.frames.specs.Frame.{frame_with}
use Rattle.records.specs.View.{Held}
use Rattle.art.specs.Tags.{Tag, Begins}
use Rattle.art.specs.Members.{In}
use Rattle.view.proofs.Starts.{start_empty}
use Rattle.tree.specs.Walk.{search_of, prefix_search_of}
use Rattle.tree.specs.Edge.{maximum_of}
use Rattle.leaves.specs.Leaf.{next_leaf_of}
use Rattle.tree.specs.declared.lookup.Aim.TheVariants.{Begin}
use Rattle.reading.specs.Shown.{Shown}
use Rattle.reading.specs.Listing.{list_of}
use Rattle.reading.specs.Calls.{Reads}
use Rattle.reading.proofs.Answers.{never_damaged, not_damaged, search_found, search_held, search_missing, prefix_found, prefix_held, prefix_missing}
use Rattle.reading.proofs.Calls.{reads_shown, empty_shown}
use Rattle.whole.proofs.Samples.{two_words, two_keys}
use Rattle.pointed.proofs.Points.{tag_bytes}
use Rattle.instances.specs.Opened.{opened}
use Rattle.instances.specs.Blocks.{bare, caps, A, B, C, AB, holding, entry}
use Rattle.instances.proofs.Sounds.{two_shown}

abbrev as_entry : Tag → Held → Tag × Held
as_entry t h = (t, h)

same_tag : {a b : Tag × Held} → a ≡ b → a.0 ≡ b.0
same_tag e = ap (λ (y : Tag × Held). y.0) e

-- ── the calls, each by the list ──
reads : Reads two_words two_keys (entry A 0 7 ∷ entry B 1 8 ∷ [])
reads = reads_shown two_shown

last : maximum_of two_words two_keys ≡ Ok (record { number = 1; total = 8 })
last = reads.maximum

after_A : next_leaf_of two_words two_keys 0 ≡ Ok (record { number = 1; total = 8 })
after_A = reads.next_leaf [] (entry A 0 7) (entry B 1 8 ∷ []) refl

listed : list_of two_words two_keys 2 ≡ entry A 0 7 ∷ entry B 1 8 ∷ []
listed = reads.walk 2 (omega arith)

-- ── search: A is held in leaf 0 with 7, C is not held ──
found_A : In (entry A 0 7) (entry A 0 7 ∷ entry B 1 8 ∷ [])
unfolding opened
found_A = search_found two_shown A (tag_bytes A refl) 0 7 refl

held_B : search_of two_words two_keys B ≡ Ok (record { number = 1; total = 8 })
held_B = search_held two_shown B (tag_bytes B refl) (holding 1 8) (inr (inl refl))

missing_C : search_of two_words two_keys C ≡ Err Missing
missing_C = search_missing two_shown C (tag_bytes C refl) out
  where
    out : (h : Held) → ¬ In (as_entry C h) (entry A 0 7 ∷ entry B 1 8 ∷ [])
    out h (inl e) = let i = same_tag e in let z : ◌≡◌ {A = ℕ} 67 65 = cc in omega arith
    out h (inr (inr x'')) = elim x'' [ ]
    out h (inr (inl e)) = let i = same_tag e in let z : ◌≡◌ {A = ℕ} 67 66 = cc in omega arith

-- ── prefix search: A begins AB ──
found_AB : (t : Tag) × Begins t AB × In (entry t 0 7) (entry A 0 7 ∷ entry B 1 8 ∷ [])
unfolding opened
found_AB = prefix_found two_shown AB (tag_bytes AB refl) 0 7 refl

begun_AB : prefix_search_of two_words two_keys AB ≡ Ok (record { number = 0; total = 7 })
begun_AB = prefix_held two_shown AB (tag_bytes AB refl) A (holding 0 7) (B, refl) (inl refl)

begun_C : prefix_search_of two_words two_keys C ≡ Err Missing
begun_C = prefix_missing two_shown C (tag_bytes C refl) out
  where
    out : (t : Tag) (h : Held) → In (as_entry t h) (entry A 0 7 ∷ entry B 1 8 ∷ []) → ¬ Begins t C
    out t h (inl e) b = let i = b.1 in let j = same_tag e in let z : ◌≡◌ {A = ℕ} 67 65 = cc in omega arith
    out t h (inr (inr x3)) b = elim x3 [ ]
    out t h (inr (inl e)) b = let i = b.1 in let j = same_tag e in let z : ◌≡◌ {A = ℕ} 67 66 = cc in omega arith

-- ── never damaged ──
AB_sound : prefix_search_of two_words two_keys AB ≢ Err Damaged
AB_sound = not_damaged two_shown AB (tag_bytes AB refl) Begin

last_sound : maximum_of two_words two_keys ≢ Err Damaged
last_sound = never_damaged (some (holding 1 8)) last

-- ── what start makes holds nothing ──
bare_shown : Shown (frame_with (form_of 1) (sizes_of (form_of 1)) (caps 2)) bare.words bare.keys none
unfolding opened
bare_shown = empty_shown (start_empty (replicate 47 3) (replicate 128 9) 1 (caps 2) refl)
