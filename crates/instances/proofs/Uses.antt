-- What a user looks for, on blocks that are written out.
use Prim.Native.Nat.{ℕ}
use mathlib.Core.Path.{◌≡◌, refl, ap, ◌∙◌}
use mathlib.Core.Logic.{◌≢◌}
use mathlib.Core.List.{List, [], ◌∷◌}
use native.Mathlib.Omega.{arith}
use lib.ListN.{length, replicate}
use Rattle.records.specs.View.{Held}
use Rattle.art.specs.Tags.{Listing}
use Rattle.reading.specs.Answers.{Bytes}
use Rattle.reading.specs.Listing.{list_from}
use Rattle.range.specs.Range.{after_of}
use Rattle.whole.proofs.Samples.{two_words, two_keys}
use Rattle.pointed.proofs.Points.{tag_bytes}
use Rattle.demands.specs.Calls.{query, search, Edit, edit, insert, delete, run}
use Rattle.demands.specs.Histories.{Block}
use Rattle.demands.specs.Told.{only}
use Rattle.demands.specs.Drawn.{drawing_of}
use Rattle.demands.specs.Listed.{holds}
use Rattle.demands.specs.Ledger.{ledger}
use Rattle.demands.specs.Later.{later}
use Rattle.demands.specs.Programs.{seen, tells, next_by, Reached, fresh, changed}
use Rattle.demands.proofs.Lasts.{hit, insert_found, delete_unfound, others_kept}
use Rattle.demands.proofs.Corollaries.{any_order}
use Rattle.demands.proofs.Walks.{walk_after}
use Rattle.instances.specs.Opened.{opened}
use Rattle.instances.specs.Blocks.{two, room, caps, lend, A, B, C, AB, entry}
use Rattle.instances.proofs.Sounds.{two_holds, two_passed}

room_bytes : Bytes room.keys
room_bytes = tag_bytes room.keys refl

-- after an edit
abbrev after_edit : Edit → Block
after_edit e = next_by (seen run) room (edit e) (replicate 5 1)

-- C put in with 9 is found with 9
C_found : (leaf : ℕ) × (tells (seen run) (after_edit (insert C 9)) (query (search C)) [] ≡ hit leaf 9)
unfolding opened
C_found = insert_found room room_bytes C 9 (tag_bytes C refl) (replicate 5 1) [] refl

-- B taken out is not found
B_unfound : tells (seen run) (after_edit (delete B)) (query (search B)) [] ≡ only 1
unfolding opened
B_unfound = delete_unfound room room_bytes B (tag_bytes B refl) (replicate 5 1) [] refl

-- and A is answered as before: leaf 0, total 7
A_kept : tells (seen run) (after_edit (delete B)) (query (search A)) [] ≡ hit 0 7
unfolding opened
A_kept = others_kept room room_bytes (delete B) (replicate 5 1) (tag_bytes B refl) A (tag_bytes A refl) A≢B [] []
  where
    A≢B : A ≢ B
    A≢B e = let z : ◌≡◌ {A = ℕ} 65 66 = cc in omega arith

-- from the first at or after AB, next leaf lists B alone
AB_walked : list_from two_words two_keys 2 (after_of two_words two_keys (replicate 3 1) AB).result ≡ entry B 1 8 ∷ []
unfolding opened
AB_walked =
    let e : later AB (holds two_passed.sound) ≡ entry B 1 8 ∷ [] = ap (λ (l : Listing Held). later AB l) two_holds in
    walk_after (lend two 3) AB two_passed 2 (omega (arith, ap length e)) ∙ e

-- ── two histories ──
abbrev before : Block
before = record { words = replicate 47 3; keys = replicate 128 9 }

-- other memory, with a leaf more
abbrev wider : Block
wider = record { words = replicate 53 4; keys = replicate 192 9 }

abbrev r : List ℕ
r = replicate 5 1

a : Bytes A
a = tag_bytes A refl

b : Bytes B
b = tag_bytes B refl

c : Bytes C
c = tag_bytes C refl

-- A and B in a small block
there : (x : Block) × Reached (seen run) x (ledger ((A, 7) ∷ (B, 8) ∷ []) 2 0)
unfolding opened
there = (_, changed (changed (fresh before 1 (caps 2) [] refl) (insert A 7) a r refl) (insert B 8) b r refl)

-- in a larger one B, C, A, B again and C out
back : (y : Block) × Reached (seen run) y (ledger ((A, 7) ∷ (B, 8) ∷ []) 3 1)
unfolding opened
back = (_, changed (changed (changed (changed (changed (fresh wider 1 (caps 3) [] refl) (insert B 1) b r refl) (insert C 2) c r refl) (insert A 7) a r refl) (insert B 8) b r refl) (delete C) c r refl)

-- they draw the same
same_drawn : drawing_of there.0.words there.0.keys ≡ drawing_of back.0.words back.0.keys
same_drawn = any_order there.1 back.1 (λ t. refl)
