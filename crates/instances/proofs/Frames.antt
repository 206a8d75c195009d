-- Kinds, places and rows, on the block of A and B with room and on its record of kind 1.
use Prim.Native.Nat.{ℕ, ◌≤◌, ◌+◌}
use mathlib.Core.Path.{◌≡◌, refl}
use mathlib.Core.List.{List, [], ◌∷◌, ◌++◌}
use native.Mathlib.Omega.{arith}
use lib.ListN.{replicate}
use Rattle.frames.specs.Form.{form_of}
use Rattle.frames.specs.Place.{place_at, ref_of}
use Rattle.frames.specs.declared.frame.Frame.{Frame}
use Rattle.frames.specs.Kind.{children_of, kind_for, KindRules}
use Rattle.frames.proofs.KindTable.{kind_rules}
use Rattle.frames.proofs.KindFor.{for_least, for_holds}
use Rattle.frames.proofs.Places.{place_room, leaf_room, ref_place, place_ref}
use Rattle.records.specs.Own.{child_at, InnerFits}
use Rattle.records.specs.Row.{RowRule}
use Rattle.records.proofs.RowRules.{row_rule}
use Rattle.art.specs.Stores.{leaf_place}
use Rattle.frames.specs.Frame.{frame}
use Rattle.instances.specs.Opened.{opened}
use Rattle.instances.specs.Blocks.{room}
use Rattle.instances.proofs.Sounds.{room_framed}

-- ── a kind's rules ──
kind_two : KindRules 2
kind_two = kind_rules 2 (omega arith) (omega arith)

-- 17 children want kind 3: kind 2 does not hold them, kind 3 does, and so does kind 4
seventeen : (kind_for 17 ≤ 3) × (17 ≤ children_of 3) × (17 ≤ children_of 4)
unfolding opened
seventeen = (for_least 17 3 (omega arith) (omega arith) (omega arith), for_holds 17 3 (omega arith) (omega arith), for_holds 17 4 (omega arith) (omega arith))

-- one more than a kind holds is not for it
kinds_for : kind_for 2 ∷ kind_for 4 ∷ kind_for 5 ∷ kind_for 16 ∷ kind_for 17 ∷ kind_for 48 ∷ kind_for 49 ∷ kind_for 256 ∷ kind_for 257 ∷ [] ≡ 1 ∷ 1 ∷ 2 ∷ 2 ∷ 3 ∷ 3 ∷ 4 ∷ 4 ∷ 5 ∷ []
unfolding opened
kinds_for = refl

-- ── places ──
abbrev f : Frame
f = frame room.words

-- the last leaf ends at the trailer, and its tag with the key bytes
last_room : 74 + 6 + 16 ≤ 96
unfolding opened
last_room = place_room room_framed (leaf_place 2) refl

last_key : 128 + 64 ≤ 192
unfolding opened
last_key = leaf_room room_framed 2 refl

-- 10 is number 1 of kind 2, and back
ten : ref_of (place_at 10) ≡ 10
ten = ref_place 10

leaf_two : place_at (ref_of (leaf_place 2)) ≡ leaf_place 2
unfolding opened
leaf_two = place_ref f (leaf_place 2) refl

-- ── the row of a record that obeys its rule ──
abbrev rec : List ℕ
rec = (1 ∷ 2 ∷ 0 ∷ replicate 8 0) ++ (65 ∷ 66 ∷ 0 ∷ 0 ∷ 5 ∷ 13 ∷ 0 ∷ 0 ∷ [])

rec_fits : InnerFits (form_of 1) 1 rec
unfolding opened
rec_fits = record { low = omega arith; high = omega arith; long = refl; ok = refl }

rec_row : RowRule ((65, 5) ∷ (66, 13) ∷ []) (child_at (form_of 1) 1 rec) 2
unfolding opened
rec_row = row_rule rec_fits
