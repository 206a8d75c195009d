-- The records and slots that a call takes, on blocks that are written out: what each theorem asks is computed, and what it says of the block can be read off.
use Prim.Native.Nat.{ℕ}
use mathlib.Core.Path.{◌≡◌, refl, ap, subst}
use mathlib.Core.Option.{Option}
use native.Mathlib.Omega.{arith}
use lib.ListN.{get_or, replicate}
use Rattle.frames.specs.Frame.{frame}
use Rattle.records.specs.View.{Held}
use Rattle.art.specs.Listings.{lookup}
use Rattle.art.specs.Trees.{Tree}
use Rattle.whole.specs.Sound.{Sound}
use Rattle.whole.proofs.Sounds.{whole_sound}
use Rattle.whole.proofs.Samples.{two_words, two_keys, two_sound}
use Rattle.writes.specs.Leaf.{total_at}
use Rattle.pointed.proofs.Points.{tag_bytes}
use Rattle.insert.specs.Grown.{Grown, GrownFrom, AlteredFrom}
use Rattle.delete.specs.Without.{Without, WithoutFrom}
use Rattle.slots.specs.Slots.{slotted_at, LowestSlot, SlotsIn, SlotsOut, StaysIn, StaysOut}
use Rattle.demands.proofs.Takes.{insert_takes, insert_alters, delete_takes}
use Rattle.slots.proofs.Calls.{insert_slots, delete_slots, insert_in_place, delete_in_place}
use Rattle.instances.specs.Opened.{opened}
use Rattle.instances.specs.Blocks.{two, room, three, A, B, C, holding, pair, triple}
use Rattle.instances.specs.Slots.{alone, branched, gapped, mended, packed, unpacked}
use Rattle.instances.proofs.Sounds.{room_sound, three_sound, two_holds, room_holds, room_tree, three_tree}

-- ── records ──
-- C in: a leaf is taken, and the record has room
put_takes : (n : ℕ) × (s : Sound three.words three.keys) × Grown (frame room.words) pair C (holding n 9) s.tree
unfolding opened
put_takes =
    let z = insert_takes room room_sound (tag_bytes room.keys refl) C 9 (tag_bytes C refl) (ap (lookup C) room_holds) (replicate 5 1) refl in
    (z.0, z.1, subst (λ (d : Option (Tree Held)). GrownFrom (frame room.words) d C (holding z.0 9) z.1.tree) room_tree z.2)

-- A again: its total alone is another
put_alters : (s : Sound (total_at (frame two_words) 0 9 two_words) two_keys) × AlteredFrom two_sound.tree A 9 s.tree
unfolding opened
put_alters = insert_alters two two_sound (tag_bytes two_keys refl) A 9 (tag_bytes A refl) (holding 0 7) (ap (lookup A) two_holds) (replicate 3 1) refl

-- C out: the record goes as it should
out_takes : (s : Sound room.words room.keys) × Without (frame three.words) triple C s.tree
unfolding opened
out_takes =
    let z = delete_takes three three_sound C (tag_bytes C refl) (replicate 5 1) refl in
    (z.0, subst (λ (d : Option (Tree Held)). WithoutFrom (frame three.words) d C z.0.tree) three_tree z.1)

-- ── slots ──
alone_sound : Sound alone.words alone.keys
unfolding opened
alone_sound = whole_sound alone.words alone.keys refl

gapped_sound : Sound gapped.words gapped.keys
unfolding opened
gapped_sound = whole_sound gapped.words gapped.keys refl

mended_sound : Sound mended.words mended.keys
unfolding opened
mended_sound = whole_sound mended.words mended.keys refl

packed_sound : Sound packed.words packed.keys
unfolding opened
packed_sound = whole_sound packed.words packed.keys refl

-- B in beside A: a branching in the free record
branch_slots : SlotsIn (frame alone.words) alone.words branched.words 0
unfolding opened
branch_slots = insert_slots alone alone_sound (tag_bytes alone.keys refl) B 8 (tag_bytes B refl) (replicate 4 1) 0 refl

-- C in where the record of kind 1 is full: it moves to kind 3
move_slots : SlotsIn (frame packed.words) packed.words unpacked.words 0
unfolding opened
move_slots = insert_slots packed packed_sound (tag_bytes packed.keys refl) C 3 (tag_bytes C refl) (replicate 7 1) 0 refl

-- B in where slots 1 and 3 are used
fill_stays : StaysIn (slotted_at (frame gapped.words) gapped.words 0).slots (slotted_at (frame gapped.words) mended.words 0).slots
unfolding opened
fill_stays = insert_in_place gapped gapped_sound (tag_bytes gapped.keys refl) B 8 (tag_bytes B refl) (replicate 4 1) 0 refl (λ e. omega arith) (λ e. omega arith)

-- so it takes slot 2, and C keeps slot 3
fill_takes : LowestSlot (slotted_at (frame gapped.words) gapped.words 0).slots 2
unfolding opened
fill_takes = fill_stays.takes 66 refl (λ e. omega arith)

fill_keeps : get_or (slotted_at (frame gapped.words) mended.words 0).slots 67 0 ≡ 3
unfolding opened
fill_keeps = fill_stays.keeps 67 (λ e. omega arith)

-- B out again
empty_slots : SlotsOut (slotted_at (frame mended.words) mended.words 0) (slotted_at (frame mended.words) gapped.words 0)
unfolding opened
empty_slots = delete_slots mended mended_sound B (tag_bytes B refl) (replicate 4 1) 0 refl

empty_stays : StaysOut (slotted_at (frame mended.words) mended.words 0).slots (slotted_at (frame mended.words) gapped.words 0).slots
unfolding opened
empty_stays = delete_in_place mended mended_sound B (tag_bytes B refl) (replicate 4 1) 0 refl (λ e. omega arith) (λ e. omega arith)

empty_keeps : get_or (slotted_at (frame mended.words) gapped.words 0).slots 67 0 ≡ 3
unfolding opened
empty_keeps = empty_stays 67 (λ e. omega arith)
