-- The slots that the children of a record of kind 3 have, before and after a change. The tree and the drawing do not say them.
use Rattle.std.specs.Prelude.{ℕ, ◌+◌, ◌≤◌, ◌<◌, ◌≡◌, ◌≢◌, List, true, length, get_or, set, replicate}
use Rattle.frames.specs.Kind.{byte_values}
use Rattle.frames.specs.Place.{in_pool, record_at}
use Rattle.frames.specs.declared.frame.Frame.{Frame}
use Rattle.records.specs.Words.{used_as}
use Rattle.records.specs.Own.{slot_numbers, body_part}
use Rattle.records.specs.Row.{row_at, Climbs}
use Rattle.art.specs.Stores.{inner_place}
use Rattle.edits.specs.Body.{tab, slot_for}
use Rattle.edits.specs.Rows.{Row}

-- of a record of kind 3: its word 0, which is 0 where it is free, and the slot number of each byte, 0 for a byte that has no child
pub record Slotted : Type 0 where
  pub used : ℕ
  pub slots : List ℕ

-- these two
abbrev pub slotted : ℕ → List ℕ → Slotted
slotted used slots = record { used = used; slots = slots }

-- those of record n
abbrev pub slotted_at : Frame → List ℕ → ℕ → Slotted
slotted_at f words n = let rec = record_at f words (inner_place 3 n) in slotted (used_as rec) (slot_numbers (body_part f.form 3 rec))

-- slots are numbered from 1 on, and k is the lowest that no byte has
pub record LowestSlot (slots : List ℕ) (k : ℕ) : Type 0 where
  pub some : 1 ≤ k
  pub free : (b : ℕ) → get_or slots b 0 ≢ k
  pub lower : (j : ℕ) → 1 ≤ j → j < k → (b : ℕ) × (get_or slots b 0 ≡ j)

-- the bytes of a row have slots 1, 2, .. in byte order, and the others none
abbrev pub in_order : Row → List ℕ
in_order row = tab byte_values 0 (λ b. slot_for b row)

-- what an insert makes of record n of kind 3
pub data SlotsIn (f : Frame) (words words' : List ℕ) (n : ℕ) : Type 0 where
  -- it has no new child: every byte keeps its slot
  in_kept : slotted_at f words' n ≡ slotted_at f words n → SlotsIn f words words' n
  -- a child more where it stands: the byte had no slot and takes the lowest that is unused, every other byte keeps its own
  in_added : (b k : ℕ) → b < byte_values → (slotted_at f words n).used ≡ 3 → get_or (slotted_at f words n).slots b 0 ≡ 0 → LowestSlot (slotted_at f words n).slots k
      → slotted_at f words' n ≡ slotted 3 (set (slotted_at f words n).slots b k) → SlotsIn f words words' n
  -- it was free, and record m of kind k moved into it, which is free now: the children of that one have slots 1, 2, .. in byte order, and the new child has the next
  in_moved : (k m b : ℕ) (row : Row) → (slotted_at f words n).used ≡ 0
      → in_pool f (inner_place k m) ≡ true → used_as (record_at f words (inner_place k m)) ≡ k → used_as (record_at f words' (inner_place k m)) ≡ 0 → row ≡ row_at f.form k (record_at f words (inner_place k m))
      → b < byte_values → slot_for b row ≡ 0 → slotted_at f words' n ≡ slotted 3 (set (in_order row) b (length row + 1)) → SlotsIn f words words' n
  -- it was free, and is a new branching: its two children have slots 1 and 2 in byte order
  in_branched : (row : Row) → (slotted_at f words n).used ≡ 0 → length row ≡ 2 → Climbs 0 row → slotted_at f words' n ≡ slotted 3 (in_order row) → SlotsIn f words words' n
  -- it was full, and moved to a larger kind: it is free, and no byte has a slot
  in_freed : (slotted_at f words n).used ≡ 3 → slotted_at f words' n ≡ slotted 0 (replicate byte_values 0) → SlotsIn f words words' n

-- what a delete makes of it
pub data SlotsOut (before after : Slotted) : Type 0 where
  -- it loses no child: every byte keeps its slot
  out_kept : after ≡ before → SlotsOut before after
  -- a child less where it stands: the byte had a slot and has none, every other byte keeps its own
  out_removed : (b : ℕ) → b < byte_values → before.used ≡ 3 → get_or before.slots b 0 ≢ 0 → after ≡ slotted 3 (set before.slots b 0) → SlotsOut before after
  -- it was free, and a record moved into it without a child: the others have slots 1, 2, .. in byte order
  out_moved : (row : Row) → before.used ≡ 0 → Climbs 0 row → after ≡ slotted 3 (in_order row) → SlotsOut before after
  -- it moved to a smaller kind, or its last child took its place: it is free, and no byte has a slot
  out_freed : before.used ≡ 3 → after ≡ slotted 0 (replicate byte_values 0) → SlotsOut before after

-- in use before and after an insert: a byte that had a slot keeps it, and a byte that has one only now took the lowest that was unused
pub record StaysIn (before after : List ℕ) : Type 0 where
  pub keeps : (b : ℕ) → get_or before b 0 ≢ 0 → get_or after b 0 ≡ get_or before b 0
  pub takes : (b : ℕ) → get_or before b 0 ≡ 0 → get_or after b 0 ≢ 0 → LowestSlot before (get_or after b 0)

-- in use before and after a delete: a byte keeps its slot, or has none
abbrev pub StaysOut : (before after : List ℕ) → Type 0
StaysOut before after = (b : ℕ) → get_or after b 0 ≢ 0 → get_or after b 0 ≡ get_or before b 0
