-- The view of a block: what stands at each place, as a cell of the mathematics' store. It is all that the tree knows of a record.
use Rattle.std.specs.Prelude.{ℕ, List, [], ◌∷◌, Bool, ◌&&◌, take, eqb}
use Rattle.lists.specs.Scan.{choose, all_pass, at_most}
use Rattle.prefix.specs.Run.{held}
use Rattle.records.specs.Words.{used_as, full_length, tag_length}
use Rattle.records.specs.Own.{prefix_at, inner_ok, leaf_ok, total_of}
use Rattle.frames.specs.Place.{place_at, in_pool, record_at, key_at}
use Rattle.records.specs.Row.{row_at}
use Rattle.frames.specs.declared.form.Form.{Form}
use Rattle.frames.specs.declared.frame.Frame.{Frame}
use Rattle.art.specs.Stores.{Place, leaf_place, inner_place, Cell, unused, leaf_cell, inner_cell}

-- what the tree holds of a leaf: its number and its total
pub record Held : Type 0 where
  pub number : ℕ
  pub total : ℕ

-- a row with places for references
abbrev pub places : List (ℕ × ℕ) → List (ℕ × Place)
places [] = []
places (e ∷ es) = (e.0, place_at e.1) ∷ places es

-- a leaf: its tag, and what is held; a record whose word 0 is 0 is unused
abbrev pub leaf_cell_of : ℕ → List ℕ → List ℕ → Cell Held
leaf_cell_of n rec key = choose (eqb (used_as rec) 0) unused (leaf_cell (take (tag_length rec) key) (record { number = n; total = total_of rec }))

-- an inner record: its length, its stored bytes and its row
abbrev pub inner_cell_of : Form → ℕ → List ℕ → Cell Held
inner_cell_of form kind rec =
    choose (eqb (used_as rec) 0) unused (inner_cell (full_length rec) (held (prefix_at form rec)) (places (row_at form kind rec)))

-- ── of a record's words and its key bytes, at a place ──
-- the key bytes of a place: only leaves have them
abbrev pub key_for : Frame → List ℕ → Place → List ℕ
key_for f keys (leaf_place n) = key_at f keys n
key_for f keys (inner_place k n) = []

-- the cell that they make
abbrev pub cell_in : Frame → Place → List ℕ → List ℕ → Cell Held
cell_in f (leaf_place n) rec key = leaf_cell_of n rec key
cell_in f (inner_place k n) rec key = inner_cell_of f.form k rec

-- they obey the record's own rule
abbrev pub rule_in : Frame → Place → List ℕ → List ℕ → Bool
rule_in f (leaf_place n) rec key = leaf_ok f.form.limit rec key
rule_in f (inner_place k n) rec key = inner_ok f.form k rec

-- they are all 0
abbrev pub blank_in : Place → List ℕ → List ℕ → Bool
blank_in (leaf_place n) rec key = all_pass (at_most 0) rec && all_pass (at_most 0) key
blank_in (inner_place k n) rec key = all_pass (at_most 0) rec

-- ── of the block's words and key bytes ──
-- the cell at a place, be it in a pool or not
abbrev pub raw_cell : Frame → List ℕ → List ℕ → Place → Cell Held
raw_cell f words keys x = cell_in f x (record_at f words x) (key_for f keys x)

-- what stands at a place; a place of no pool is unused
unfoldable pub cell_of : Frame → List ℕ → List ℕ → Place → Cell Held
cell_of f words keys x = choose (in_pool f x) (raw_cell f words keys x) unused

-- the record there obeys its own rule
abbrev pub rule_at : Frame → List ℕ → List ℕ → Place → Bool
rule_at f words keys x = rule_in f x (record_at f words x) (key_for f keys x)

-- all words there, and a leaf's key bytes, are 0
abbrev pub blank_at : Frame → List ℕ → List ℕ → Place → Bool
blank_at f words keys x = blank_in x (record_at f words x) (key_for f keys x)
