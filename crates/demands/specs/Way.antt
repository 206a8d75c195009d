-- The walks on any block, by cases: the records that one comes to, and the number that it gives for what it meets there.
use Rattle.std.specs.Prelude.{ℕ, suc, ◌+◌, ◌≡◌, ◌≢◌, List, [], ◌∷◌, Bool, true, false, ◌&&◌, get_or}
use Rattle.prefix.specs.Match.{match_of}
use Rattle.prefix.specs.declared.lookup.PrefixMatchBehavior.{PrefixMatchBehavior}
use Rattle.prefix.specs.declared.lookup.PrefixMatchBehavior.TheVariants.{Pessimistic}
use Rattle.prefix.specs.declared.lookup.PrefixMatch.{PrefixMatch}
use Rattle.prefix.specs.declared.lookup.PrefixMatch.TheVariants.{On, Off}
use Rattle.frames.specs.Frame.{root_word}
use Rattle.frames.specs.Place.{place_at, in_pool, record_at, key_at}
use Rattle.frames.specs.declared.frame.Frame.{Frame}
use Rattle.records.specs.Own.{prefix_at}
use Rattle.records.specs.Row.{row_at, ref_for}
use Rattle.records.specs.View.{rule_at}
use Rattle.art.specs.Tags.{Tag}
use Rattle.art.specs.Stores.{Place, leaf_place, inner_place}
use Rattle.tree.specs.Walk.{leaf_fits}
use Rattle.tree.specs.declared.lookup.Aim.{Aim}
use Rattle.tree.specs.declared.minmax.Edge.{Edge}
use Rattle.tree.specs.declared.minmax.Edge.TheVariants.{Low, High}

-- ── arriving at a place, with so many inner records left on the path ──
-- a pool has the place, and the record there obeys its own rule
abbrev pub stands : Frame → List ℕ → List ℕ → Place → Bool
stands f words keys x = in_pool f x && rule_at f words keys x

-- damage: it does not stand, or it is an inner record and none is left
pub data Breaks (f : Frame) (words keys : List ℕ) : (left : ℕ) → Place → Type 0 where
  fallen : {left : ℕ} {x : Place} → stands f words keys x ≡ false → Breaks f words keys left x
  none_left : {k n : ℕ} → Breaks f words keys 0 (inner_place k n)

-- ── search and prefix search ──
-- the tag from this depth on against the prefix of an inner record
abbrev pub matched : Frame → List ℕ → Tag → (k n depth : ℕ) → PrefixMatchBehavior → PrefixMatch
matched f words t k n depth b = match_of (prefix_at f.form (record_at f words (inner_place k n))) t depth b

-- the reference of that record's child for byte d of the tag, 0 where there is none
abbrev pub child_ref_for : Frame → List ℕ → Tag → (k n d : ℕ) → ℕ
child_ref_for f words t k n d = ref_for (get_or t d 0) (row_at f.form k (record_at f words (inner_place k n)))

-- the places that the walk comes to, each with its depth: the root's, then from each inner record whose prefix agrees to the child for the next byte
pub data Comes (f : Frame) (words keys : List ℕ) (t : Tag) : (left : ℕ) → Place → (depth : ℕ) → PrefixMatchBehavior → Type 0 where
  at_root : root_word words ≢ 0 → Comes f words keys t f.form.limit (place_at (root_word words)) 0 Pessimistic
  down : {left k n depth d : ℕ} {b b' : PrefixMatchBehavior} → Comes f words keys t (suc left) (inner_place k n) depth b → stands f words keys (inner_place k n) ≡ true
      → matched f words t k n depth b ≡ On d b' → child_ref_for f words t k n d ≢ 0 → Comes f words keys t left (place_at (child_ref_for f words t k n d)) (d + 1) b'

-- 1 for no root; 6 for damage; 1 for a prefix that differs or that the tag is too short for, for no child, for a leaf that does not fit; 0 for one that does
pub data Gives (f : Frame) (words keys : List ℕ) (t : Tag) (aim : Aim) : ℕ → Type 0 where
  no_root : root_word words ≡ 0 → Gives f words keys t aim 1
  damage : {left depth : ℕ} {x : Place} {b : PrefixMatchBehavior} → Comes f words keys t left x depth b → Breaks f words keys left x → Gives f words keys t aim 6
  off_prefix : {left k n depth agreed : ℕ} {b : PrefixMatchBehavior} → Comes f words keys t (suc left) (inner_place k n) depth b → stands f words keys (inner_place k n) ≡ true
      → matched f words t k n depth b ≡ Off agreed → Gives f words keys t aim 1
  no_child : {left k n depth d : ℕ} {b b' : PrefixMatchBehavior} → Comes f words keys t (suc left) (inner_place k n) depth b → stands f words keys (inner_place k n) ≡ true
      → matched f words t k n depth b ≡ On d b' → child_ref_for f words t k n d ≡ 0 → Gives f words keys t aim 1
  other_leaf : {left n depth : ℕ} {b : PrefixMatchBehavior} → Comes f words keys t left (leaf_place n) depth b → stands f words keys (leaf_place n) ≡ true
      → leaf_fits (record_at f words (leaf_place n)) (key_at f keys n) t aim depth b ≡ false → Gives f words keys t aim 1
  the_leaf : {left n depth : ℕ} {b : PrefixMatchBehavior} → Comes f words keys t left (leaf_place n) depth b → stands f words keys (leaf_place n) ≡ true
      → leaf_fits (record_at f words (leaf_place n)) (key_at f keys n) t aim depth b ≡ true → Gives f words keys t aim 0

-- ── minimum and maximum ──
-- the reference of the first or of the last child of a row, or r where there is none
abbrev pub end_ref : Edge → ℕ → List (ℕ × ℕ) → ℕ
end_ref edge r [] = r
end_ref Low r (e ∷ es) = e.1
end_ref High r (e ∷ es) = end_ref High e.1 es

-- the root's place, then from each inner record that of its lowest or highest child
pub data Descends (f : Frame) (words keys : List ℕ) (edge : Edge) : (left : ℕ) → Place → Type 0 where
  root : root_word words ≢ 0 → Descends f words keys edge f.form.limit (place_at (root_word words))
  child : {left k n : ℕ} → Descends f words keys edge (suc left) (inner_place k n) → stands f words keys (inner_place k n) ≡ true
      → Descends f words keys edge left (place_at (end_ref edge 0 (row_at f.form k (record_at f words (inner_place k n)))))

-- 1 for no root; 6 for damage; 0 for a leaf
pub data Ends (f : Frame) (words keys : List ℕ) (edge : Edge) : ℕ → Type 0 where
  rootless : root_word words ≡ 0 → Ends f words keys edge 1
  broken_off : {left : ℕ} {x : Place} → Descends f words keys edge left x → Breaks f words keys left x → Ends f words keys edge 6
  a_leaf : {left n : ℕ} → Descends f words keys edge left (leaf_place n) → stands f words keys (leaf_place n) ≡ true → Ends f words keys edge 0
