-- A leaf that was arrived at, and its tag. It goes by its reference.
use Rattle.std.specs.Prelude.{ℕ, ◌/◌, ◌%◌, ◌≡◌, List, true, take}
use Rattle.frames.specs.Place.{in_pool, record_at, key_at}
use Rattle.frames.specs.declared.frame.Frame.{Frame}
use Rattle.records.specs.Words.{tag_length}
use Rattle.records.specs.View.{rule_at}
use Rattle.art.specs.Stores.{leaf_place}

-- the reference of a leaf that obeys its rule
pub record LeafSeen (f : Frame) (words keys : List ℕ) (ref : ℕ) : Type 0 where
  pub kind : ref % 8 ≡ 5
  pub pool : in_pool f (leaf_place (ref / 8)) ≡ true
  pub rule : rule_at f words keys (leaf_place (ref / 8)) ≡ true

-- the length of the leaf's tag
abbrev pub length_at : Frame → List ℕ → ℕ → ℕ
length_at f words ref = tag_length (record_at f words (leaf_place (ref / 8)))

-- the tag: as many of the leaf's key bytes
unfoldable pub tag_at : Frame → List ℕ → List ℕ → ℕ → List ℕ
tag_at f words keys ref = take (length_at f words ref) (key_at f keys (ref / 8))
