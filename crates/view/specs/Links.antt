-- The links of the leaf list as a block has them, and the changes of links that its writes make.
use Rattle.std.specs.Prelude.{ℕ, ◌≤◌, ◌≡◌, List, ◌⊎◌, get_or}
use Rattle.lists.specs.Scan.{choose}
use Rattle.frames.specs.Frame.{first_word, last_word}
use Rattle.frames.specs.Place.{in_pool, record_at}
use Rattle.records.specs.Words.{previous_leaf, next_leaf_word}
use Rattle.records.specs.View.{cell_of}
use Rattle.frames.specs.declared.frame.Frame.{Frame}
use Rattle.art.specs.Stores.{leaf_place, Used}
use Rattle.art.specs.Chain.{Links, leaf_ref}

-- 0, or a reference to a leaf in use
abbrev pub UsedOrEnd : Frame → List ℕ → List ℕ → ℕ → Type 0
UsedOrEnd f words keys ref = (ref ≡ 0) ⊎ ((n : ℕ) × (ref ≡ leaf_ref n) × Used (cell_of f words keys (leaf_place n)))

-- the two directions of the list: on, by word 12 of the trailer and word 3 of a leaf, and back, by words 13 and 2; of each word only that it is one of its two
pub record Direction (t i : ℕ) : Type 0 where
  pub trailer_low : 12 ≤ t
  pub trailer_high : t ≤ 13
  pub leaf_low : 2 ≤ i
  pub leaf_high : i ≤ 3

-- a word of a leaf, by what reads it; a leaf of no pool has 0
abbrev pub link_by : Frame → List ℕ → (List ℕ → ℕ) → ℕ → ℕ
link_by f words word n = choose {A = ℕ} (in_pool f (leaf_place n)) (word (record_at f words (leaf_place n))) 0

-- its word i
abbrev pub link_at : Frame → List ℕ → ℕ → ℕ → ℕ
link_at f words i n = link_by f words (λ rec. get_or rec i 0) n

-- first and last are the trailer's; a leaf has the references of the leaves before and after it
unfoldable pub links_of : Frame → List ℕ → Links
links_of f words = record { first = first_word words; last = last_word words; prev = link_by f words previous_leaf; next = link_by f words next_leaf_word }
