-- The words of the trailer that change, and the links of the leaf list.
use Rattle.std.specs.Prelude.{ℕ, ◌+◌, ◌-◌, ◌≡◌, ◌⊎◌, List, true, length, set, eqb}
use Rattle.lists.specs.Scan.{choose}
use Rattle.frames.specs.Place.{place_at, in_pool, start_at, ref_of}
use Rattle.frames.specs.declared.frame.Frame.{Frame}
use Rattle.art.specs.Stores.{leaf_place}

-- 0, or a reference to a leaf of the pool
abbrev pub LeafOrEnd : Frame → ℕ → Type 0
LeafOrEnd f ref = (ref ≡ 0) ⊎ ((n : ℕ) × (ref ≡ ref_of (leaf_place n)) × (in_pool f (leaf_place n) ≡ true))

-- word i of the trailer
unfoldable pub set_trailer : ℕ → ℕ → List ℕ → List ℕ
set_trailer i v words = set words (length words - 16 + i) v

-- a link: word i of the leaf that a reference names, or word t of the trailer where it is 0
unfoldable pub set_link : ℕ → ℕ → Frame → ℕ → ℕ → List ℕ → List ℕ
set_link t i f ref v words = choose (eqb ref 0) (set_trailer t v words) (set words (start_at f (place_at ref) + i) v)

-- what comes after the leaf that a reference names, or first of all
unfoldable pub set_next : Frame → ℕ → ℕ → List ℕ → List ℕ
set_next f before v words = set_link 12 3 f before v words

-- what comes before it, or last of all
unfoldable pub set_previous : Frame → ℕ → ℕ → List ℕ → List ℕ
set_previous f after v words = set_link 13 2 f after v words
