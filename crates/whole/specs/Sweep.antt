-- Every place of the pools was reached, or is blank.
use Rattle.std.specs.Prelude.{ℕ, zero, suc, ◌+◌, ◌*◌, List, Bool, true, ◌&&◌, get_or}
use Rattle.lists.specs.Scan.{choose}
use Rattle.frames.specs.Place.{place_at}
use Rattle.frames.specs.declared.frame.Frame.{Frame}
use Rattle.records.specs.View.{blank_at}
use Rattle.whole.specs.Marks.{mark_at, unmarked}
use Rattle.art.specs.Stores.{Place}

-- each number below n passes
abbrev pub all_under : ℕ → (ℕ → Bool) → Bool
all_under zero p = true
all_under (suc n) p = all_under n p && p n

-- a record without a mark, and a leaf's key bytes, are all 0
unfoldable pub swept_at : Frame → List ℕ → List ℕ → List ℕ → Place → Bool
swept_at f words keys m x = choose (unmarked (mark_at f x) m) (blank_at f words keys x) true

-- so in a kind's pool
unfoldable pub swept_pool : Frame → List ℕ → List ℕ → List ℕ → ℕ → Bool
swept_pool f words keys m kind = all_under (get_or f.caps kind 0) (λ n. swept_at f words keys m (place_at (n * 8 + kind)))

-- and in all five pools
unfoldable pub swept : Frame → List ℕ → List ℕ → List ℕ → Bool
swept f words keys m =
    swept_pool f words keys m 1 && swept_pool f words keys m 2 && swept_pool f words keys m 3 && swept_pool f words keys m 4 && swept_pool f words keys m 5
