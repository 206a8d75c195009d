-- A byte of scratch for each record of the pools, in the order of the pools.
use Rattle.std.specs.Prelude.{ℕ, zero, suc, ◌+◌, List, [], ◌∷◌, Bool, ◌&&◌, length, get_or, set, eqb, ltb}
use Rattle.lists.specs.Scan.{choose}
use Rattle.frames.specs.Place.{place_at, in_pool}
use Rattle.frames.specs.declared.frame.Frame.{Frame}
use Rattle.art.specs.Stores.{Place, leaf_place, inner_place}

-- the sum of the first k
abbrev pub sum_to : ℕ → List ℕ → ℕ
sum_to zero l = 0
sum_to (suc k) [] = 0
sum_to (suc k) (x ∷ xs) = x + sum_to k xs

-- the five capacities added
unfoldable pub places_in : Frame → ℕ
places_in f = sum_to 6 f.caps

-- where a place has its mark
abbrev pub mark_at : Frame → Place → ℕ
mark_at f (leaf_place n) = sum_to 5 f.caps + n
mark_at f (inner_place k n) = sum_to k f.caps + n

-- there is such a mark, and it is not set
abbrev pub unmarked : ℕ → List ℕ → Bool
unmarked at marks = ltb at (length marks) && eqb (get_or marks at 0) 0

-- the marks with that one set; where it is set or there is none, as they are
abbrev pub set_mark : ℕ → List ℕ → List ℕ
set_mark at marks = choose (unmarked at marks) (set marks at 1) marks

-- a reference to a record of a pool that is not yet reached
unfoldable pub fresh : Frame → ℕ → List ℕ → Bool
fresh f ref marks = in_pool f (place_at ref) && unmarked (mark_at f (place_at ref)) marks

-- the marks once it is; any other reference leaves them as they are
unfoldable pub reached : Frame → ℕ → List ℕ → List ℕ
reached f ref marks = choose (fresh f ref marks) (set marks (mark_at f (place_at ref)) 1) marks
