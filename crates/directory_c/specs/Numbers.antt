-- The answers as C sees them: a number, and values that are 0 on a refusal. Each function's contract is the outcome of its call in the demands (`run`), seen so, and what that means.
use Rattle.std.specs.Prelude.{ℕ, ◌*◌, ◌≡◌, List, [], length, eqb}
use Rattle.lists.specs.Scan.{choose}
use Rattle.frames.specs.Frame.{frame_fits, frame}
use Rattle.frames.specs.declared.frame.Caps.{Caps}
use Rattle.whole.specs.Sound.{Sound}
use Rattle.demands.specs.Calls.{Call, Slices, run}
use Rattle.demands.specs.Told.{Told, told_by}
use Rattle.demands.specs.Listed.{Suffices, Listed}
use Rattle.directory_c.specs.declared.DirectoryChanged.{DirectoryChanged}
use Rattle.directory_c.specs.declared.DirectoryFound.{DirectoryFound}
use Rattle.directory_c.specs.declared.DirectoryLeaf.{DirectoryLeaf}
use Rattle.directory_c.specs.declared.DirectoryPart.{DirectoryPart}
use Rattle.directory_c.specs.declared.DirectoryStation.{DirectoryStation}

-- ── what is lent ──
-- these three slices
abbrev pub lent : (words keys scratch : List ℕ) → Slices
lent w k s = record { words = w; keys = k; scratch = s }

-- to a call that takes no scratch
abbrev pub lent_two : (words keys : List ℕ) → Slices
lent_two w k = lent w k []

-- the capacities of the five pools in order, kinds 1 to 4 and leaves
abbrev pub caps_of : (c1 c2 c3 c4 c5 : ℕ) → Caps
caps_of c1 c2 c3 c4 c5 = record { c1 = c1; c2 = c2; c3 = c3; c4 = c4; c5 = c5 }

-- ── what is given back of what a call tells ──
-- start and check give the number alone
abbrev pub number_as : Told → ℕ
number_as t = t.number

-- the calls that find a leaf give number, leaf and total
abbrev pub found_as : Told → DirectoryFound
found_as t = record { number = t.number; leaf = t.leaf; total = t.total }

-- leaf facts gives number, length and total
abbrev pub leaf_as : Told → DirectoryLeaf
leaf_as t = record { number = t.number; length = t.length; total = t.total }

-- station total gives number, count, the low part of the sum, and carries
abbrev pub station_as : Told → DirectoryStation
station_as t = record { number = t.number; count = t.count; low = t.total; carries = t.carries }

-- this number and this total
abbrev pub changed : (number total : ℕ) → DirectoryChanged
changed n t = record { number = n; total = t }

-- insert and delete give these two
abbrev pub changed_as : Told → DirectoryChanged
changed_as t = changed t.number t.total

-- where a leaf's key bytes begin; 0 where the frame does not fit
abbrev pub tag_start : List ℕ → List ℕ → ℕ → ℕ
tag_start words keys n = choose (frame_fits words keys) (n * (frame words).form.limit) 0

-- a leaf's tag as a part of the key bytes; 0 and 0 where it is empty
unfoldable pub part_of : (words keys : List ℕ) (n : ℕ) → List ℕ → DirectoryPart
part_of words keys n b = choose (eqb (length b) 0) (record { start = 0; length = 0 }) (record { start = tag_start words keys n; length = length b })

-- the tag that is told, so
abbrev pub part_as : (words keys : List ℕ) (n : ℕ) → Told → DirectoryPart
part_as words keys n t = part_of words keys n t.tag

-- ── what a function promises: of the call that it stands for, lent s, it gives r back and leaves these slices ──
pub record Does {R : Type 0} (show : Told → R) (c : Call) (s : Slices) (r : R) (left : Slices) : Type 0 where
  -- on any memory r shows what the call tells, and the slices are as the call leaves them
  pub is : r ≡ show (told_by (run c s).answer)
  pub leaves : left ≡ (run c s).slices
  -- so on a sound block, with scratch enough, r shows what the sorted list of its tags, leaf numbers and totals answers
  pub means : (z : Sound s.words s.keys) → Suffices c s → (t : Told) × (r ≡ show t) × Listed z c t

-- a call that takes no scratch and writes nothing
abbrev pub Replies : {R : Type 0} → (Told → R) → Call → (words keys : List ℕ) → R → Type 0
Replies show c words keys r = Does show c (lent_two words keys) r (lent_two words keys)
