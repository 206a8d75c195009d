-- The check of a whole block: frame, the way from the root, the ends of the leaf list, the count, and every record that was not reached.
use Rattle.refusals.specs.Refusal.{number_in}
use Rattle.refusals.specs.declared.Refusal.{Refusal}
use Rattle.std.specs.Prelude.{ℕ, List, ◌++◌, Bool, false, ◌&&◌, length, drop, replicate, eqb, ltb, Some, None, Ok, Err, Result}
use Rattle.refusals.specs.declared.Refusal.TheVariants.{Damaged, ShortScratch}
use Rattle.whole.specs.Visit.{Visit, Way, way, record_by}
use Rattle.lists.specs.Scan.{choose}
use Rattle.frames.specs.Frame.{frame_fits, frame, root_word, first_word, last_word, count_word}
use Rattle.frames.specs.declared.frame.Frame.{Frame}
use Rattle.whole.specs.Marks.{places_in}
use Rattle.whole.specs.Sweep.{swept}
use Rattle.whole.specs.declared.well_formed.Seen.{Seen}

-- before any leaf: the list's first must follow
abbrev pub at_start : List ℕ → Seen
at_start words = record { prev = 0; next = first_word words; count = 0 }

-- the way from the root, with no more inner records on a path than the longest tag has bytes; where there is no root, nothing is seen
unfoldable pub root_way : Frame → List ℕ → List ℕ → List ℕ → Way
root_way f words keys m = choose (eqb (root_word words) 0) (way (Some (0, at_start words)) m) (record_by f words keys f.form.limit (root_word words) 0 m (at_start words))

-- nothing follows the leaf seen last, which is the list's last, and the count is right
abbrev pub ended_well : List ℕ → Visit → Bool
ended_well words (Some (w, s)) = eqb s.next 0 && eqb (last_word words) s.prev && eqb (count_word words) s.count
ended_well words None = false

-- the way ends well, and every record that was not reached is blank
unfoldable pub way_well : Frame → List ℕ → List ℕ → Way → Bool
way_well f words keys w = ended_well words w.visit && swept f words keys w.marks

-- the block is sound, as the check finds it
unfoldable pub whole_by : Frame → List ℕ → List ℕ → Bool
whole_by f words keys = way_well f words keys (root_way f words keys (replicate (places_in f) 0))

-- in the frame that the trailer gives, where that fits
unfoldable pub whole_of : List ℕ → List ℕ → Bool
whole_of words keys = choose (frame_fits words keys) (whole_by (frame words) words keys) false

-- ── the call ──
-- sound, with nothing beside it; or why not
abbrev pub Checked : Type 0
Checked = Result (Unit {0}) Refusal

-- what the check finds, and scratch as it leaves it
pub record Answer : Type 0 where
  pub result : Checked
  pub scratch : List ℕ

-- this answer, with this scratch
abbrev pub answer : Checked → List ℕ → Answer
answer r s = record { result = r; scratch = s }

-- 0 sound, 6 damaged block, 7 scratch too short
abbrev pub number_of : Checked → ℕ
number_of a = number_in a

-- once it is long enough, scratch ends with n zeros in front
abbrev pub cleared : ℕ → List ℕ → List ℕ
cleared n scratch = replicate n 0 ++ drop n scratch

-- 7 where scratch is shorter than a byte for each place
abbrev pub check_with : Frame → List ℕ → List ℕ → List ℕ → Answer
check_with f words keys scratch =
    choose (ltb (length scratch) (places_in f)) (answer (Err ShortScratch) scratch) (answer (choose (whole_by f words keys) (Ok tt) (Err Damaged)) (cleared (places_in f) scratch))

-- frame 6, 7, whole check 6
unfoldable pub check_of : List ℕ → List ℕ → List ℕ → Answer
check_of words keys scratch = choose (frame_fits words keys) (check_with (frame words) words keys scratch) (answer (Err Damaged) scratch)
