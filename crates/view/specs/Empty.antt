-- An empty directory.
use Rattle.std.specs.Prelude.{ℕ, ◌≡◌, List, true}
use Rattle.frames.specs.Frame.{FrameOf, root_word, first_word, last_word, count_word}
use Rattle.frames.specs.Place.{in_pool}
use Rattle.records.specs.View.{cell_of, blank_at}
use Rattle.frames.specs.declared.frame.Frame.{Frame}
use Rattle.art.specs.Stores.{Place, unused}

-- no record is used, all are blank, and the trailer has no root, first, last or tag
pub record Empty (f : Frame) (words keys : List ℕ) : Type 0 where
  pub frame : FrameOf f words keys
  pub cells : (x : Place) → cell_of f words keys x ≡ unused
  pub blank : (x : Place) → in_pool f x ≡ true → blank_at f words keys x ≡ true
  pub root : root_word words ≡ 0
  pub first : first_word words ≡ 0
  pub last : last_word words ≡ 0
  pub count : count_word words ≡ 0
