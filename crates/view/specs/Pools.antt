-- What a search for a free inner record finds.
use Rattle.std.specs.Prelude.{ℕ, ◌≤◌, ◌<◌, ◌≡◌, ◌≢◌, List, true}
use Rattle.frames.specs.Place.{in_pool}
use Rattle.frames.specs.declared.frame.Frame.{Frame}
use Rattle.art.specs.Stores.{inner_place}
use Rattle.view.specs.Cells.{word_zero}

-- the lowest free record, of the smallest kind from one on that has one
pub record FreeAt (f : Frame) (words : List ℕ) (kind k n : ℕ) : Type 0 where
  pub from : kind ≤ k
  pub pool : in_pool f (inner_place k n) ≡ true
  pub free : word_zero f words (inner_place k n) ≡ 0
  pub lower : (m : ℕ) → m < n → word_zero f words (inner_place k m) ≢ 0
  pub smaller : (j m : ℕ) → kind ≤ j → j < k → in_pool f (inner_place j m) ≡ true → word_zero f words (inner_place j m) ≢ 0

-- no kind from one on has a free record
abbrev pub NoneFree : Frame → List ℕ → ℕ → Type 0
NoneFree f words kind = (j m : ℕ) → kind ≤ j → in_pool f (inner_place j m) ≡ true → word_zero f words (inner_place j m) ≢ 0
