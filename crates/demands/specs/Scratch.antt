-- The calls that take scratch, and what is past their test for 7.
use Rattle.std.specs.Prelude.{ℕ, List, Bool, ◌&&◌, length, leb}
use Rattle.lists.specs.Scan.{choose}
use Rattle.frames.specs.Frame.{frame_fits, frame}
use Rattle.whole.specs.Marks.{places_in}
use Rattle.whole.specs.Check.{cleared}
use Rattle.demands.specs.Calls.{Call, Slices, checks}

-- the call gets past its test for 7: the frame fits, and there is a byte for each record
abbrev pub past : Call → Slices → Bool
past c s = checks c s && (frame_fits s.words s.keys && leb (places_in (frame s.words)) (length s.scratch))

-- as many zeros in front as there are records, the rest untouched; before the test all untouched
abbrev pub left_in : Call → Slices → List ℕ
left_in c s = choose (past c s) (cleared (places_in (frame s.words)) s.scratch) s.scratch
