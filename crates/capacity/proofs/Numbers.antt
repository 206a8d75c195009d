-- Insert gives 5 only where a record lacks.
use Prim.Native.Nat.{ℕ}
use mathlib.Core.Path.{◌≡◌}
use mathlib.Core.Logic.{◌≢◌}
use Rattle.frames.specs.Frame.{frame}
use Rattle.art.specs.Tags.{Tag}
use Rattle.art.specs.Verdicts.{free, judge}
use Rattle.art.specs.Deletes.{held}
use Rattle.art.specs.Points.{store_of}
use Rattle.reading.specs.Answers.{Bytes}
use Rattle.whole.specs.Sound.{Sound}
use Rattle.insert.specs.Room.{LeavesFull, Lacking}
use Rattle.demands.specs.Calls.{edit, insert, Slices}
use Rattle.demands.specs.Told.{number}
use Rattle.demands.proofs.Numbers.{five_lacks}
use Rattle.capacity.specs.Capacity.{Large}
use Rattle.capacity.proofs.Rooms.{never_lacks}

module _ (s : Slices) (tag : Tag) (total : ℕ) where
  -- on a sound block no record lacks
  abbrev pub Roomy : Type 0
  Roomy = (z : Sound s.words s.keys) → judge tag (held z.tree) ≡ free → ¬ LeavesFull (frame s.words) (store_of z.tree) → ¬ Lacking (frame s.words) z.tree tag

  pub not_five : Bytes tag → Roomy → number (edit (insert tag total)) s ≢ 5
  not_five bytes roomy e = let l = five_lacks s tag total bytes e in roomy l.0.sound l.1 l.2 l.3

-- with kind 4 large enough for every branching no insert gives 5, on any memory
pub large_never_five : (s : Slices) (tag : Tag) (total : ℕ) → Bytes tag → Large (frame s.words) → number (edit (insert tag total)) s ≢ 5
large_never_five s tag total bytes large = not_five s tag total bytes (λ z. never_lacks z tag bytes large)
