-- What a call meets that gets to the whole check, past its frame: short scratch, a block that is not sound, or a sound one.
use Rattle.std.specs.Prelude.{◌<◌, ◌≡◌, true, length}
use Rattle.frames.specs.Frame.{frame}
use Rattle.whole.specs.Marks.{places_in}
use Rattle.whole.specs.Sound.{Sound}
use Rattle.demands.specs.Calls.{Slices}
use Rattle.demands.specs.Listed.{Enough}
use Rattle.demands.specs.Due.{framed}

-- 7: it fits, and scratch has fewer bytes than the block has places
pub record Short (s : Slices) : Type 0 where
  pub fits : framed s ≡ true
  pub less : length s.scratch < places_in (frame s.words)

-- 6: scratch is long enough, and the block is not sound
pub record Unsound (s : Slices) : Type 0 where
  pub fits : framed s ≡ true
  pub room : Enough s
  pub not_sound : ¬ Sound s.words s.keys

-- scratch is long enough, and the block is sound
pub record Passed (s : Slices) : Type 0 where
  pub room : Enough s
  pub sound : Sound s.words s.keys
