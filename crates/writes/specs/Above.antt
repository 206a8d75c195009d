-- The reference to a record changed in the record above it, or in the trailer where it is the root.
use Rattle.std.specs.Prelude.{ℕ, List, Some, None}
use Rattle.points.specs.There.{Up}
use Rattle.frames.specs.Place.{place_at}
use Rattle.frames.specs.declared.frame.Frame.{Frame}
use Rattle.pools.specs.Link.{set_trailer}
use Rattle.edits.specs.declared.representation.Change.TheVariants.{Replace}
use Rattle.writes.specs.At.{change_at}

-- the record above, or the trailer, names another record
abbrev pub link_up : Frame → Up → ℕ → List ℕ → List ℕ
link_up f None ref words = set_trailer 11 ref words
link_up f (Some (above, byte)) ref words = change_at f (place_at above) byte (Replace ref) words
