-- What a point says of the words that it was found in: the records that it names are there and obey their rules.
use Rattle.std.specs.Prelude.{ℕ, ◌+◌, ◌<◌, ◌≡◌, List, true, length, Some, None, Option}
use Rattle.frames.specs.Place.{place_at, in_pool, record_at, kind_at}
use Rattle.frames.specs.declared.frame.Frame.{Frame}
use Rattle.records.specs.Own.{child_at, InnerFits}
use Rattle.art.specs.Stores.{Place}
use Rattle.tree.specs.Seen.{LeafSeen}
use Rattle.points.specs.declared.insert_point.Point.{Point}
use Rattle.points.specs.declared.insert_point.Point.TheVariants.{Holds, Clash, Into, Fork, Broken}

-- the record above, by its reference, with the byte that leads down from it; or none at the root
abbrev pub Up : Type 0
Up = Option (ℕ × ℕ)

-- a pool has the inner record, and it obeys its rule
pub record InnerFitsAt (f : Frame) (words : List ℕ) (x : Place) : Type 0 where
  pub pool : in_pool f x ≡ true
  pub fits : InnerFits f.form (kind_at x) (record_at f words x)

-- it has a child for the byte
pub record HasChild (f : Frame) (words : List ℕ) (x : Place) (byte : ℕ) : Type 0 where
  pub here : InnerFitsAt f words x
  pub child : 0 < child_at f.form (kind_at x) (record_at f words x) byte

-- the record above has a child for the byte
abbrev pub UpThere : Frame → List ℕ → Up → Type 0
UpThere f words None = Unit {0}
UpThere f words (Some (above, byte)) = HasChild f words (place_at above) byte

-- the leaf, the records above it
pub record HoldsThere (f : Frame) (words keys : List ℕ) (upper up : Up) (leaf : ℕ) : Type 0 where
  pub seen : LeafSeen f words keys leaf
  pub above : UpThere f words up
  pub upper_above : UpThere f words upper

-- the record that has no child for the byte, and the record above it
pub record IntoThere (f : Frame) (words : List ℕ) (up : Up) (ref : ℕ) : Type 0 where
  pub here : InnerFitsAt f words (place_at ref)
  pub above : UpThere f words up

-- the place that a new branching goes above, the leaf, and the record above; the tag goes on past the bytes that agree
pub record ForkThere (f : Frame) (words keys tag : List ℕ) (up : Up) (ref leaf d c : ℕ) : Type 0 where
  pub pool : in_pool f (place_at ref) ≡ true
  pub seen : LeafSeen f words keys leaf
  pub inside : d + c < length tag
  pub above : UpThere f words up

-- by the point
abbrev pub PointThere : Frame → (words keys tag : List ℕ) → Point → Type 0
PointThere f words keys tag (Holds upper up leaf) = HoldsThere f words keys upper up leaf
PointThere f words keys tag Clash = Unit {0}
PointThere f words keys tag (Into up ref byte) = IntoThere f words up ref
PointThere f words keys tag (Fork up ref leaf d c) = ForkThere f words keys tag up ref leaf d c
PointThere f words keys tag Broken = Unit {0}
