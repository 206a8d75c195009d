-- A point with places for references: the mathematics' point.
use Rattle.std.specs.Prelude.{◌/◌, ◌%◌, Some, None}
use Rattle.points.specs.There.{Up}
use Rattle.frames.specs.Place.{place_at}
use Rattle.art.specs.Points as art
use Rattle.points.specs.declared.insert_point.Point.{Point}
use Rattle.points.specs.declared.insert_point.Point.TheVariants.{Holds, Clash, Into, Fork, Broken}

-- the record above by its reference's kind and number; none at the root
abbrev pub up_told : Up → art.Up
up_told None = art.top
up_told (Some (ref, byte)) = art.via (ref % 8) (ref / 8) byte

-- each reference as a kind and number, as a place, or as the number of a leaf
abbrev pub told : Point → art.Point
told (Holds upper up leaf) = art.holds (up_told upper) (up_told up) (leaf / 8)
told Clash = art.clashes
told (Into up ref byte) = art.into (up_told up) (ref % 8) (ref / 8) byte
told (Fork up ref leaf d c) = art.fork (up_told up) (place_at ref) (leaf / 8) d c
told Broken = art.broken
