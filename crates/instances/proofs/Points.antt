-- The point of C in the block of A and B: a missing child of the one inner record, which is there, also where the block is damaged elsewhere.
use mathlib.Core.Path.{◌≡◌, refl, sym}
use native.Mathlib.Omega.{arith}
use Rattle.std.specs.Prelude.{None}
use Rattle.frames.specs.Frame.{FrameOf, frame}
use Rattle.records.specs.View.{cell_of}
use Rattle.art.specs.Stores.{inner_place}
use Rattle.art.specs.Points as art
use Rattle.whole.proofs.Samples.{two_words, two_keys, broken_words}
use Rattle.points.specs.Point.{point_of}
use Rattle.points.specs.There.{IntoThere}
use Rattle.points.specs.declared.insert_point.Point.TheVariants.{Into}
use Rattle.points.proofs.There.{point_there}
use Rattle.pointed.proofs.Points.{tag_bytes, point_shown}
use Rattle.instances.specs.Opened.{opened}
use Rattle.instances.specs.Blocks.{C}
use Rattle.instances.proofs.Sounds.{two_shown}

-- the code's point
point : point_of (frame two_words) two_words two_keys C 1 ≡ Into None 1 67
unfolding opened
point = refl

-- is the mathematics'
point_is : art.point 2 (cell_of (frame two_words) two_words two_keys) (inner_place 1 0) C ≡ art.into art.top 1 0 67
unfolding opened
point_is = sym (point_shown two_shown C (tag_bytes C refl) 2 (omega arith))

-- and the record that it names is there, in a block whose list is damaged
framed : FrameOf (frame broken_words) broken_words two_keys
unfolding opened
framed = record { read = refl; fits = refl }

there : IntoThere (frame broken_words) broken_words None 1
unfolding opened
there = point_there framed C 1
