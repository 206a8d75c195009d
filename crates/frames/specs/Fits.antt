-- The ghost field of a block: a frame was read from words that it fits in at most one way.
use Rattle.std.specs.Prelude.{ℕ, List, Bool, ◌≡◌}
use Rattle.std.specs.Coded.{Coded, Coded-set, coded_bool}
use Rattle.frames.specs.Frame.{FrameOf}
use Rattle.frames.specs.declared.frame.Frame.{Frame}

-- frames and truth values are plain data, so their equations have one proof
pub FrameOf-prop : Coded Frame → (f : Frame) (words keys : List ℕ) → IsProp (FrameOf f words keys)
FrameOf-prop frames f words keys =
    let frame_is : (x y : Frame) → IsProp (x ≡ y) = Coded-set frames in
    let fits_is : (x y : Bool) → IsProp (x ≡ y) = Coded-set coded_bool in
    Prim.hlevel (frame_is, fits_is)
