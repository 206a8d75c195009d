-- `frame::frame_fits` meets its contract: with 16 words there is a trailer, and its test decides.
use borrow.Author.Tests.{le-leb, lt-leb}
use Rattle.frames.specs.Frame.{frame_fits}
use Rattle.frames.proofs.frame.frame_fits.Goals as goal

pub returns-then-n-ge16 : goal.returns-then-n-ge16
unfolding frame_fits
returns-then-n-ge16 c = simp (le-leb _ _ c.if-n-ge16.true) c.trailer_fits.ensures

pub returns-else-n-ge16 : goal.returns-else-n-ge16
unfolding frame_fits
returns-else-n-ge16 c = simp (lt-leb _ _ c.if-n-ge16.false)
