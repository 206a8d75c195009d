-- `frame::frame_of` meets its contract: a known form has small sizes and tested capacities are small, so the pools can be reckoned.
use mathlib.Core.Path.{ap, ◌∙◌}
use Rattle.frames.specs.Frame.{caps_small, frame_of}
use Rattle.frames.proofs.FormTable.{known_sizes}
use Rattle.frames.proofs.Frames.{caps_small_lem}
use Rattle.frames.proofs.frame.frame_of.Goals as goal

pub frame_with-requires : goal.frame_with-requires
frame_with-requires c = (known_sizes _ c.requires.1.0 _ c.form_of-form.ensures _ c.sizes_of-z.ensures, caps_small_lem _ (ap caps_small c.caps_of-c.ensures ∙ c.requires.1.1))

pub returns : goal.returns
unfolding frame_of
returns c = rw (c.frame_with.ensures, c.sizes_of-z.ensures, c.form_of-form.ensures, c.caps_of-c.ensures)
