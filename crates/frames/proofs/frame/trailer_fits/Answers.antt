-- `frame::trailer_fits` meets its contract: the form and the capacities are tested before anything is reckoned from them.
use mathlib.Core.Path.{sym, refl, ◌∙◌}
use Rattle.lists.proofs.Tests.{both}
use Rattle.frames.proofs.FormTable.{known_sizes}
use Rattle.frames.proofs.Frames.{caps_small_lem, trailer_in, trailer_out}
use Rattle.frames.proofs.frame.trailer_fits.Goals as goal

pub form_of-form-requires : goal.form_of-form-requires
form_of-form-requires c = sym c.form_known-known.ensures ∙ (both c.form_known-known.result c.caps_small-small.result c.if-known-small.true).0

pub form_fits-requires : goal.form_fits-requires
form_fits-requires c = let g = both c.form_known-known.result c.caps_small-small.result c.if-known-small.true in
    (c.requires, (known_sizes _ (sym c.form_known-known.ensures ∙ g.0) _ c.form_of-form.ensures _ refl, caps_small_lem _ (sym c.caps_small-small.ensures ∙ g.1)))

pub returns-then-known-small : goal.returns-then-known-small
returns-then-known-small c = trailer_in _ _ _ _ _ _ c.form_known-known.ensures c.caps_of-c.ensures c.caps_small-small.ensures c.if-known-small.true _ c.form_of-form.ensures _ c.form_fits.ensures

pub returns-else-known-small : goal.returns-else-known-small
returns-else-known-small c = trailer_out _ _ _ _ _ _ c.form_known-known.ensures c.caps_of-c.ensures c.caps_small-small.ensures c.if-known-small.false
