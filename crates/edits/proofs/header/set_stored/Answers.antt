-- `header::set_stored` meets its contract: the bytes over eight words, or packed over two.
use mathlib.Core.Path.{◌∙◌}
use native.Mathlib.Omega.{arith}
use Rattle.lists.specs.Part.{splice}
use Rattle.edits.proofs.Builds.{two_words, laid_plain, laid_packed}
use Rattle.edits.proofs.header.set_stored.Goals as goal

pub slice_bounds-copy_from_slice-end-else-form-eq8 : goal.slice_bounds-copy_from_slice-end-else-form-eq8
slice_bounds-copy_from_slice-end-else-form-eq8 c = omega (arith, two_words c.args.form c.requires.0 c.if-form-eq8.false)

pub returns-then-form-eq8 : goal.returns-then-form-eq8
unfolding splice
returns-then-form-eq8 c = laid_plain c.args.form c.if-form-eq8.true c.args.rec.now c.args.stored c.copy_from_slice.new.self c.copy_from_slice.ensures.after

pub returns-else-form-eq8 : goal.returns-else-form-eq8
unfolding splice
returns-else-form-eq8 c = laid_packed c.args.form (two_words c.args.form c.requires.0 c.if-form-eq8.false) c.args.rec.now c.args.stored c.copy_from_slice-else-form-eq8.new.self (c.copy_from_slice-else-form-eq8.ensures.after ∙ c.pack-two.ensures)
