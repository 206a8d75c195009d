-- `start::start` meets its contract: the form is read only where there is one.
use mathlib.Core.Path.{refl, sym, ◌∙◌}
use Rattle.frames.proofs.FormTable.{known_sizes}
use Rattle.pools.proofs.Starts.{start_known, start_unknown}
use Rattle.pools.proofs.start.start.Goals as goal

pub form_of-form-requires : goal.form_of-form-requires
form_of-form-requires c = sym c.form_known.ensures ∙ c.if-form_known.true

pub start_in-requires : goal.start_in-requires
start_in-requires c = known_sizes _ (sym c.form_known.ensures ∙ c.if-form_known.true) _ c.form_of-form.ensures _ refl

pub returns-then-form_known : goal.returns-then-form_known
returns-then-form_known c = c.start_in.ensures ∙ start_known c.args.words.now c.args.keys.now c.args.number c.args.c c.form_known.ensures c.if-form_known.true c.form_of-form.ensures

pub returns-else-form_known : goal.returns-else-form_known
returns-else-form_known c = start_unknown c.args.words.now c.args.keys.now c.args.number c.args.c c.form_known.ensures c.if-form_known.false
