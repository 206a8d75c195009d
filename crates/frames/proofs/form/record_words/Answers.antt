-- `form::record_words` meets its contract: the head by the form and the body by the kind, small enough to add up.
use mathlib.Core.Path.{ap}
use native.Mathlib.Omega.{arith}
use Rattle.frames.specs.declared.kind.KindRow.{KindRow}
use Rattle.frames.proofs.KindTable.{kind_words}
use Rattle.frames.proofs.form.record_words.Goals as goal

pub body_of-requires : goal.body_of-requires
body_of-requires c = omega (arith, ap (λ (r : KindRow). r.words) c.row_of-row.ensures, kind_words c.args.k c.requires.0 c.requires.1)

pub overflow_add-result : goal.overflow_add-result
overflow_add-result c = omega (arith, ap (λ (r : KindRow). r.words) c.row_of-row.ensures, kind_words c.args.k c.requires.0 c.requires.1)

pub returns : goal.returns
returns c = omega (arith, ap (λ (r : KindRow). r.words) c.row_of-row.ensures, kind_words c.args.k c.requires.0 c.requires.1)
