-- `kind::row_of` meets its contract: the table of the code is the table of the definition, row by row.
use mathlib.Core.Path.{refl}
use Rattle.frames.specs.Kind.{kind_row}
use Rattle.frames.proofs.kind.row_of.Goals as goal

pub returns : goal.returns
unfolding kind_row
returns c = refl
