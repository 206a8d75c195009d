-- `header::set_prefix` meets its contract: the length in its word, then the stored bytes.
use mathlib.Core.Path.{◌∙◌}
use lib.ListN.{length-set}
use borrow.Author.Rules.{rules}
use Rattle.edits.specs.Head.{set_prefix}
use Rattle.edits.proofs.header.set_prefix.Goals as goal

pub shape_of-rec : goal.shape_of-rec
shape_of-rec c = c.set_stored.auto.rec ∙ simp length-set

pub returns : goal.returns
unfolding set_prefix
returns c = search rules
