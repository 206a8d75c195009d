-- `header::set_head` meets its contract: kind and child count in their words, then the prefix.
use mathlib.Core.Path.{◌∙◌}
use native.Mathlib.Omega.{arith}
use lib.ListN.{length-set}
use Rattle.edits.specs.Head.{set_head}
use Rattle.edits.proofs.header.set_head.Goals as goal

pub bounds-rec-1 : goal.bounds-rec-1
bounds-rec-1 c = simp length-set (omega arith)

pub shape_of-rec : goal.shape_of-rec
shape_of-rec c = c.set_prefix.auto.rec ∙ simp length-set

pub returns : goal.returns
unfolding set_head
returns c = c.set_prefix.ensures
