-- `apply::apply_new` meets its contract: the tree, then the leaf and the list, then the tag count, which was read first.
use mathlib.Core.Path.{refl}
use native.Mathlib.Omega.{arith}
use Rattle.points.proofs.Here.{leaf_small}
use Rattle.insert.proofs.Cases.{words_long, still_long, site_for, ref_some, new_made}
use Rattle.insert.proofs.apply.apply_new.Goals as goal

pub trailer_word-count-requires : goal.trailer_word-count-requires
trailer_word-count-requires c = (search words_long, omega arith)

pub reference_to-leaf-requires : goal.reference_to-leaf-requires
reference_to-leaf-requires c = (omega arith, search leaf_small)

pub hang-requires : goal.hang-requires
hang-requires c = (search, (search site_for, search ref_some))

pub set_trailer-requires : goal.set_trailer-requires
set_trailer-requires c = (search still_long, omega arith)

pub returns : goal.returns
returns c = (search (new_made c.set_trailer.ensures refl), search)
