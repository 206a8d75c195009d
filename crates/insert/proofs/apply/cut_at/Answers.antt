-- `apply::cut_at` meets its contract: a leaf is left as it is, and a record's prefix is split.
use Rattle.insert.proofs.Cuts.{cut_leaf, cut_here, cut_place, cut_fits, cut_fits_one, cut_inside, cut_whole, cut_made, cut_kept}
use Rattle.insert.proofs.apply.cut_at.Goals as goal

pub returns-then-below-eq-LEAF : goal.returns-then-below-eq-LEAF
returns-then-below-eq-LEAF c = (search cut_leaf, search)

pub prefix_of-p-requires : goal.prefix_of-p-requires
prefix_of-p-requires c = (search, search cut_place)

pub overflow_cast-c : goal.overflow_cast-c
overflow_cast-c c = search cut_fits

pub overflow_add-c : goal.overflow_add-c
overflow_add-c c = search cut_fits_one

pub split-q-requires : goal.split-q-requires
split-q-requires c = (search cut_inside, search cut_whole)

pub set_prefix_at-requires : goal.set_prefix_at-requires
set_prefix_at-requires c = (search, search cut_here)

pub returns : goal.returns
returns c = (search cut_made, search cut_kept)
