-- `apply::hang` meets its contract: one function for each site.
use native.Mathlib.Omega.{arith}
use Rattle.writes.proofs.Kept.{root_kept}
use Rattle.insert.specs.Apply.{hung}
use Rattle.insert.proofs.Cases.{words_long, add_ready, grow_ready, fork_ready, hung_by, add_kept}
use Rattle.insert.proofs.apply.hang.Goals as goal

pub set_trailer-requires : goal.set_trailer-requires
set_trailer-requires c = (search words_long, omega arith)

pub returns-in-Root : goal.returns-in-Root
unfolding hung
returns-in-Root c = (search hung_by, search root_kept)

pub change_at-requires : goal.change_at-requires
change_at-requires c = (search, search add_ready)

pub returns-in-Add : goal.returns-in-Add
unfolding hung
returns-in-Add c = (search hung_by, search add_kept)

pub grow-requires : goal.grow-requires
grow-requires c = (search, search grow_ready)

pub returns-in-Grow : goal.returns-in-Grow
unfolding hung
returns-in-Grow c = (search hung_by, search)

pub fork-requires : goal.fork-requires
fork-requires c = (search, (search fork_ready, search))

pub returns-in-Fork : goal.returns-in-Fork
unfolding hung
returns-in-Fork c = (search hung_by, search)
