-- `apply::fork` meets its contract: the tag and the leaf's tag part at the byte, and what is below is cut first.
use Rattle.insert.proofs.Cuts.{pool_some}
use Rattle.insert.proofs.Made.{fork_run, fork_inside, fork_cut, fork_parts, fork_above, fork_kept, fork_linked, fork_framed}
use Rattle.insert.proofs.apply.fork.Goals as goal

pub bounds-t-e : goal.bounds-t-e
bounds-t-e c = search fork_inside

pub prefix_of-p-requires : goal.prefix_of-p-requires
prefix_of-p-requires c = search fork_run

pub cut_at-requires : goal.cut_at-requires
cut_at-requires c = (search, search fork_cut)

pub branch_at-requires : goal.branch_at-requires
branch_at-requires c = ((search, search), (search fork_parts, (search, search pool_some)))

pub link_up-requires : goal.link_up-requires
link_up-requires c = let ready = c.requires.1.0 in
    (search (fork_kept ready), search (fork_above ready))

pub returns : goal.returns
returns c = let ready = c.requires.1.0 in
    (search (fork_linked ready), search (fork_framed ready))
