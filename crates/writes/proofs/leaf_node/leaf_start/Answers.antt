-- `leaf_node::leaf_start` meets its contract: the reference names the leaf, and its place ends before the trailer.
use mathlib.Core.Path.{ap, ◌∙◌}
use native.Mathlib.Omega.{arith}
use Rattle.frames.specs.Place.{start_at}
use Rattle.frames.proofs.Frames.{framed}
use Rattle.frames.proofs.Places.{ref_leaf, place_room}
use Rattle.art.specs.Stores.{leaf_place}
use Rattle.points.proofs.Here.{leaf_small, leaf_there}
use Rattle.writes.proofs.leaf_node.leaf_start.Goals as goal

pub reference_to-requires : goal.reference_to-requires
reference_to-requires c = (omega arith, leaf_small c.requires.0 c.args.n c.requires.1)

pub start_at-requires : goal.start_at-requires
start_at-requires c = (framed c.requires.0, leaf_there c.requires.0 c.args.n c.requires.1 c.reference_to.ensures)

pub returns : goal.returns
returns c = let e = c.start_at.ensures ∙ ap (start_at c.args.f) (ref_leaf c.reference_to.ensures) in
    (e, omega (arith, e, place_room c.requires.0 (leaf_place c.args.n) c.requires.1))
