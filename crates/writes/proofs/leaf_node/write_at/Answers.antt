-- `leaf_node::write_at` meets its contract: the leaf is a part of the words.
use Prim.Native.Nat.{◌+◌}
use mathlib.Core.Path.{ap, ◌∙◌}
use Rattle.frames.specs.Kind.{leaf_size}
use Rattle.frames.specs.Place.{put_at}
use Rattle.writes.proofs.Spots.{part_put}
use Rattle.lists.specs.Part.{splice}
use Rattle.art.specs.Stores.{leaf_place}
use Rattle.writes.proofs.leaf_node.write_at.Goals as goal

pub returns : goal.returns
unfolding splice
returns c = let f = c.args.f in
    let words = c.args.words.now in
    let x = leaf_place c.args.n in
    let start = c.leaf_start-start.ensures.0 in
    part_put f words x start (ap (λ a. a + leaf_size) start) c.write_leaf.new.rec
    ∙ ap (put_at f words x) c.write_leaf.ensures
