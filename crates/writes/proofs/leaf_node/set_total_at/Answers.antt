-- `leaf_node::set_total_at` meets its contract: the leaf is a part of the words.
use Prim.Native.Nat.{◌+◌}
use mathlib.Core.Path.{ap, ◌∙◌}
use Rattle.frames.specs.Kind.{leaf_size}
use Rattle.frames.specs.Place.{put_at}
use Rattle.pools.specs.Leaf.{set_total}
use Rattle.writes.specs.Leaf.{total_at}
use Rattle.writes.proofs.Spots.{part_record, part_put}
use Rattle.lists.specs.Part.{splice}
use Rattle.art.specs.Stores.{leaf_place}
use Rattle.writes.proofs.leaf_node.set_total_at.Goals as goal

pub returns : goal.returns
unfolding total_at splice
returns c = let f = c.args.f in
    let words = c.args.words.now in
    let x = leaf_place c.args.n in
    let start = c.leaf_start-start.ensures.0 in
    part_put f words x start (ap (λ a. a + leaf_size) start) c.set_total.new.rec
    ∙ ap (put_at f words x) (c.set_total.ensures ∙ ap (set_total c.args.total) (part_record f words x start (ap (λ a. a + leaf_size) start)))
