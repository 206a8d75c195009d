-- `leaf_node::clear_at` meets its contract: the leaf is a part of the words, of six of them.
use Prim.Native.Nat.{◌+◌}
use mathlib.Core.Path.{ap, ◌∙◌}
use lib.ListN.{length, replicate}
use Rattle.frames.specs.Kind.{leaf_size}
use Rattle.frames.specs.Place.{put_at}
use Rattle.frames.proofs.Places.{record_length}
use Rattle.writes.proofs.Spots.{part_record, part_put}
use Rattle.lists.specs.Part.{splice}
use Rattle.art.specs.Stores.{leaf_place}
use Rattle.writes.proofs.leaf_node.clear_at.Goals as goal

pub returns : goal.returns
unfolding splice
returns c = let f = c.args.f in
    let words = c.args.words.now in
    let x = leaf_place c.args.n in
    let start = c.leaf_start-start.ensures.0 in
    part_put f words x start (ap (λ a. a + leaf_size) start) c.fill.new.self
    ∙ ap (put_at f words x) (c.fill.ensures.after (λ y e. e) ∙ ap (λ l. replicate (length l) 0) (part_record f words x start (ap (λ a. a + leaf_size) start)) ∙ ap (λ n. replicate n 0) (record_length c.requires.0 x c.requires.1))
