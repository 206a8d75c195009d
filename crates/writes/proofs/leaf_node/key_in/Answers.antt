-- `leaf_node::key_in` meets its contract: a leaf's key bytes are a part of them, of the limit's length.
use mathlib.Core.Path.{ap, ◌∙◌}
use native.Mathlib.Omega.{arith}
use Rattle.lists.specs.Part.{splice}
use Rattle.lists.specs.Edit.{padded}
use Rattle.writes.specs.Leaf.{key_in}
use Rattle.writes.proofs.Spots.{key_long, key_put}
use Rattle.writes.proofs.leaf_node.key_in.Goals as goal

pub pad_bytes-requires : goal.pad_bytes-requires
pad_bytes-requires c = omega (arith, c.requires.1.1, key_long c.requires.0 c.args.n c.requires.1.0 c.key_start-start.ensures.0)

pub returns : goal.returns
unfolding key_in splice
returns c = let start = c.key_start-start.ensures.0 in
    key_put c.requires.0 c.args.n c.requires.1.0 start c.pad_bytes.new.to (padded c.args.f.form.limit c.args.tag.now) (c.pad_bytes.ensures ∙ ap (λ n. padded n c.args.tag.now) (key_long c.requires.0 c.args.n c.requires.1.0 start))
