-- `leaf_node::key_out` meets its contract: a leaf's key bytes are a part of them, of the limit's length.
use mathlib.Core.Path.{ap, ◌∙◌}
use lib.ListN.{replicate}
use Rattle.lists.specs.Part.{splice}
use Rattle.writes.specs.Leaf.{key_out}
use Rattle.writes.proofs.Spots.{key_long, key_put}
use Rattle.writes.proofs.leaf_node.key_out.Goals as goal

pub returns : goal.returns
unfolding key_out splice
returns c = let start = c.key_start-start.ensures.0 in
    key_put c.requires.0 c.args.n c.requires.1 start c.fill.new.self (replicate c.args.f.form.limit 0) (c.fill.ensures.after (λ y e. e) ∙ ap (λ n. replicate n 0) (key_long c.requires.0 c.args.n c.requires.1 start))
