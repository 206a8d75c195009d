-- `places::leaf_at` meets its contract: a leaf of the pool lies within the words.
use Prim.Native.Nat.{ℕ, ◌+◌}
use mathlib.Core.Path.{ap, ◌∙◌}
use native.Mathlib.Omega.{arith}
use lib.ListN.{length}
use Rattle.lists.specs.Part.{between}
use Rattle.frames.specs.Kind.{leaf_size}
use Rattle.frames.specs.Place.{start_at}
use Rattle.frames.proofs.Places.{record_length}
use Rattle.art.specs.Stores.{leaf_place}
use Rattle.points.proofs.Here.{leaf_small, leaf_names, leaf_there, leaf_within}
use Rattle.points.proofs.places.leaf_at.Goals as goal

pub reference_to-requires : goal.reference_to-requires
reference_to-requires c = (omega arith, leaf_small c.args.block.now.framed c.args.n c.requires)

pub start_at-start-requires : goal.start_at-start-requires
start_at-start-requires c = leaf_there c.args.block.now.framed c.args.n c.requires c.reference_to.ensures

pub overflow_add-e : goal.overflow_add-e
overflow_add-e c = omega (arith, leaf_within c.args.block.now.framed c.args.n c.requires c.reference_to.ensures c.start_at-start.ensures)

pub offset_bounds-block-start : goal.offset_bounds-block-start
offset_bounds-block-start c = omega (arith, leaf_within c.args.block.now.framed c.args.n c.requires c.reference_to.ensures c.start_at-start.ensures)

pub slice_bounds-result-end : goal.slice_bounds-result-end
slice_bounds-result-end c = omega (arith, leaf_within c.args.block.now.framed c.args.n c.requires c.reference_to.ensures c.start_at-start.ensures)

pub returns : goal.returns
returns c = let block = c.args.block.now in
    let e = ap (λ (i : ℕ). between block.words.now i (i + leaf_size)) (c.start_at-start.ensures ∙ ap (start_at block.frame) (leaf_names block.framed c.args.n c.requires c.reference_to.ensures)) in
    (e, ap length e ∙ record_length block.framed (leaf_place c.args.n) c.requires)
