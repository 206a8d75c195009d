-- `places::inner_at` meets its contract: the record lies within the words.
use native.Mathlib.Omega.{arith}
use Rattle.points.proofs.Here.{here_kind, here_record, here_fits, here_within}
use Rattle.points.proofs.places.inner_at.Goals as goal

pub start_at-start-requires : goal.start_at-start-requires
start_at-start-requires c = c.requires.pool

pub record_words-requires : goal.record_words-requires
record_words-requires c = here_kind _ c.requires

pub overflow_add-e : goal.overflow_add-e
overflow_add-e c = omega (arith, c.record_words.ensures.1, here_within c.args.reference c.requires c.start_at-start.ensures c.record_words.ensures.0 c.args.block.now.framed)

pub offset_bounds-block-start : goal.offset_bounds-block-start
offset_bounds-block-start c = omega (arith, c.record_words.ensures.1, here_within c.args.reference c.requires c.start_at-start.ensures c.record_words.ensures.0 c.args.block.now.framed)

pub slice_bounds-result-end : goal.slice_bounds-result-end
slice_bounds-result-end c = omega (arith, c.record_words.ensures.1, here_within c.args.reference c.requires c.start_at-start.ensures c.record_words.ensures.0 c.args.block.now.framed)

pub returns : goal.returns
returns c = let r = c.args.reference in
    (here_record r c.requires c.start_at-start.ensures c.record_words.ensures.0, here_fits r c.requires c.start_at-start.ensures c.record_words.ensures.0)
