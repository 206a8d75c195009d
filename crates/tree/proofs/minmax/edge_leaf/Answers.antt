-- `minmax::edge_leaf` meets its contract: frame, root, then the way down.
use mathlib.Core.Path.{sym, ap, ◌∙◌}
use Rattle.std.proofs.lemmas.Result.{err_from_is_err_and}
use Rattle.tree.specs.Edge.{edge_of}
use Rattle.tree.proofs.Arrivals.{frame_out, root_none, root_walk}
use Rattle.tree.proofs.minmax.edge_leaf.Goals as goal

pub returns-in_err-block : goal.returns-in_err-block
returns-in_err-block c = let p = err_from_is_err_and c.from_residual.result c.from_residual.ensures.1 in
    let e = c.in_err-block.ensures in
    rw (p.1, p.2, e.refused) (frame_out _ _ _ _ (sym e.fits))

pub returns-then-root-eq0 : goal.returns-then-root-eq0
returns-then-root-eq0 c = let e = c.in_ok-block.ensures.lent in
    rw (← e.0, ← e.1) (root_none _ _ _ c.in_ok-block.block.framed _ c.trailer_word-root.ensures c.if-root-eq0.true)

pub returns : goal.returns
returns c = let e = c.in_ok-block.ensures.lent in
    let block = c.in_ok-block.block in
    let r = c.trailer_word-root.ensures in
    rw (← e.0, ← e.1)
    (c.edge_walk.ensures
    ∙ ap (edge_of block.frame block.words.now block.keys.now c.args.edge block.frame.form.limit) r
    ∙ root_walk _ _ _ block.framed _ r c.if-root-eq0.false)
