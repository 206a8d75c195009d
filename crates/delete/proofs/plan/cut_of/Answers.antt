-- `cut_of` meets its contract, by the cases of the record above.
use mathlib.Core.Path.{sym, ap, subst, ◌∙◌}
use Rattle.points.specs.There.{UpThere}
use Rattle.delete.specs.Plan.{cut_of}
use Rattle.delete.proofs.plan.cut_of.Goals as goal

pub cut_under-requires : goal.cut_under-requires
cut_under-requires c = (subst (UpThere c.args.block.now.frame c.args.block.now.words.now) c.in-Some.is c.requires).here

pub returns-in-None : goal.returns-in-None
returns-in-None c = let block = c.args.block.now in
    ap (cut_of block.frame block.words.now c.args.upper) (sym c.in-None.is)

pub returns-in-Some : goal.returns-in-Some
returns-in-Some c = let block = c.args.block.now in
    c.cut_under.ensures ∙ ap (cut_of block.frame block.words.now c.args.upper) (sym c.in-Some.is)
