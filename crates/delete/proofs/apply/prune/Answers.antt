-- `apply::prune` meets its contract: one function for each cut.
use mathlib.Core.Path.{sym, ap, subst, ◌∙◌}
use native.Mathlib.Omega.{arith}
use Rattle.frames.proofs.Frames.{totals}
use Rattle.edits.specs.declared.representation.Change.TheVariants.{Remove}
use Rattle.writes.proofs.Kept.{root_kept, change_kept}
use Rattle.delete.specs.Apply.{pruned, CutReady}
use Rattle.delete.proofs.apply.prune.Goals as goal

pub set_trailer-requires : goal.set_trailer-requires
set_trailer-requires c = ((totals _ _ c.requires.0.fits).long, omega arith)

pub returns-in-Root : goal.returns-in-Root
unfolding pruned
returns-in-Root c = let a = c.args in
    let out = c.set_trailer in
    (out.ensures ∙ sym (ap (λ x. pruned a.f x a.words.now) c.in-Root.is), root_kept c.requires.0 out.new.words out.auto.words 0 out.ensures)

pub change_at-requires : goal.change_at-requires
change_at-requires c = let a = c.args in
    (c.requires.0, subst (CutReady a.f a.words.now) c.in-Stay.is c.requires.1)

pub returns-in-Stay : goal.returns-in-Stay
unfolding pruned
returns-in-Stay c = let a = c.args in
    let out = c.change_at in
    let r = subst (CutReady a.f a.words.now) c.in-Stay.is c.requires.1 in
    (out.ensures ∙ sym (ap (λ x. pruned a.f x a.words.now) c.in-Stay.is), change_kept c.requires.0 out.new.words out.auto.words _ r.here.pool _ Remove out.ensures)

pub shrink-requires : goal.shrink-requires
shrink-requires c = let a = c.args in
    (c.requires.0, subst (CutReady a.f a.words.now) c.in-Shrink.is c.requires.1)

pub returns-in-Shrink : goal.returns-in-Shrink
unfolding pruned
returns-in-Shrink c = let a = c.args in
    (c.shrink.ensures.0 ∙ sym (ap (λ x. pruned a.f x a.words.now) c.in-Shrink.is), c.shrink.ensures.1)

pub merge-requires : goal.merge-requires
merge-requires c = let a = c.args in
    (c.requires.0, subst (CutReady a.f a.words.now) c.in-Merge.is c.requires.1)

pub returns-in-Merge : goal.returns-in-Merge
unfolding pruned
returns-in-Merge c = let a = c.args in
    (c.merge.ensures.0 ∙ sym (ap (λ x. pruned a.f x a.words.now) c.in-Merge.is), c.merge.ensures.1)
