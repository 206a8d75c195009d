-- `apply::merge` meets its contract: each write leaves the frame as it was, so that the next one can be made.
use mathlib.Core.Path.{sym, ap, subst, ◌∙◌}
use Rattle.frames.specs.Place.{place_at}
use Rattle.points.specs.There.{UpThere}
use Rattle.writes.specs.Above.{link_up}
use Rattle.writes.specs.At.{clear_at}
use Rattle.writes.proofs.Kept.{clear_kept, linked_kept}
use Rattle.delete.specs.Apply.{merged}
use Rattle.delete.proofs.apply.merge.Goals as goal

pub link_up-requires : goal.link_up-requires
unfolding merged
link_up-requires c = let a = c.args in
    let g = c.requires.1 in
    let m = c.join_at in
    let w1 = m.ensures.1 in
    let k = c.clear_at in
    let w2 = clear_kept w1 k.new.words k.auto.words (place_at a.reference) g.here.pool k.ensures in
    let made = k.ensures ∙ ap (clear_at a.f (place_at a.reference)) m.ensures.0 in
    let above = subst (λ l. UpThere a.f l a.upper) (sym made) g.above in
    (w2, above)

pub returns : goal.returns
unfolding merged
returns c = let a = c.args in
    let g = c.requires.1 in
    let m = c.join_at in
    let w1 = m.ensures.1 in
    let k = c.clear_at in
    let w2 = clear_kept w1 k.new.words k.auto.words (place_at a.reference) g.here.pool k.ensures in
    let made = k.ensures ∙ ap (clear_at a.f (place_at a.reference)) m.ensures.0 in
    let above = subst (λ l. UpThere a.f l a.upper) (sym made) g.above in
    let up = c.link_up in
    (up.ensures ∙ ap (link_up a.f a.upper a.child) made, linked_kept w2 up.new.words up.auto.words a.upper above a.child up.ensures)
