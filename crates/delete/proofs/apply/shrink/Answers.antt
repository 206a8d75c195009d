-- `apply::shrink` meets its contract: each write leaves the frame as it was, so that the next one can be made.
use mathlib.Core.Path.{sym, ap, subst, ◌∙◌}
use Rattle.frames.specs.Place.{place_at}
use Rattle.points.specs.There.{UpThere}
use Rattle.writes.specs.Above.{link_up}
use Rattle.writes.specs.At.{clear_at}
use Rattle.writes.proofs.Spots.{here_place}
use Rattle.writes.proofs.Kept.{drop_kept, clear_kept, linked_kept}
use Rattle.delete.specs.Apply.{shrunk}
use Rattle.delete.proofs.apply.shrink.Goals as goal

pub clear_at-requires : goal.clear_at-requires
clear_at-requires c = let a = c.args in
    let g = c.requires.1 in
    let m = c.drop_at in
    let w1 = drop_kept c.requires.0 m.new.words m.auto.words (place_at a.old) (place_at a.new) g.drops.to.pool a.byte m.ensures in
    (w1, here_place g.drops.from.here)

pub link_up-requires : goal.link_up-requires
unfolding shrunk
link_up-requires c = let a = c.args in
    let g = c.requires.1 in
    let m = c.drop_at in
    let w1 = drop_kept c.requires.0 m.new.words m.auto.words (place_at a.old) (place_at a.new) g.drops.to.pool a.byte m.ensures in
    let k = c.clear_at in
    let w2 = clear_kept w1 k.new.words k.auto.words (place_at a.old) g.drops.from.here.pool k.ensures in
    let made = k.ensures ∙ ap (clear_at a.f (place_at a.old)) m.ensures in
    let above = subst (λ l. UpThere a.f l a.upper) (sym made) g.above in
    (w2, above)

pub returns : goal.returns
unfolding shrunk
returns c = let a = c.args in
    let g = c.requires.1 in
    let m = c.drop_at in
    let w1 = drop_kept c.requires.0 m.new.words m.auto.words (place_at a.old) (place_at a.new) g.drops.to.pool a.byte m.ensures in
    let k = c.clear_at in
    let w2 = clear_kept w1 k.new.words k.auto.words (place_at a.old) g.drops.from.here.pool k.ensures in
    let made = k.ensures ∙ ap (clear_at a.f (place_at a.old)) m.ensures in
    let above = subst (λ l. UpThere a.f l a.upper) (sym made) g.above in
    let up = c.link_up in
    (up.ensures ∙ ap (link_up a.f a.upper a.new) made, linked_kept w2 up.new.words up.auto.words a.upper above a.new up.ensures)
