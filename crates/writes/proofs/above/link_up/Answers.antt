-- `above::link_up` meets its contract: the record above has a child for the byte, and where there is none the trailer names the root.
use mathlib.Core.Path.{sym, ap, subst, ◌∙◌}
use native.Mathlib.Omega.{arith}
use Rattle.frames.proofs.Frames.{totals}
use Rattle.points.specs.There.{UpThere}
use Rattle.writes.specs.Above.{link_up}
use Rattle.writes.proofs.above.link_up.Goals as goal

pub change_at-requires : goal.change_at-requires
change_at-requires c = (c.requires.0, subst (UpThere c.args.f c.args.words.now) c.in-Some.is c.requires.1)

pub returns-in-Some : goal.returns-in-Some
returns-in-Some c = c.change_at.ensures ∙ sym (ap (λ u. link_up c.args.f u c.args.reference c.args.words.now) c.in-Some.is)

pub set_trailer-requires : goal.set_trailer-requires
set_trailer-requires c = ((totals _ _ c.requires.0.fits).long, omega arith)

pub returns-in-None : goal.returns-in-None
returns-in-None c = c.set_trailer.ensures ∙ sym (ap (λ u. link_up c.args.f u c.args.reference c.args.words.now) c.in-None.is)
