-- `links::set_link` meets its contract: a word of the trailer where there is no leaf, else a word of that leaf, which stands before the trailer.
use native.Mathlib.Omega.{arith}
use borrow.Author.Tests.{eq-eqb, ne_eqb}
use Rattle.frames.proofs.Frames.{framed, totals}
use Rattle.pools.specs.Link.{set_link}
use Rattle.pools.proofs.LeafEnds.{leaf_in, leaf_ends}
use Rattle.pools.proofs.links.set_link.Goals as goal

pub set_trailer-requires : goal.set_trailer-requires
set_trailer-requires c = ((totals _ _ c.requires.0.0.fits).long, c.requires.1.0)

pub start_at-requires : goal.start_at-requires
start_at-requires c = (framed c.requires.0.0, leaf_in c.requires.0.0 c.args.reference c.if-reference-eq0.false c.requires.0.1)

pub overflow_add-at : goal.overflow_add-at
overflow_add-at c = omega (arith, c.start_at.ensures, leaf_ends c.requires.0.0 c.args.reference c.if-reference-eq0.false c.requires.0.1, c.requires.1.1)

pub offset_bounds-words-at : goal.offset_bounds-words-at
offset_bounds-words-at c = omega (arith, c.start_at.ensures, leaf_ends c.requires.0.0 c.args.reference c.if-reference-eq0.false c.requires.0.1, c.requires.1.1)

pub bounds-words-at : goal.bounds-words-at
bounds-words-at c = omega (arith, c.start_at.ensures, leaf_ends c.requires.0.0 c.args.reference c.if-reference-eq0.false c.requires.0.1, c.requires.1.1)

pub returns-then-reference-eq0 : goal.returns-then-reference-eq0
unfolding set_link
returns-then-reference-eq0 c = simp (eq-eqb _ _ c.if-reference-eq0.true) c.set_trailer.ensures

pub returns-else-reference-eq0 : goal.returns-else-reference-eq0
unfolding set_link
returns-else-reference-eq0 c = simp (ne_eqb _ _ c.if-reference-eq0.false, c.start_at.ensures)
