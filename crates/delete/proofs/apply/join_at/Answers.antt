-- `apply::join_at` meets its contract: a leaf is left as it is, and a record's prefix is merged with the one above it.
use mathlib.Core.Path.{ap, ap₂, ◌∙◌}
use native.Mathlib.Omega.{arith}
use Rattle.prefix.specs.Run.{merge_of}
use Rattle.frames.specs.Place.{place_at}
use Rattle.records.specs.Own.{prefix_at}
use Rattle.writes.specs.At.{prefixed_at}
use Rattle.frames.proofs.Frames.{limit_small}
use Rattle.writes.proofs.Spots.{here_place, prefix_short}
use Rattle.writes.proofs.Kept.{prefixed_kept}
use Rattle.delete.proofs.Joins.{combined_here, combined_leaf, combined_inner}
use Rattle.delete.proofs.apply.join_at.Goals as goal

pub returns-then-child-eq-LEAF : goal.returns-then-child-eq-LEAF
returns-then-child-eq-LEAF c = let a = c.args in
    (combined_leaf a.f a.words.now a.child (place_at a.reference) a.byte c.if-child-eq-LEAF.true, c.requires.0)

pub prefix_of-q-requires : goal.prefix_of-q-requires
prefix_of-q-requires c = let a = c.args in
    let h = combined_here a.f a.words.now a.child c.if-child-eq-LEAF.false c.requires.1.1.0 in
    (c.requires.0, here_place h)

pub merge-joined-requires : goal.merge-joined-requires
unfolding prefix_at
merge-joined-requires c = let a = c.args in
    let h = combined_here a.f a.words.now a.child c.if-child-eq-LEAF.false c.requires.1.1.0 in
    let p = c.prefix_of-p.ensures in
    let q = c.prefix_of-q.ensures in
    omega (arith, ap (λ p. p.full.0) p, ap (λ p. p.full.0) q, prefix_short c.requires.1.0, prefix_short h, limit_small c.requires.0)

pub set_prefix_at-requires : goal.set_prefix_at-requires
set_prefix_at-requires c = let a = c.args in
    let h = combined_here a.f a.words.now a.child c.if-child-eq-LEAF.false c.requires.1.1.0 in
    (c.requires.0, h)

pub returns : goal.returns
returns c = let a = c.args in
    let h = combined_here a.f a.words.now a.child c.if-child-eq-LEAF.false c.requires.1.1.0 in
    let words = a.words.now in
    let out = c.set_prefix_at in
    (out.ensures ∙ ap (λ p. prefixed_at a.f (place_at a.child) p words) (c.merge-joined.ensures ∙ ap₂ (λ p q. merge_of p a.byte q) c.prefix_of-p.ensures c.prefix_of-q.ensures) ∙ combined_inner a.f words a.child (place_at a.reference) a.byte c.if-child-eq-LEAF.false, prefixed_kept c.requires.0 out.new.words out.auto.words (place_at a.child) h.pool c.merge-joined.result out.ensures)
