-- `representation::branch_at` meets its contract: two references among 256 places are the row of two children.
use mathlib.Core.Path.{ap, ◌∙◌}
use native.Mathlib.Omega.{arith}
use lib.ListN.{set, replicate}
use Rattle.lists.specs.Part.{splice}
use Rattle.frames.specs.Place.{place_at, put_at, kind_at}
use Rattle.frames.proofs.KindTable.{kind_rules}
use Rattle.records.specs.Row.{direct_row}
use Rattle.edits.specs.Record.{build_rec}
use Rattle.writes.specs.At.{branch_at}
use Rattle.writes.proofs.Spots.{part_made, build_ready}
use Rattle.writes.proofs.Branches.{pair_row, pair_count}
use Rattle.writes.proofs.representation.branch_at.Goals as goal

pub build-requires : goal.build-requires
build-requires c = let part = c.part_at-part.ensures in
    let a = c.args in
    let h = c.requires.1 in
    let k = kind_at (place_at a.reference) in
    build_ready c.requires.0.0 a.reference _ _ part.0 part.1.0 c.requires.0.1 (set (set (replicate 256 0) a.c a.s) a.b a.r) (omega (arith, pair_count a.b a.r a.c a.s h.0 c.ranges.b.fits c.ranges.c.fits h.1.0 h.1.1, (kind_rules k c.requires.0.1.low c.requires.0.1.high).least))

pub returns : goal.returns
unfolding branch_at splice
returns c = let part = c.part_at-part.ensures in
    let a = c.args in
    let h = c.requires.1 in
    let form = a.f.form in
    part_made a.f a.words.now a.reference part.0 part.1.0 (λ k l. build_rec form k a.p (direct_row (set (set (replicate 256 0) a.c a.s) a.b a.r))) c.build.new.rec c.build.ensures
    ∙ ap (λ row. put_at a.f a.words.now (place_at a.reference) (build_rec form (kind_at (place_at a.reference)) a.p row)) (pair_row a.b a.r a.c a.s h.0 c.ranges.b.fits c.ranges.c.fits h.1.0 h.1.1)
