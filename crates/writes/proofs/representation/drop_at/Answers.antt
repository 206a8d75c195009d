-- `representation::drop_at` meets its contract: one reference fewer among the places of a record's children.
use mathlib.Core.Path.{ap, ap₂, ◌∙◌}
use native.Mathlib.Omega.{arith}
use lib.ListN.{set}
use Rattle.lists.specs.Part.{splice}
use Rattle.lists.specs.Scan.{how_many, nonzero}
use Rattle.frames.specs.Place.{place_at, put_at, kind_at}
use Rattle.records.specs.Own.{prefix_at}
use Rattle.records.specs.Row.{direct_row}
use Rattle.edits.specs.Record.{build_rec}
use Rattle.edits.proofs.Inners.{inner_own}
use Rattle.writes.specs.At.{drop_at}
use Rattle.writes.proofs.Spots.{part_made, build_ready}
use Rattle.writes.proofs.Branches.{drop_count}
use Rattle.writes.proofs.representation.drop_at.Goals as goal

pub build-requires : goal.build-requires
unfolding prefix_at
build-requires c = let part = c.part_at-part.ensures in
    let a = c.args in
    let m = c.requires.1 in
    let i = inner_own m.from.here.fits in
    let t = c.spread_at-places in
    build_ready c.requires.0 a.new _ _ part.0 part.1.0 m.to (set t.result a.byte 0) (omega (arith, ap (λ l. how_many nonzero (set l a.byte 0)) t.ensures, drop_count i a.byte c.ranges.byte.fits m.from.child, m.room))

pub returns : goal.returns
unfolding drop_at splice
returns c = let part = c.part_at-part.ensures in
    let a = c.args in
    part_made a.f a.words.now a.new part.0 part.1.0 (λ k l. build_rec a.f.form k c.prefix_of-p.result (direct_row (set c.spread_at-places.result a.byte 0))) c.build.new.rec c.build.ensures
    ∙ ap₂ (λ p t. put_at a.f a.words.now (place_at a.new) (build_rec a.f.form (kind_at (place_at a.new)) p (direct_row (set t a.byte 0)))) c.prefix_of-p.ensures c.spread_at-places.ensures
