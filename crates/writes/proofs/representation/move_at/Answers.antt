-- `representation::move_at` meets its contract: the places of a record's children are its row, and there are as many as it says.
use mathlib.Core.Path.{ap, ap₂, ◌∙◌}
use native.Mathlib.Omega.{arith}
use Rattle.lists.specs.Part.{splice}
use Rattle.lists.specs.Scan.{how_many, nonzero}
use Rattle.frames.specs.Place.{place_at, put_at, kind_at}
use Rattle.records.specs.Own.{prefix_at}
use Rattle.records.specs.Row.{direct_row}
use Rattle.edits.specs.Record.{build_rec}
use Rattle.edits.proofs.Inners.{inner_own}
use Rattle.writes.specs.At.{move_at}
use Rattle.writes.proofs.Spots.{part_made, build_ready}
use Rattle.writes.proofs.Branches.{spread_count}
use Rattle.writes.proofs.representation.move_at.Goals as goal

pub build-requires : goal.build-requires
unfolding prefix_at
build-requires c = let part = c.part_at-part.ensures in
    let a = c.args in
    let m = c.requires.1 in
    let i = inner_own m.from.fits in
    build_ready c.requires.0 a.new _ _ part.0 part.1.0 m.to c.spread_at-places.result (omega (arith, ap (how_many nonzero) c.spread_at-places.ensures, spread_count i, m.room))

pub returns : goal.returns
unfolding move_at splice
returns c = let part = c.part_at-part.ensures in
    let a = c.args in
    part_made a.f a.words.now a.new part.0 part.1.0 (λ k l. build_rec a.f.form k c.prefix_of-p.result (direct_row c.spread_at-places.result)) c.build.new.rec c.build.ensures
    ∙ ap₂ (λ p t. put_at a.f a.words.now (place_at a.new) (build_rec a.f.form (kind_at (place_at a.new)) p (direct_row t))) c.prefix_of-p.ensures c.spread_at-places.ensures
