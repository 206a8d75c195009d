-- `representation::change_at` meets its contract: the record is a part of the words.
use Prim.Native.Nat.{◌<◌}
use lib.ListN.{get_or}
use Rattle.lists.specs.Part.{splice}
use Rattle.frames.specs.Kind.{children_of}
use Rattle.frames.specs.Place.{place_at}
use Rattle.records.specs.Own.{InnerFits, child_at}
use Rattle.edits.specs.Change.{Needs}
use Rattle.edits.specs.Record.{change_of}
use Rattle.writes.specs.At.{change_at}
use Rattle.writes.proofs.Spots.{here_place, part_has, part_made, change_ready}
use Rattle.writes.proofs.representation.change_at.Goals as goal

pub part_at-part-requires : goal.part_at-part-requires
part_at-part-requires c = let a = c.args in
    (c.requires.0, here_place (change_ready a.f a.words.now (place_at a.reference) a.byte a.change c.requires.1).0)

pub change_child-requires : goal.change_child-requires
change_child-requires c = let a = c.args in
    let part = c.part_at-part.ensures in
    let r = change_ready a.f a.words.now (place_at a.reference) a.byte a.change c.requires.1 in
    part_has a.f a.words.now a.reference part.0 part.1.0 (λ k l. InnerFits a.f.form k l × Needs a.change (get_or l 1 0 < children_of k) (0 < child_at a.f.form k l a.byte))
    (r.0.fits, r.1)

pub returns : goal.returns
unfolding change_at splice
returns c = let a = c.args in
    let part = c.part_at-part.ensures in
    part_made a.f a.words.now a.reference part.0 part.1.0 (λ k l. change_of a.f.form k l a.byte a.change) c.change_child.new.rec c.change_child.ensures
