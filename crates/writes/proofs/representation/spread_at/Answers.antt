-- `representation::spread_at` meets its contract: the record is a part of the words.
use mathlib.Core.Path.{sym, ap₂, ◌∙◌}
use Rattle.frames.specs.Place.{place_at}
use Rattle.records.specs.Own.{InnerFits}
use Rattle.edits.specs.Record.{spread_of}
use Rattle.points.proofs.Here.{place_kind}
use Rattle.writes.proofs.Spots.{part_has, part_record}
use Rattle.writes.proofs.representation.spread_at.Goals as goal

pub spread_of-requires : goal.spread_of-requires
spread_of-requires c = let part = c.part_at-part.ensures in
    part_has c.args.f c.args.words.now c.args.reference part.0 part.1.0 (InnerFits c.args.f.form) c.requires.1.fits

pub returns : goal.returns
returns c = let part = c.part_at-part.ensures in
    c.spread_of.ensures
    ∙ ap₂ (spread_of c.args.f.form) (sym (place_kind c.args.reference)) (part_record c.args.f c.args.words.now (place_at c.args.reference) part.0 part.1.0)
