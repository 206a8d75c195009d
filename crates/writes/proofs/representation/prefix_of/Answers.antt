-- `representation::prefix_of` meets its contract: the record is a part of the words.
use Prim.Native.Nat.{◌≤◌}
use mathlib.Core.Path.{ap, ◌∙◌}
use native.Mathlib.Omega.{arith}
use lib.ListN.{length}
use Rattle.frames.specs.Place.{place_at}
use Rattle.records.specs.Own.{prefix_at}
use Rattle.writes.proofs.Spots.{part_has, part_record, record_long}
use Rattle.writes.proofs.representation.prefix_of.Goals as goal

pub prefix_at-requires : goal.prefix_at-requires
prefix_at-requires c = let part = c.part_at-part.ensures in
    part_has c.args.f c.args.words.now c.args.reference part.0 part.1.0 (λ k l. 3 ≤ length l) (omega (arith, record_long c.requires.0 (place_at c.args.reference) c.requires.1))

pub returns : goal.returns
returns c = let part = c.part_at-part.ensures in
    c.prefix_at.ensures ∙ ap (prefix_at c.args.f.form) (part_record c.args.f c.args.words.now (place_at c.args.reference) part.0 part.1.0)
