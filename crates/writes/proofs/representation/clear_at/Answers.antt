-- `representation::clear_at` meets its contract: the record is a part of the words, as long as its place is.
use mathlib.Core.Path.{ap, ◌∙◌}
use lib.ListN.{length, replicate}
use Rattle.lists.specs.Part.{splice}
use Rattle.frames.specs.Place.{place_at, put_at}
use Rattle.frames.proofs.Places.{record_length}
use Rattle.writes.specs.At.{clear_at}
use Rattle.writes.proofs.Spots.{part_made}
use Rattle.writes.proofs.representation.clear_at.Goals as goal

pub returns : goal.returns
unfolding clear_at splice
returns c = let part = c.part_at-part.ensures in
    part_made c.args.f c.args.words.now c.args.reference part.0 part.1.0 (λ k l. replicate (length l) 0) c.fill.new.self (c.fill.ensures.after (λ y e. e))
    ∙ ap (λ n. put_at c.args.f c.args.words.now (place_at c.args.reference) (replicate n 0)) (record_length c.requires.0 (place_at c.args.reference) c.requires.1.pool)
