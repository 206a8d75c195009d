-- `representation::set_prefix_at` meets its contract: the record is a part of the words, and has room for its head.
use Prim.Native.Nat.{◌≤◌}
use native.Mathlib.Omega.{arith}
use lib.ListN.{length}
use Rattle.lists.specs.Part.{splice}
use Rattle.frames.specs.Form.{header}
use Rattle.edits.specs.Head.{set_prefix}
use Rattle.writes.specs.At.{prefixed_at}
use Rattle.writes.proofs.Spots.{part_has, part_made, frame_stores}
use Rattle.writes.proofs.representation.set_prefix_at.Goals as goal

pub set_prefix-requires : goal.set_prefix-requires
set_prefix-requires c = let part = c.part_at-part.ensures in
    let form = c.args.f.form in
    (frame_stores c.requires.0, part_has c.args.f c.args.words.now c.args.reference part.0 part.1.0 (λ k l. header form ≤ length l) (omega (arith, c.requires.1.fits.long)))

pub returns : goal.returns
unfolding prefixed_at splice
returns c = let part = c.part_at-part.ensures in
    part_made c.args.f c.args.words.now c.args.reference part.0 part.1.0 (λ k l. set_prefix c.args.f.form c.args.p l) c.set_prefix.new.rec c.set_prefix.ensures
