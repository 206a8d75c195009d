-- `has_room` meets its contract: the child count is compared with the kind's number.
use Prim.Native.Nat.{◌%◌}
use mathlib.Core.Path.{ap, ◌∙◌}
use lib.Dec.{ltb}
use Rattle.frames.specs.Kind.{children_of}
use Rattle.frames.specs.declared.kind.KindRow.{KindRow}
use Rattle.points.proofs.Here.{here_kind}
use Rattle.insert.proofs.plan.has_room.Goals as goal

pub row_of-row-requires : goal.row_of-row-requires
row_of-row-requires c = here_kind _ c.requires

pub returns : goal.returns
returns c = ap (λ (r : KindRow). ltb c.children_at.result r.children) c.row_of-row.ensures
    ∙ ap (λ n. ltb n (children_of (c.args.reference % 8))) c.children_at.ensures
