-- `into_choice` meets its contract: by whether the record has room, and else by whether a larger kind has a free record.
use Prim.Native.Nat.{◌+◌, ◌%◌}
use mathlib.Core.Path.{ap, ◌∙◌}
use native.Mathlib.Omega.{arith}
use Rattle.std.specs.Prelude.{Some}
use Rattle.points.proofs.Here.{here_kind}
use Rattle.insert.specs.declared.plan.Site.TheVariants.{Grow}
use Rattle.insert.proofs.Planning.{free_small, into_add, into_grow}
use Rattle.insert.proofs.plan.into_choice.Goals as goal

pub returns-then-has_room : goal.returns-then-has_room
returns-then-has_room c = into_add _ _ _ _ _ c.has_room.ensures c.if-has_room.true

pub returns-in_err-k : goal.returns-in_err-k
returns-in_err-k c = c.from_residual.ensures ∙ into_grow _ _ _ _ _ c.has_room.ensures c.if-has_room.false c.smallest_free.ensures c.in_err-k.was

pub reference_to-requires : goal.reference_to-requires
reference_to-requires c =
    free_small c.args.block.now.framed (c.args.reference % 8 + 1) (omega (arith, here_kind c.args.reference c.requires)) c.smallest_free.ensures c.in_ok-k.was

pub returns : goal.returns
returns c = let a = c.args in
    ap (λ r. Some (Grow a.up a.reference r a.byte)) c.reference_to.ensures
    ∙ into_grow _ _ _ _ _ c.has_room.ensures c.if-has_room.false c.smallest_free.ensures c.in_ok-k.was
