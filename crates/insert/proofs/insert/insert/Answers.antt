-- `insert` meets its contract: a tag that is too long is refused, each answer of the check is a case of `insert_by`, and nothing but the check writes to scratch.
use mathlib.Core.Path.{refl, sym, ◌∙◌}
use Rattle.std.proofs.lemmas.Result.{err_from_is_err_and}
use Rattle.insert.proofs.Calls.{call_long, call_sound, call_by}
use Rattle.insert.proofs.Cases.{insert_as}
use Rattle.insert.proofs.insert.insert.Goals as goal

pub returns-then-too_long : goal.returns-then-too_long
returns-then-too_long c = search call_long

pub returns-in_err-check : goal.returns-in_err-check
returns-in_err-check c = let p = err_from_is_err_and c.from_residual.result c.from_residual.ensures.1 in
    rw (p.1, p.2) (call_by _ _ _ _ _ c.too_long.ensures c.if-too_long.false c.check.ensures (insert_as _ _ _ _ _ c.in_err-check.was refl))

pub insert_sound-requires : goal.insert_sound-requires
insert_sound-requires c = (call_sound _ _ _ c.check.ensures c.in_ok-check.was, sym c.too_long.ensures ∙ c.if-too_long.false)

pub returns : goal.returns
returns c = call_by _ _ _ _ _ c.too_long.ensures c.if-too_long.false c.check.ensures (insert_as _ _ _ _ _ c.in_ok-check.was (c.insert_sound.ensures _))
