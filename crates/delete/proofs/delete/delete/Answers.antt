-- `delete` meets its contract: each answer of the check is a case of `delete_by`, and nothing but the check writes to scratch.
use mathlib.Core.Path.{sym, ap, ◌∙◌}
use Rattle.std.proofs.lemmas.Result.{err_from_is_err_and}
use Rattle.delete.specs.Delete.{delete_by}
use Rattle.delete.proofs.Calls.{call_sound, call_by}
use Rattle.delete.proofs.delete.delete.Goals as goal

pub returns-in_err-check : goal.returns-in_err-check
returns-in_err-check c = let p = err_from_is_err_and c.from_residual.result c.from_residual.ensures.1 in
    rw (p.1, p.2) (call_by _ _ _ c.check.ensures _ (ap (delete_by _ _ _ _) (sym c.in_err-check.was)))

pub delete_sound-requires : goal.delete_sound-requires
delete_sound-requires c = call_sound _ _ _ c.check.ensures c.in_ok-check.was

pub returns : goal.returns
returns c = call_by _ _ _ c.check.ensures _ (c.delete_sound.ensures _ ∙ ap (delete_by _ _ _ _) (sym c.in_ok-check.was))
