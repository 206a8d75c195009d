-- `first_at_or_after` meets its contract: each answer of the check is a case of `after_check`, and nothing but the check writes to scratch.
use Rattle.std.proofs.Common.{sym, ap, ◌∙◌}
use Rattle.range.specs.Range.{after_check}
use Rattle.whole.proofs.Calls.{sound_fits}
use Rattle.range.proofs.Steps.{walk_by, call_by}
use Rattle.range.proofs.first_at_or_after.Goals as goal

pub returns-in-Ok : goal.returns-in-Ok
returns-in-Ok c = let s = c.args in
    let b = c.new in
    call_by _ _ _ _ c.check.ensures
    (walk_by s.tag.now b.result.framed b.ensures c.after_first.ensures ∙ ap (after_check s.words.now s.keys.now s.tag.now) (sym c.in-Ok.is))

pub returns-in-Err : goal.returns-in-Err
returns-in-Err c = let s = c.args in
    call_by _ _ _ _ c.check.ensures (ap (after_check s.words.now s.keys.now s.tag.now) (sym c.in-Err.is))

-- a block that the check finds sound has a frame that fits
pub new-requires : goal.new-requires
new-requires c = sound_fits _ _ _ c.check.ensures c.in-Ok.is
