-- `sweep::swept_at` meets its contract: a record without a mark must be blank.
use Prim.Native.Nat.{ℕ}
use Rattle.whole.specs.Marks.{unmarked}
use mathlib.Core.Path.{sym, ap, ◌∙◌}
use Rattle.frames.proofs.Frames.{framed}
use Rattle.whole.proofs.Sweeping.{swept_new, swept_old}
use Rattle.whole.proofs.sweep.swept_at.Goals as goal

pub mark_at-at-requires : goal.mark_at-at-requires
mark_at-at-requires c = framed c.args.block.now.framed

pub returns-then-is_new : goal.returns-then-is_new
returns-then-is_new c = let b = c.args.block.now in
    swept_new b.frame b.words.now b.keys.now c.args.marks.now _ (ap (λ (n : ℕ). unmarked n c.args.marks.now) (sym c.mark_at-at.ensures) ∙ sym c.is_new.ensures ∙ c.if-is_new.true) c.blank_at.ensures

pub returns : goal.returns
returns c = let b = c.args.block.now in
    swept_old b.frame b.words.now b.keys.now c.args.marks.now _ (ap (λ (n : ℕ). unmarked n c.args.marks.now) (sym c.mark_at-at.ensures) ∙ sym c.is_new.ensures ∙ c.if-is_new.false)
