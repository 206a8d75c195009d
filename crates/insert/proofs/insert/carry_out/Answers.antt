-- `carry_out` meets its contract: what a plan's writes need is what it is ready for.
use mathlib.Core.Path.{ap, ◌∙◌}
use Rattle.std.specs.Prelude.{Ok}
use Rattle.insert.proofs.Cases.{over_ready, new_ready}
use Rattle.insert.proofs.insert.carry_out.Goals as goal

pub overwrite-requires : goal.overwrite-requires
overwrite-requires c = let a = c.args in
    (c.requires.0, over_ready a.f a.words.now a.keys.now a.tag.now (c.in_ok-leaf.was ∙ ap Ok c.in-Over.is) c.requires.1)

pub apply_new-requires : goal.apply_new-requires
apply_new-requires c = let a = c.args in
    (c.requires.0, new_ready a.f a.words.now a.keys.now a.tag.now (c.in_ok-leaf.was ∙ ap Ok c.in-New.is) c.requires.1)
