-- `check::whole_anew` meets its contract: the marks are cleared first, and keep their number.
use Rattle.whole.proofs.Calls.{clean_by, clean_long}
use Rattle.whole.proofs.check.whole_anew.Goals as goal

pub returns : goal.returns
returns c = let b = c.args.block.now in
    let cleared = c.fill.ensures.after (λ y e. e) in
    (clean_by b.frame c.requires cleared b.words.now b.keys.now c.whole.ensures.0, clean_long b.frame c.requires cleared c.whole.ensures.1)
