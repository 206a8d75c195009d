-- `well_formed::row_end` meets its contract: 0 is no witness.
use Rattle.whole.proofs.Turns.{row_none, row_some}
use Rattle.whole.proofs.well_formed.row_end.Goals as goal

pub returns-then-w-eq0 : goal.returns-then-w-eq0
returns-then-w-eq0 c = row_none c.args.w c.args.s c.if-w-eq0.true

pub returns : goal.returns
returns c = row_some c.args.w c.args.s c.if-w-eq0.false
