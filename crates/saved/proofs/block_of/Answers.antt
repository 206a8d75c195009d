-- `block_of` meets its contract: it makes the three tests of a file's length in the order of the definition.
use native.Mathlib.Omega.{arith}
use Rattle.saved.proofs.Blocks.{no_count, too_long, too_few, all_there}
use Rattle.saved.proofs.block_of.Goals as goal

pub returns-then-file-lt4 : goal.returns-then-file-lt4
returns-then-file-lt4 c = no_count _ (omega arith)

pub returns-then-file-gt-MOST : goal.returns-then-file-gt-MOST
returns-then-file-gt-MOST c = too_long _ (omega arith) (omega arith)

pub returns-then-file-n : goal.returns-then-file-n
returns-then-file-n c = too_few _ _ c.number_at-n.ensures (omega arith) (omega arith) (omega arith)

pub returns : goal.returns
returns c = all_there _ _ c.number_at-n.ensures (omega arith) (omega arith) (omega arith)
