-- `line_of` meets its contract: what is lent as words and as key bytes are the block's, and of any other file the line is 6.
use native.Mathlib.Omega.{arith}
use Rattle.saved.proofs.Blocks.{open_fits}
use Rattle.station.proofs.Lines.{other_line, file_line}
use Rattle.station.proofs.line_of.Goals as goal

pub returns-in_default : goal.returns-in_default
returns-in_default c = other_line _ _ _ c.open.ensures c.line_as.ensures c.in_default.is

-- the file has all words of the block, and is so short that they can be counted and have room
pub overflow_mul-a : goal.overflow_mul-a
overflow_mul-a c = omega (arith, open_fits _ _ c.open.ensures c.in-Some.is)

pub overflow_add-a : goal.overflow_add-a
overflow_add-a c = omega (arith, open_fits _ _ c.open.ensures c.in-Some.is)

pub slice_bounds-block_line-end : goal.slice_bounds-block_line-end
slice_bounds-block_line-end c = omega (arith, open_fits _ _ c.open.ensures c.in-Some.is)

pub slice_bounds-block_line-count-2 : goal.slice_bounds-block_line-count-2
slice_bounds-block_line-count-2 c = (open_fits _ _ c.open.ensures c.in-Some.is).words

pub slice_bounds-block_line-start-2 : goal.slice_bounds-block_line-start-2
slice_bounds-block_line-start-2 c = (open_fits _ _ c.open.ensures c.in-Some.is).words

pub returns : goal.returns
returns c = file_line _ _ _ c.open.ensures c.in-Some.is c.block_line.ensures
