-- `block_line` meets its contract: its scratch is as many zeros as the definition has.
use Rattle.station.proofs.Lines.{total_line}
use Rattle.station.proofs.block_line.Goals as goal

pub returns : goal.returns
returns c = search total_line
