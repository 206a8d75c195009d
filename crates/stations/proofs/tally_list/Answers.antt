-- `tally_list` meets its contract: the pass begins at the reference that the trailer names, and goes on for as many leaves as it counts.
use mathlib.Core.Path.{◌∙◌}
use Rattle.tally.specs.Tally.{nothing}
use Rattle.stations.specs.Stations.{tally_from}
use Rattle.stations.proofs.tally_list.Goals as goal

pub returns : goal.returns
returns c = let b = c.args.block.now in
    c.tally_from.ensures ∙ (λ i. tally_from b.frame b.words.now b.keys.now c.args.beginning.now (c.trailer_word-leaves.ensures i) nothing (c.trailer_word-first.ensures i))
