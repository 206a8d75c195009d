use mathlib.Core.Path.{refl}
use native.Mathlib.Omega.{arith}
use lib.ListN.{length}
use Rattle.lists.proofs.Built.{built_start, built_on, built_end}
use Rattle.saved.specs.Saved.{words_of}
use Rattle.saved.proofs.Blocks.{numbers_length, number_at_lem}
use Rattle.saved.proofs.take_words.Goals as goal

pub loop-i-init : goal.loop-i-init
loop-i-init c = built_start refl

pub loop-i-preserved : goal.loop-i-preserved
loop-i-preserved c = built_on c.loop-i.invariant _ c.number_at.ensures (omega arith)

pub shape_of-words : goal.shape_of-words
shape_of-words c = c.loop-i.invariant.long

pub returns : goal.returns
returns c = let n = length c.args.words.now in
    let file = c.args.file.now in
    built_end c.loop-i.invariant (omega arith) (words_of file n) (numbers_length file 4 n) (number_at_lem file 4 n)
