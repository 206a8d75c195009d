-- `after_first` meets its contract: at each turn the walk from here answers what the walk from the list's first does.
use Prim.Native.Nat.{◌+◌, ◌-◌}
use mathlib.Core.Path.{◌≡◌}
use Rattle.range.specs.Range.{after_from, after_first}
use Rattle.range.proofs.after_first.Given as goal

abbrev pub invariant-loop : goal.invariant-loop
invariant-loop l = let b = l.block in
    after_first b.frame b.words.now b.keys.now l.tag ≡ after_from b.frame b.words.now b.keys.now l.tag (l.end + 1 - l.counter) l.reference
