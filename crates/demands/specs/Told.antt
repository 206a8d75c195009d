-- What an answer tells, beside its number: values that are 0 where it has none.
use Rattle.std.specs.Prelude.{ℕ, ◌+◌, ◌*◌, ◌^◌, List, [], length}
use Rattle.pools.specs.Start.{start_number}
use Rattle.tree.specs.Answer.{found_number, found_leaf, found_total, facts_number, facts_length, facts_total}
use Rattle.whole.specs.Check as check
use Rattle.stations.specs.Stations as stations
use Rattle.insert.specs.Answer as insert
use Rattle.delete.specs.Answer as delete
use Rattle.demands.specs.Calls.{Call, Slices, run, Answer, started, found, facts, tag, checked, after, totalled, inserted, deleted}

-- all that an answer tells: its number, and values that are 0 or empty where it has none
pub record Told : Type 0 where
  pub number : ℕ
  pub leaf : ℕ
  pub length : ℕ
  pub total : ℕ
  pub count : ℕ
  pub carries : ℕ
  pub tag : List ℕ

-- a number, and no value
abbrev pub only : ℕ → Told
only n = record { number = n; leaf = 0; length = 0; total = 0; count = 0; carries = 0; tag = [] }

-- with a total
abbrev pub with_total : ℕ → Told → Told
with_total n t = record { number = t.number; leaf = t.leaf; length = t.length; total = n; count = t.count; carries = t.carries; tag = t.tag }

-- with a count
abbrev pub with_count : ℕ → Told → Told
with_count n t = record { number = t.number; leaf = t.leaf; length = t.length; total = t.total; count = n; carries = t.carries; tag = t.tag }

-- with carries, each of them 2 ^ 64 beside the total
abbrev pub with_carries : ℕ → Told → Told
with_carries n t = record { number = t.number; leaf = t.leaf; length = t.length; total = t.total; count = t.count; carries = n; tag = t.tag }

-- the sum that total and carries stand for
abbrev pub summed : Told → ℕ
summed t = t.carries * 2 ^ 64 + t.total

-- with a leaf
abbrev pub with_leaf : ℕ → Told → Told
with_leaf n t = record { number = t.number; leaf = n; length = t.length; total = t.total; count = t.count; carries = t.carries; tag = t.tag }

-- with a length
abbrev pub with_length : ℕ → Told → Told
with_length n t = record { number = t.number; leaf = t.leaf; length = n; total = t.total; count = t.count; carries = t.carries; tag = t.tag }

-- with a tag, and its length
abbrev pub with_tag : List ℕ → Told → Told
with_tag b t = record { number = t.number; leaf = t.leaf; length = length b; total = t.total; count = t.count; carries = t.carries; tag = b }

-- by the kind of answer: a tag comes with 0 for the number that it has not
abbrev pub told_by : Answer → Told
told_by (started a) = only (start_number a)
told_by (found a) = with_leaf (found_leaf a) (with_total (found_total a) (only (found_number a)))
told_by (facts a) = with_length (facts_length a) (with_total (facts_total a) (only (facts_number a)))
told_by (tag b) = with_tag b (only 0)
told_by (checked a) = only (check.number_of a)
told_by (after a) = with_leaf (found_leaf a) (with_total (found_total a) (only (found_number a)))
told_by (totalled a) = let t = stations.tally_in a in with_count t.count (with_carries t.carries (with_total t.low (only (stations.number_of a))))
told_by (inserted a) = with_total (insert.total_in a) (only (insert.number_of a))
told_by (deleted a) = with_total (delete.total_in a) (only (delete.number_of a))

-- the number that a call gives back; the one that gives a tag gives none, for which 0 stands
abbrev pub number : Call → Slices → ℕ
number c s = (told_by (run c s).answer).number
