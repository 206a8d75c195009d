-- The public calls, what each promises, and what comes of it.
use Rattle.std.specs.Prelude.{ℕ, ◌≡◌, List, Bool, true, false, not}
use Rattle.delete.specs.Answer.{Deleted}
use Rattle.insert.specs.Answer.{Inserted}
use Rattle.pools.specs.Start.{Started}
use Rattle.stations.specs.Stations.{Totalled}
use Rattle.tree.specs.Answer.{Found, LeafFacts}
use Rattle.whole.specs.Check.{Checked}
use Rattle.frames.specs.declared.frame.Caps.{Caps}
use Rattle.pools.specs.Start as start-call
use Rattle.tree.specs.Walk.{search_of, prefix_search_of}
use Rattle.tree.specs.Edge.{minimum_of, maximum_of}
use Rattle.leaves.specs.Leaf.{next_leaf_of, facts_of, tag_of}
use Rattle.whole.specs.Check as check-call
use Rattle.range.specs.Range as after_call
use Rattle.stations.specs.Stations as station-call
use Rattle.insert.specs.Insert as insert-call
use Rattle.delete.specs.Delete as delete-call

-- a question to the words and key bytes alone: the frame is tested first
pub data Query : Type 0 where
  search : (tag : List ℕ) → Query
  prefix_search : (tag : List ℕ) → Query
  minimum : Query
  maximum : Query
  next_leaf : (number : ℕ) → Query
  leaf_facts : (number : ℕ) → Query
  leaf_tag : (number : ℕ) → Query

-- a question after the whole check, which takes scratch
pub data Asked : Type 0 where
  check : Asked
  first_at_or_after : (tag : List ℕ) → Asked
  station_total : (beginning : List ℕ) → Asked

-- a change to one tag after the whole check
pub data Edit : Type 0 where
  insert : (tag : List ℕ) (total : ℕ) → Edit
  delete : (tag : List ℕ) → Edit

-- a call by what it may write: a start all words and key bytes, a query nothing, a question after the check scratch, an edit all three
pub data Call : Type 0 where
  start : (form : ℕ) (c : Caps) → Call
  query : Query → Call
  ask : Asked → Call
  edit : Edit → Call

-- the slices that are lent
pub record Slices : Type 0 where
  pub words : List ℕ
  pub keys : List ℕ
  pub scratch : List ℕ

-- what a call answers
pub data Answer : Type 0 where
  started : Started → Answer
  found : Found → Answer
  facts : LeafFacts → Answer
  tag : List ℕ → Answer
  checked : Checked → Answer
  after : Found → Answer
  totalled : Totalled → Answer
  inserted : Inserted → Answer
  deleted : Deleted → Answer

-- an answer, and the slices at exit
pub record Outcome : Type 0 where
  pub answer : Answer
  pub slices : Slices

-- this answer, with these three slices
abbrev pub outcome : Answer → (words keys scratch : List ℕ) → Outcome
outcome a w k s = record { answer = a; slices = record { words = w; keys = k; scratch = s } }

-- a call that only reads leaves its slices as they are
abbrev pub read : Answer → Slices → Outcome
read a s = record { answer = a; slices = s }

-- ── what each call answers ──
-- a query's answer
abbrev pub reply : Query → (words keys : List ℕ) → Answer
reply (search t) w k = found (search_of w k t)
reply (prefix_search t) w k = found (prefix_search_of w k t)
reply minimum w k = found (minimum_of w k)
reply maximum w k = found (maximum_of w k)
reply (next_leaf n) w k = found (next_leaf_of w k n)
reply (leaf_facts n) w k = facts (facts_of w k n)
reply (leaf_tag n) w k = tag (tag_of w k n)

-- the answer of a question after the check, by what the check found
abbrev pub given : Asked → (words keys : List ℕ) → Checked → Answer
given check w k c = checked c
given (first_at_or_after t) w k c = after (after_call.after_check w k t c)
given (station_total t) w k c = totalled (station-call.total_check w k t c)

-- the outcome of an edit
abbrev pub edited : Edit → Slices → Outcome
edited (insert t total) s =
    let o = insert-call.insert_of s.words s.keys s.scratch t total in outcome (inserted o.answer) o.words o.keys o.scratch
edited (delete t) s = let o = delete-call.delete_of s.words s.keys s.scratch t in outcome (deleted o.answer) o.words o.keys o.scratch

-- ── the one outcome ──
abbrev pub run : Call → Slices → Outcome
run (start form c) s = let o = start-call.start_of s.words s.keys form c in outcome (started o.answer) o.words o.keys s.scratch
run (query q) s = read (reply q s.words s.keys) s
run (ask a) s = let c = check-call.check_of s.words s.keys s.scratch in outcome (given a s.words s.keys c.result) s.words s.keys c.scratch
run (edit e) s = edited e s

-- the call gets to the whole check, with its frame and scratch: a question and an edit do, but for an insert whose tag is too long
abbrev pub checks : Call → Slices → Bool
checks (start form c) s = false
checks (query q) s = false
checks (ask a) s = true
checks (edit (insert t total)) s = not (insert-call.too_long s.words s.keys t)
checks (edit (delete t)) s = true

-- ── what the contracts promise, each the equation of its `ensures` ──
-- the answer and the slices that the call may change solve its equation; the other slices are as they were lent
abbrev pub Promise : Call → Slices → Outcome → Type 0
Promise (start form c) s o = (r : Started) × (o ≡ outcome (started r) o.slices.words o.slices.keys s.scratch)
    × (start-call.out r o.slices.words o.slices.keys ≡ start-call.start_of s.words s.keys form c)
Promise (query q) s o = (a : Answer) × (o ≡ read a s) × (a ≡ reply q s.words s.keys)
Promise (ask check) s o = (r : Checked) × (o ≡ outcome (checked r) s.words s.keys o.slices.scratch)
    × (check-call.answer r o.slices.scratch ≡ check-call.check_of s.words s.keys s.scratch)
Promise (ask (first_at_or_after t)) s o = (r : Found) × (o ≡ outcome (after r) s.words s.keys o.slices.scratch)
    × (after_call.answer r o.slices.scratch ≡ after_call.after_of s.words s.keys s.scratch t)
Promise (ask (station_total t)) s o = (r : Totalled) × (o ≡ outcome (totalled r) s.words s.keys o.slices.scratch)
    × (station-call.answer r o.slices.scratch ≡ station-call.total_of s.words s.keys s.scratch t)
Promise (edit (insert t total)) s o = (r : Inserted) × (o ≡ outcome (inserted r) o.slices.words o.slices.keys o.slices.scratch)
    × (insert-call.out r o.slices.words o.slices.keys o.slices.scratch ≡ insert-call.insert_of s.words s.keys s.scratch t total)
Promise (edit (delete t)) s o = (r : Deleted) × (o ≡ outcome (deleted r) o.slices.words o.slices.keys o.slices.scratch)
    × (delete-call.out r o.slices.words o.slices.keys o.slices.scratch ≡ delete-call.delete_of s.words s.keys s.scratch t)
