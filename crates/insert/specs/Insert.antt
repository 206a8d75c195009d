-- Insert: first the tag's length, then the check with its frame and scratch; on a sound block a held tag gets the new total, and a new one its leaf, unless it clashes or lacks room. A refusal leaves words and key bytes as they are.
use Rattle.std.specs.Prelude.{ℕ, ◌/◌, List, ◌≡◌, Bool, true, length, ltb, Some, None, Ok, Err}
use Rattle.refusals.specs.declared.Refusal.TheVariants.{TooLong}
use Rattle.insert.specs.declared.plan.Plan.TheVariants.{New, Over}
use Rattle.insert.specs.Answer.{Inserted}
use Rattle.insert.specs.Plan.{Planned, plan_of}
use Rattle.whole.specs.Check.{Checked}
use Rattle.lists.specs.Scan.{choose}
use Rattle.frames.specs.Form.{form_of}
use Rattle.frames.specs.Frame.{frame}
use Rattle.frames.specs.Place.{in_pool, record_at}
use Rattle.frames.specs.declared.frame.Frame.{Frame}
use Rattle.records.specs.Own.{total_of}
use Rattle.art.specs.Stores.{leaf_place}
use Rattle.whole.specs.Check as check
use Rattle.writes.specs.Leaf.{key_in, total_at}
use Rattle.insert.specs.Apply.{new_words, NewReady}

-- an answer, and the slices as the call leaves them
pub record Out : Type 0 where
  pub answer : Inserted
  pub words : List ℕ
  pub keys : List ℕ
  pub scratch : List ℕ

-- this answer, with these slices
abbrev pub out : Inserted → (words keys scratch : List ℕ) → Out
out a w k s = record { answer = a; words = w; keys = k; scratch = s }

-- the plan applied; past the check scratch is not touched again
abbrev pub planned : Frame → (words keys scratch tag : List ℕ) → ℕ → Planned → Out
planned f words keys scratch tag total (Ok (Over leaf)) =
    out (Ok (Some (total_of (record_at f words (leaf_place (leaf / 8)))))) (total_at f (leaf / 8) total words) keys scratch
planned f words keys scratch tag total (Ok (New site n gap)) = out (Ok None) (new_words f keys tag total site n gap words) (key_in f n tag keys) scratch
planned f words keys scratch tag total (Err refusal) = out (Err refusal) words keys scratch

-- what must hold for it: an overwritten leaf is one of the pool, a new one has what its writes need, a refusal asks nothing
abbrev pub PlanReady : Frame → (words keys tag : List ℕ) → Planned → Type 0
PlanReady f words keys tag (Ok (Over leaf)) = in_pool f (leaf_place (leaf / 8)) ≡ true
PlanReady f words keys tag (Ok (New site n gap)) = NewReady f words keys tag site n gap
PlanReady f words keys tag (Err refusal) = Unit {0}

-- on a block that the check found sound
unfoldable pub insert_sound : (words keys scratch tag : List ℕ) → ℕ → Out
insert_sound words keys scratch tag total =
    let f = frame words in planned f words keys scratch tag total (plan_of f words keys tag)

-- by what the check found
abbrev pub insert_by : (words keys scratch tag : List ℕ) → ℕ → Checked → Out
insert_by words keys scratch tag total (Ok tt) = insert_sound words keys scratch tag total
insert_by words keys scratch tag total (Err refusal) = out (Err refusal) words keys scratch

-- the check's answer, and scratch as the check leaves it
unfoldable pub insert_checked : (words keys tag : List ℕ) → ℕ → check.Answer → Out
insert_checked words keys tag total c = insert_by words keys c.scratch tag total c.result

-- the tag has more bytes than form 1 allows; nothing of the block is looked at for it
unfoldable pub too_long : (words keys tag : List ℕ) → Bool
too_long words keys tag = ltb (form_of 1).limit (length tag)

-- a tag that is too long is 2, before anything else is looked at; then the whole check
unfoldable pub insert_of : (words keys scratch tag : List ℕ) → ℕ → Out
insert_of words keys scratch tag total =
    choose (too_long words keys tag) (out (Err TooLong) words keys scratch) (insert_checked words keys tag total (check.check_of words keys scratch))
