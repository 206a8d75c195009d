-- Delete: frame 6, 7, whole check 6, 1. A refusal changes no word and no key byte.
use Rattle.std.specs.Prelude.{ℕ, List, Ok, Err}
use Rattle.delete.specs.Answer.{Deleted}
use Rattle.delete.specs.Plan.{Planned, plan_of}
use Rattle.whole.specs.Check.{Checked}
use Rattle.frames.specs.Frame.{frame}
use Rattle.frames.specs.Place.{record_at}
use Rattle.frames.specs.declared.frame.Frame.{Frame}
use Rattle.records.specs.Own.{total_of}
use Rattle.art.specs.Stores.{leaf_place}
use Rattle.whole.specs.Check as check
use Rattle.writes.specs.Leaf.{key_out}
use Rattle.delete.specs.Apply.{gone_words, TakeReady}

-- an answer, and the slices as the call leaves them
pub record Out : Type 0 where
  pub answer : Deleted
  pub words : List ℕ
  pub keys : List ℕ
  pub scratch : List ℕ

-- this answer, with these slices
abbrev pub out : Deleted → (words keys scratch : List ℕ) → Out
out a w k s = record { answer = a; words = w; keys = k; scratch = s }

-- the plan applied; past the check scratch is not touched again
abbrev pub planned : Frame → (words keys scratch : List ℕ) → Planned → Out
planned f words keys scratch (Ok plan) = out (Ok (total_of (record_at f words (leaf_place plan.leaf)))) (gone_words f plan.cut plan.leaf plan.gap words) (key_out f plan.leaf keys) scratch
planned f words keys scratch (Err refusal) = out (Err refusal) words keys scratch

-- what must hold for it: a leaf that is taken out has what its writes need, a refusal asks nothing
abbrev pub PlanReady : Frame → List ℕ → Planned → Type 0
PlanReady f words (Ok plan) = TakeReady f words plan.cut plan.leaf plan.gap
PlanReady f words (Err refusal) = Unit {0}

-- on a block that the check found sound
unfoldable pub delete_sound : (words keys scratch tag : List ℕ) → Out
delete_sound words keys scratch tag = let f = frame words in planned f words keys scratch (plan_of f words keys tag)

-- by what the check found
abbrev pub delete_by : (words keys scratch tag : List ℕ) → Checked → Out
delete_by words keys scratch tag (Ok tt) = delete_sound words keys scratch tag
delete_by words keys scratch tag (Err refusal) = out (Err refusal) words keys scratch

-- the check's answer, and scratch as the check leaves it
unfoldable pub delete_checked : (words keys tag : List ℕ) → check.Answer → Out
delete_checked words keys tag c = delete_by words keys c.scratch tag c.result

-- the whole check first
unfoldable pub delete_of : (words keys scratch tag : List ℕ) → Out
delete_of words keys scratch tag = delete_checked words keys tag (check.check_of words keys scratch)
