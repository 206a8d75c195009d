-- First-at-or-after: after the tests for the frame, the scratch and the whole block, the first held tag that is not below the given bytes in unsigned byte order, or 1.
use Rattle.std.specs.declared.ops.ControlFlow.{ControlFlow}
use Rattle.std.specs.Prelude.{ℕ, zero, suc, ◌+◌, List, Bool, length, get_or, take, eqb, ltb, Ok, Err}
use Rattle.std.proofs.Math.Option.{Option, none, some}
use Rattle.std.specs.declared.ops.ControlFlow.TheVariants.{Continue, Break}
use Rattle.refusals.specs.declared.Refusal.TheVariants.{Damaged, Missing}
use Rattle.tree.specs.Answer.{Found}
use Rattle.whole.specs.Check.{Checked}
use Rattle.lists.specs.Scan.{choose}
use Rattle.lists.specs.Compare.{less}
use Rattle.frames.specs.Frame.{frame, first_word}
use Rattle.frames.specs.Place.{place_at, in_pool, record_at, key_at}
use Rattle.frames.specs.declared.frame.Frame.{Frame}
use Rattle.records.specs.Words.{tag_length, next_leaf_word}
use Rattle.records.specs.Own.{total_of}
use Rattle.records.specs.View.{Held}
use Rattle.art.specs.Stores.{Place, leaf_place, inner_place}
use Rattle.whole.specs.Check as check

-- ── along the leaf list ──
-- a leaf's tag comes before the given bytes in unsigned byte order
unfoldable pub below : List ℕ → List ℕ → List ℕ → Bool
below rec key tag = less (take (tag_length rec) key) tag

-- a reference to go on at along the list, or the answer
abbrev pub Step : Type 0
Step = ControlFlow Found ℕ

-- a leaf whose tag is below is passed over by its next; the first other one is the answer; a length over its key bytes is 6
unfoldable pub leaf_step : List ℕ → List ℕ → List ℕ → ℕ → Step
leaf_step rec key tag n =
    choose (ltb (length key) (tag_length rec)) (Break (Err Damaged)) (choose (below rec key tag) (Continue (next_leaf_word rec)) (Break (Ok (record { number = n; total = total_of rec }))))

-- the list is of leaves of the pool alone
abbrev pub place_step : Frame → List ℕ → List ℕ → List ℕ → Place → Step
place_step f words keys tag (leaf_place n) =
    choose (in_pool f (leaf_place n)) (leaf_step (record_at f words (leaf_place n)) (key_at f keys n) tag n) (Break (Err Damaged))
place_step f words keys tag (inner_place k n) = Break (Err Damaged)

-- and ends with 0: every tag was below, so the answer is 1
unfoldable pub step_of : Frame → List ℕ → List ℕ → List ℕ → ℕ → Step
step_of f words keys tag ref = choose (eqb ref 0) (Break (Err Missing)) (place_step f words keys tag (place_at ref))

-- from a reference on, with so many steps left
unfoldable pub after_from : Frame → List ℕ → List ℕ → List ℕ → ℕ → ℕ → Found
after_from f words keys tag zero ref = Err Damaged
after_from f words keys tag (suc left) ref = elim (step_of f words keys tag ref) [ Continue r ↦ after_from f words keys tag left r | Break a ↦ a ]

-- from the list's first, with a step for each leaf of the pool and one for the end
abbrev pub after_first : Frame → List ℕ → List ℕ → List ℕ → Found
after_first f words keys tag = after_from f words keys tag (get_or f.caps 5 0 + 1) (first_word words)

-- the answer for what the first held tag at or after holds: its leaf and total, or 1 where there is none
abbrev pub after_is : Option Held → Found
after_is none = Err Missing
after_is (some h) = Ok (record { number = h.number; total = h.total })

-- ── the call ──
-- what is found, and scratch as the call leaves it
pub record Answer : Type 0 where
  pub result : Found
  pub scratch : List ℕ

-- this answer, with this scratch
abbrev pub answer : Found → List ℕ → Answer
answer r s = record { result = r; scratch = s }

-- the whole check first; the list of a sound block, in the frame that the trailer gives, is all leaves in byte order
abbrev pub after_check : List ℕ → List ℕ → List ℕ → Checked → Found
after_check words keys tag (Ok tt) = after_first (frame words) words keys tag
after_check words keys tag (Err refusal) = Err refusal

-- scratch is left as the check leaves it
unfoldable pub after_of : List ℕ → List ℕ → List ℕ → List ℕ → Answer
after_of words keys scratch tag =
    let c = check.check_of words keys scratch in answer (after_check words keys tag c.result) c.scratch
