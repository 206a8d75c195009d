-- The calls on a leaf number: the next leaf; a leaf's length and total; its tag.
use Rattle.refusals.specs.declared.Refusal.{Refusal}
use Rattle.std.specs.Prelude.{ℕ, List, [], ◌&&◌, take, eqb, Ok, Err, Result}
use Rattle.refusals.specs.declared.Refusal.TheVariants.{Damaged, Missing, NotInUse}
use Rattle.tree.specs.Answer.{Found, LeafFacts, leaf_found, facts_here}
use Rattle.lists.specs.Scan.{choose}
use Rattle.frames.specs.Place.{place_at, in_pool, start_at, record_at, key_at}
use Rattle.records.specs.Words.{used_as, tag_length, next_leaf_word}
use Rattle.records.specs.View.{rule_at}
use Rattle.frames.specs.declared.frame.Frame.{Frame}
use Rattle.art.specs.Stores.{Place, leaf_place, inner_place}
use Rattle.tree.specs.Arrive.{with_frame}

-- the first word of a leaf that obeys its rule, or why there is none
abbrev pub LeafState : Type 0
LeafState = Result ℕ Refusal

-- 9 for a number outside the pool or a leaf that is not in use, then 6 by the leaf's own rule
unfoldable pub leaf_state : Frame → List ℕ → List ℕ → ℕ → LeafState
leaf_state f words keys n =
    choose (in_pool f (leaf_place n))
    (choose (eqb (used_as (record_at f words (leaf_place n))) 0) (Err NotInUse)
    (choose (rule_at f words keys (leaf_place n)) (Ok (start_at f (leaf_place n))) (Err Damaged)))
    (Err NotInUse)

-- ── the next leaf ──
-- a leaf of the pool that is in use, or 6
abbrev pub next_at : Frame → List ℕ → Place → Found
next_at f words (leaf_place n) =
    let rec = record_at f words (leaf_place n) in choose (in_pool f (leaf_place n) && eqb (used_as rec) 1) (leaf_found n rec) (Err Damaged)
next_at f words (inner_place k n) = Err Damaged

-- 1 at the end of the list
unfoldable pub next_of : Frame → List ℕ → ℕ → Found
next_of f words ref = choose (eqb ref 0) (Err Missing) (next_at f words (place_at ref))

-- by word 3 of a leaf that obeys its rule; any other is 6 or 9
abbrev pub next_from : Frame → List ℕ → ℕ → LeafState → Found
next_from f words n (Ok start) = next_of f words (next_leaf_word (record_at f words (leaf_place n)))
next_from f words n (Err refusal) = Err refusal

-- 6 for the frame, 9 for the number, 6 for the leaf, then by its next
abbrev pub next_leaf_of : List ℕ → List ℕ → ℕ → Found
next_leaf_of words keys n = with_frame words keys (λ f. next_from f words n (leaf_state f words keys n)) (Err Damaged)

-- ── length and total ──
-- of a leaf that obeys its rule; any other is 6 or 9
abbrev pub facts_from : List ℕ → LeafState → LeafFacts
facts_from rec (Ok start) = Ok (facts_here rec)
facts_from rec (Err refusal) = Err refusal

-- 6 for the frame, 9 for the number, 6 for the leaf
abbrev pub facts_of : List ℕ → List ℕ → ℕ → LeafFacts
facts_of words keys n = with_frame words keys (λ f. facts_from (record_at f words (leaf_place n)) (leaf_state f words keys n)) (Err Damaged)

-- ── the tag ──
-- as many bytes as the leaf's record says, and none on a refusal
abbrev pub len_from : List ℕ → LeafState → ℕ
len_from rec (Ok start) = tag_length rec
len_from rec (Err refusal) = 0

-- so many of leaf n
unfoldable pub tag_len : Frame → List ℕ → List ℕ → ℕ → ℕ
tag_len f words keys n = len_from (record_at f words (leaf_place n)) (leaf_state f words keys n)

-- the same tests: a frame that does not fit, a number that is none and a broken leaf all give no bytes
abbrev pub tag_of : List ℕ → List ℕ → ℕ → List ℕ
tag_of words keys n = with_frame words keys (λ f. take (tag_len f words keys n) (key_at f keys n)) []
