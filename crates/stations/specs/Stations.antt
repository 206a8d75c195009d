-- Station total: after the tests for the frame, the scratch and the whole block, how many held tags begin with the given bytes, and the sum of their totals.
use Rattle.refusals.specs.Refusal.{number_in}
use Rattle.refusals.specs.declared.Refusal.{Refusal}
use Rattle.std.specs.Prelude.{ℕ, zero, suc, ◌^◌, ◌/◌, ◌%◌, List, Bool, false, length, take, ltb, Ok, Err, Result}
use Rattle.whole.specs.Check.{Checked}
use Rattle.lists.specs.Scan.{choose}
use Rattle.lists.specs.Compare.{begins}
use Rattle.frames.specs.Frame.{frame, first_word, count_word}
use Rattle.frames.specs.Place.{place_at, in_pool, record_at, key_at}
use Rattle.frames.specs.declared.frame.Frame.{Frame}
use Rattle.records.specs.Words.{tag_length, next_leaf_word}
use Rattle.records.specs.Own as own
use Rattle.art.specs.Tags.{Listing}
use Rattle.art.specs.Listings.{added_up}
use Rattle.art.specs.Stores.{Place, leaf_place, inner_place}
use Rattle.tally.specs.declared.Tally.{Tally}
use Rattle.tally.specs.Tally.{added_of, nothing}
use Rattle.whole.specs.Check as check
use Rattle.stations.specs.declared.Entry.{Entry}

-- ── what is asked ──
-- of a listing of totals: how many there are, and their sum, its part below 2 ^ 64 and how often 2 ^ 64 is in it
abbrev pub tally_is : Listing ℕ → Tally
tally_is l = record { count = length l; low = added_up l % 2 ^ 64; carries = added_up l / 2 ^ 64 }

-- ── along the leaf list ──
-- a leaf's tag begins with the given bytes; one that is longer than its key bytes does not
unfoldable pub starts_so : (rec key bytes : List ℕ) → Bool
starts_so rec key bytes = choose (ltb (length key) (tag_length rec)) false (begins bytes (take (tag_length rec) key))

-- what a leaf adds, and what comes after it
unfoldable pub leaf_entry : (rec key bytes : List ℕ) → Entry
leaf_entry rec key bytes = record { counts = starts_so rec key bytes; total = own.total_of rec; next = next_leaf_word rec }

-- where there is no leaf nothing is added, and nothing comes after
abbrev pub no_entry : Entry
no_entry = record { counts = false; total = 0; next = 0 }

-- the list is of leaves of the pool alone
abbrev pub place_entry : Frame → (words keys bytes : List ℕ) → Place → Entry
place_entry f words keys bytes (leaf_place n) = choose (in_pool f (leaf_place n)) (leaf_entry (record_at f words (leaf_place n)) (key_at f keys n) bytes) no_entry
place_entry f words keys bytes (inner_place k n) = no_entry

-- by its reference
unfoldable pub entry_of : Frame → (words keys bytes : List ℕ) → ℕ → Entry
entry_of f words keys bytes ref = place_entry f words keys bytes (place_at ref)

-- an entry that begins so is added to the tally
unfoldable pub tally_one : Tally → Entry → Tally
tally_one t e = choose e.counts (added_of t e.total) t

-- from a reference on, so many leaves
unfoldable pub tally_from : Frame → (words keys bytes : List ℕ) → (left : ℕ) → Tally → ℕ → Tally
tally_from f words keys bytes zero t ref = t
tally_from f words keys bytes (suc left) t ref = let e = entry_of f words keys bytes ref in tally_from f words keys bytes left (tally_one t e) e.next

-- from the list's first, as many as the trailer counts
abbrev pub tally_list : Frame → (words keys bytes : List ℕ) → Tally
tally_list f words keys bytes = tally_from f words keys bytes (count_word words) nothing (first_word words)

-- in the frame that the trailer gives
abbrev pub tally_of : (words keys bytes : List ℕ) → Tally
tally_of words keys bytes = tally_list (frame words) words keys bytes

-- ── the call ──
-- the tally of the tags that begin so, or why there is none
abbrev pub Totalled : Type 0
Totalled = Result Tally Refusal

-- what is found, and scratch as the call leaves it
pub record Answer : Type 0 where
  pub result : Totalled
  pub scratch : List ℕ

-- this answer, with this scratch
abbrev pub answer : Totalled → List ℕ → Answer
answer r s = record { result = r; scratch = s }

-- 0 done, 6 damaged block, 7 scratch too short
abbrev pub number_of : Totalled → ℕ
number_of a = number_in a

-- the tally; nothing on a refusal
abbrev pub tally_in : Totalled → Tally
tally_in (Ok t) = t
tally_in (Err refusal) = nothing

-- the whole check first; the list of a sound block is all leaves, each once
abbrev pub total_check : (words keys bytes : List ℕ) → Checked → Totalled
total_check words keys bytes (Ok tt) = Ok (tally_of words keys bytes)
total_check words keys bytes (Err refusal) = Err refusal

-- scratch is left as the check leaves it
unfoldable pub total_of : (words keys scratch bytes : List ℕ) → Answer
total_of words keys scratch bytes = let c = check.check_of words keys scratch in answer (total_check words keys bytes c.result) c.scratch
