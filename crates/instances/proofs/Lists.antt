-- The laws of lists on short ones: which elements pass, how far two runs agree, which comes first, an element shifted in or out, and a part written over.
use Prim.Native.Nat.{ℕ, zero, suc, ◌≤◌, ◌<◌}
use mathlib.Core.Path.{◌≡◌, refl}
use mathlib.Core.List.{List, [], ◌∷◌}
use mathlib.Core.Bool.{true, false}
use native.Mathlib.Omega.{arith}
use lib.ListN.{length, get_or, take}
use Rattle.lists.specs.Scan.{nonzero, all_pass, nth, rises}
use Rattle.lists.specs.Compare.{shared, less}
use Rattle.lists.specs.Edit.{shift_in, shift_out}
use Rattle.lists.specs.Part.{between, splice}
use Rattle.lists.proofs.Tests.{all_at, all_by, first_passes, first_before, past_passes, past_behind, Stands, nth_found, nth_none, rises_at, rises_lt, rises_by}
use Rattle.lists.proofs.Compares.{shared_is, shared_front, shared_differ, less_at, less_end, less_out, less_self, less_trans, less_neither}
use Rattle.lists.proofs.Edits.{shift_in_before, shift_in_at, shift_in_after, shift_out_before, shift_out_after}
use Rattle.lists.proofs.Parts.{splice_length, splice_same, splice_before, splice_after, splice_splice, splice_swap}
use Rattle.instances.specs.Blocks.{A, AB}

abbrev Ac : List ℕ
Ac = 65 ∷ 67 ∷ []

-- ── two of five elements are not 0 ──
abbrev two : List ℕ
two = 0 ∷ 7 ∷ 0 ∷ 9 ∷ 0 ∷ []

all_pass_lem : nonzero 67 ≡ true
all_pass_lem = all_at nonzero Ac refl 1 (omega arith)

none_fails : all_pass nonzero A ≡ true
none_fails = all_by nonzero A at
  where
    at : (i : ℕ) → i < 1 → nonzero (get_or A i 0) ≡ true
    at zero h = refl
    at (suc i) h = absurd (omega arith)

first_seven : nonzero 7 ≡ true
first_seven = first_passes nonzero two (omega arith)

none_before : nonzero 0 ≡ false
none_before = first_before nonzero two 0 (omega arith)

last_nine : nonzero 9 ≡ true
last_nine = past_passes nonzero two (omega arith)

none_behind : nonzero 0 ≡ false
none_behind = past_behind nonzero two 4 (omega arith) (omega arith)

second_nine : Stands nonzero 1 two 3
second_nine = nth_found nonzero 1 two (omega arith)

no_third : nth nonzero 2 two ≡ 5
no_third = nth_none nonzero 2 two (omega arith)

-- ── 1, 5, 9 ascend ──
abbrev up : List ℕ
up = 1 ∷ 5 ∷ 9 ∷ []

a_byte : (0 ≤ 5) × (5 ≤ 255)
a_byte = rises_at 0 up refl 1 (omega arith)

greater : 1 < 9
greater = rises_lt 0 up refl 0 2 (omega arith) (omega arith)

ascend : rises 0 Ac ≡ true
ascend = rises_by 0 Ac at lt
  where
    at : (i : ℕ) → i < 2 → (0 ≤ get_or Ac i 0) × (get_or Ac i 0 ≤ 255)
    at zero h = (omega arith, omega arith)
    at (suc zero) h = (omega arith, omega arith)
    at (suc (suc i)) h = absurd (omega arith)

    lt : (i j : ℕ) → i < j → j < 2 → get_or Ac i 0 < get_or Ac j 0
    lt zero zero h k = absurd (omega arith)
    lt zero (suc zero) h k = omega arith
    lt zero (suc (suc j)) h k = absurd (omega arith)
    lt (suc i) zero h k = absurd (omega arith)
    lt (suc i) (suc zero) h k = absurd (omega arith)
    lt (suc i) (suc (suc j)) h k = absurd (omega arith)

-- ── AB and Ac share one byte, and differ there ──
one_shared : shared AB Ac ≡ 1
one_shared = shared_is AB Ac 1 (omega arith) (omega arith) same (λ h k e. omega arith)
  where
    same : (i : ℕ) → i < 1 → get_or AB i 0 ≡ get_or Ac i 0
    same zero h = refl
    same (suc i) h = absurd (omega arith)

front_same : take 1 AB ≡ take 1 Ac
front_same = shared_front AB Ac

then_differ : get_or AB 1 0 ≡ get_or Ac 1 0 → ⊥
then_differ = shared_differ AB Ac (omega arith) (omega arith)

-- ── so AB comes first; A comes before AB, and AB not before A ──
by_byte : less AB Ac ≡ true
by_byte = less_at AB Ac (omega arith) (omega arith)

by_end : less A AB ≡ true
by_end = less_end A AB refl (omega arith)

not_out : less AB A ≡ false
not_out = less_out AB A refl

not_itself : less AB AB ≡ false
not_itself = less_self AB

passed_on : less A Ac ≡ true
passed_on = less_trans A AB Ac by_end by_byte

neither_first : A ≡ A
neither_first = less_neither A A refl refl

-- ── an element shifted into five, or out ──
abbrev five : List ℕ
five = 1 ∷ 2 ∷ 3 ∷ 4 ∷ 5 ∷ []

in_before : get_or (shift_in 2 9 five) 1 0 ≡ 2
in_before = shift_in_before five 2 9 (omega arith) 1 (omega arith)

in_at : get_or (shift_in 2 9 five) 2 0 ≡ 9
in_at = shift_in_at five 2 9 (omega arith) (omega arith)

in_after : get_or (shift_in 2 9 five) 3 0 ≡ 3
in_after = shift_in_after five 2 9 (omega arith) 3 (omega arith) (omega arith)

out_before : get_or (shift_out 2 five) 1 0 ≡ 2
out_before = shift_out_before five 2 (omega arith) 1 (omega arith)

out_after : get_or (shift_out 2 five) 2 0 ≡ 4
out_after = shift_out_after five 2 (omega arith) 2 (omega arith)

-- ── two of five elements written over ──
as_long : length (splice five 1 3 (8 ∷ 9 ∷ [])) ≡ 5
as_long = splice_length five 1 3 (8 ∷ 9 ∷ []) (omega arith) (omega arith) refl

later_counts : splice (splice five 1 3 (8 ∷ 9 ∷ [])) 1 3 (6 ∷ 7 ∷ []) ≡ splice five 1 3 (6 ∷ 7 ∷ [])
later_counts = splice_splice five 1 3 (8 ∷ 9 ∷ []) (omega arith) (omega arith) refl (6 ∷ 7 ∷ [])

part_same : between (splice five 1 3 (8 ∷ 9 ∷ [])) 1 3 ≡ 8 ∷ 9 ∷ []
part_same = splice_same five 1 3 (8 ∷ 9 ∷ []) (omega arith) (omega arith) refl

before_stays : between (splice five 1 3 (8 ∷ 9 ∷ [])) 0 1 ≡ 1 ∷ []
before_stays = splice_before five 1 3 (8 ∷ 9 ∷ []) (omega arith) (omega arith) refl 0 1 (omega arith) (omega arith)

after_stays : between (splice five 1 3 (8 ∷ 9 ∷ [])) 3 5 ≡ 4 ∷ 5 ∷ []
after_stays = splice_after five 1 3 (8 ∷ 9 ∷ []) (omega arith) (omega arith) refl 3 5 (omega arith)

either_first : splice (splice five 1 3 (8 ∷ 9 ∷ [])) 4 5 (7 ∷ []) ≡ splice (splice five 4 5 (7 ∷ [])) 1 3 (8 ∷ 9 ∷ [])
either_first = splice_swap five 1 3 4 5 (8 ∷ 9 ∷ []) (7 ∷ []) (omega arith) (omega arith) (omega arith) (omega arith) refl refl
