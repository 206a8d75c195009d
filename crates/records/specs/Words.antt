-- The words of a record by their names. Definitions above this crate speak of a word by its name, not by its number.
use Rattle.std.specs.Prelude.{ℕ, List, get_or, set}

-- word 0: 0 of a free record; of one in use an inner record's kind, and a leaf's 1
abbrev pub used_as : List ℕ → ℕ
used_as rec = get_or rec 0 0

-- ── an inner record ──
-- how many children it has
abbrev pub child_count : List ℕ → ℕ
child_count rec = get_or rec 1 0

-- how many bytes its whole prefix has
abbrev pub full_length : List ℕ → ℕ
full_length rec = get_or rec 2 0

-- another kind, another child count, another full length
abbrev pub with_kind : ℕ → List ℕ → List ℕ
with_kind kind rec = set rec 0 kind

abbrev pub with_count : ℕ → List ℕ → List ℕ
with_count n rec = set rec 1 n

abbrev pub with_full : ℕ → List ℕ → List ℕ
with_full n rec = set rec 2 n

-- ── a leaf ──
-- how many bytes its tag has
abbrev pub tag_length : List ℕ → ℕ
tag_length rec = get_or rec 1 0

-- the references of the leaves before and after it, 0 at the ends
abbrev pub previous_leaf : List ℕ → ℕ
previous_leaf rec = get_or rec 2 0

abbrev pub next_leaf_word : List ℕ → ℕ
next_leaf_word rec = get_or rec 3 0
