-- A leaf's six words.
use Rattle.std.specs.Prelude.{ℕ, ◌/◌, ◌%◌, ◌^◌, List, [], ◌∷◌, set}

-- in use, the length of the tag, the leaves before and after, and the total's two halves, the low one first
unfoldable pub leaf_words : ℕ → ℕ → ℕ → ℕ → List ℕ
leaf_words len previous next total = 1 ∷ len ∷ previous ∷ next ∷ (total % 2 ^ 32) ∷ (total / 2 ^ 32) ∷ []

-- another total: words 4 and 5
unfoldable pub set_total : ℕ → List ℕ → List ℕ
set_total total rec = set (set rec 4 (total % 2 ^ 32)) 5 (total / 2 ^ 32)
