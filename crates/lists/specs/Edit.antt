-- A list with one element shifted in or out, which keeps its length, and one filled up with 0.
use Rattle.std.specs.Prelude.{ℕ, ◌-◌, List, [], ◌∷◌, ◌++◌, length, take, drop, replicate}

-- x in front, each element one place on, the last lost
abbrev pub push_in : ℕ → List ℕ → List ℕ
push_in x [] = []
push_in x (y ∷ ys) = x ∷ push_in y ys

-- the front element left out, x after the last
abbrev pub pull_out : List ℕ → ℕ → List ℕ
pull_out [] x = []
pull_out (y ∷ []) x = x ∷ []
pull_out (y ∷ z ∷ zs) x = z ∷ pull_out (z ∷ zs) x

-- x put in at `at`
unfoldable pub shift_in : ℕ → ℕ → List ℕ → List ℕ
shift_in at x s = take at s ++ push_in x (drop at s)

-- the element at `at` taken out, 0 after the last
unfoldable pub shift_out : ℕ → List ℕ → List ℕ
shift_out at s = take at s ++ pull_out (drop at s) 0

-- these, and 0 up to k places
abbrev pub padded : ℕ → List ℕ → List ℕ
padded k l = l ++ replicate (k - length l) 0
