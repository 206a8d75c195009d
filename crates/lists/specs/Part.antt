-- Parts of a list, and a list with a part of it written over.
use Rattle.std.specs.Prelude.{ℕ, ◌-◌, List, ◌++◌, take, drop}

-- the elements from a up to e
abbrev pub between : List ℕ → ℕ → ℕ → List ℕ
between l a e = take (e - a) (drop a l)

-- p in the place of the elements from a up to e
unfoldable pub splice : List ℕ → ℕ → ℕ → List ℕ → List ℕ
splice l a e p = take a l ++ (p ++ drop (e - a) (drop a l))
