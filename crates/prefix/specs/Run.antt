-- The prefix that a run of bytes has: its whole length, and its first eight bytes; what cutting and joining prefixes gives.
use Rattle.std.specs.Prelude.{ℕ, ◌+◌, ◌-◌, min, List, ◌∷◌, ◌++◌, length, take, drop, replicate, leb}
use Rattle.lists.specs.Scan.{choose}
use Rattle.lists.specs.Part.{between}
use Rattle.prefix.specs.declared.Prefix.{Prefix}

-- of a prefix of this full length so many bytes are stored
abbrev pub capped : ℕ → ℕ
capped full = min full 8

-- the first eight, and 0 after them
abbrev pub eight : List ℕ → List ℕ
eight l = take 8 (l ++ replicate 8 0)

-- a prefix of n bytes, of which l has the first
abbrev pub of_length : ℕ → List ℕ → Prefix
of_length n l = record { full = record { 0 = n }; stored = eight l }

-- what a record keeps of a run: its length and its first eight bytes
unfoldable pub prefix_of : List ℕ → Prefix
prefix_of run = of_length (length run) run

-- the bytes that a prefix stores
abbrev pub held : Prefix → List ℕ
held p = take (capped p.full.0) p.stored

-- without the first n bytes, all of them stored
unfoldable pub ltrim_of : Prefix → ℕ → Prefix
ltrim_of p n = of_length (p.full.0 - n) (drop n (held p))

-- without the first n bytes; a prefix over eight is filled again from a leaf's tag, which has the whole of it at this depth
unfoldable pub split_of : Prefix → ℕ → List ℕ → ℕ → Prefix
split_of p n leaf depth = choose (leb p.full.0 8) (ltrim_of p n) (prefix_of (between leaf (depth + n) (depth + p.full.0)))

-- with len more bytes, of which new are the first
unfoldable pub push_of : Prefix → List ℕ → ℕ → Prefix
push_of p new len = of_length (p.full.0 + len) (held p ++ new)

-- parent prefix, child byte, child prefix: the lengths add, eight bytes stay
unfoldable pub merge_of : Prefix → ℕ → Prefix → Prefix
merge_of parent byte child = of_length (parent.full.0 + 1 + child.full.0) (held parent ++ byte ∷ held child)
