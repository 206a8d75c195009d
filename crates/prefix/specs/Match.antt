-- A prefix in the walk: what comparing it with a tag at a depth gives.
use Rattle.std.specs.Prelude.{ℕ, ◌+◌, List, Bool, ◌&&◌, length, drop, leb, ltb}
use Rattle.lists.specs.Scan.{choose}
use Rattle.lists.specs.Compare.{shared}
use Rattle.prefix.specs.Run.{capped, held}
use Rattle.prefix.specs.declared.Prefix.{Prefix}
use Rattle.prefix.specs.declared.lookup.PrefixMatchBehavior.{PrefixMatchBehavior}
use Rattle.prefix.specs.declared.lookup.PrefixMatchBehavior.TheVariants.{Pessimistic, Optimistic}
use Rattle.prefix.specs.declared.lookup.PrefixMatch.{PrefixMatch}
use Rattle.prefix.specs.declared.lookup.PrefixMatch.TheVariants.{On, Off}

-- a tag of len bytes has enough for the prefix and for one byte after it
abbrev pub room_for : ℕ → ℕ → ℕ → Bool
room_for full len depth = ltb (depth + full) len

-- how many of the stored bytes are the tag's from this depth on
abbrev pub stored_shared : Prefix → List ℕ → ℕ → ℕ
stored_shared p tag depth = shared (held p) (drop depth tag)

-- passing a prefix over eight skips bytes
abbrev pub afterwards : ℕ → PrefixMatchBehavior
afterwards full = choose (ltb 8 full) Optimistic Pessimistic

-- once bytes were skipped only lengths are compared
unfoldable pub length_match : ℕ → ℕ → ℕ → PrefixMatch
length_match full len depth = choose (room_for full len depth) (On (depth + full) Optimistic) (Off 0)

-- while every prefix so far was fully stored, the stored bytes are compared too
unfoldable pub match_of : Prefix → List ℕ → ℕ → PrefixMatchBehavior → PrefixMatch
match_of p tag depth Optimistic = length_match p.full.0 (length tag) depth
match_of p tag depth Pessimistic =
    choose (leb (capped p.full.0) (stored_shared p tag depth) && room_for p.full.0 (length tag) depth)
    (On (depth + p.full.0) (afterwards p.full.0))
    (Off (stored_shared p tag depth))
