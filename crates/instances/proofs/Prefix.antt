-- A run of ten bytes, of which eight are stored: cut, joined again, and compared with tags.
use Prim.Native.Nat.{ℕ, ◌<◌, ◌+◌}
use mathlib.Core.Path.{◌≡◌, refl}
use mathlib.Core.List.{[], ◌∷◌, ◌++◌}
use native.Mathlib.Omega.{arith}
use lib.ListN.{length, take, drop}
use Rattle.lists.specs.Compare.{shared}
use Rattle.prefix.specs.Run.{prefix_of, split_of, merge_of}
use Rattle.prefix.specs.Match.{match_of}
use Rattle.prefix.specs.declared.lookup.PrefixMatchBehavior.TheVariants.{Pessimistic, Optimistic}
use Rattle.prefix.specs.declared.lookup.PrefixMatch.TheVariants.{On}
use Rattle.prefix.proofs.Runs.{split_run, merge_run}
use Rattle.prefix.proofs.Matches.{match_within, run_has, run_whole, run_off}
use Rattle.instances.specs.Opened.{opened}
use Rattle.instances.specs.Blocks.{AtoJ, CtoJ}

-- ── cut after AB, and filled again from a leaf: the two bytes that were not stored are I and J ──
split : split_of (prefix_of AtoJ) 2 (AtoJ ++ 49 ∷ []) 0 ≡ prefix_of CtoJ
split = split_run AtoJ 2 (AtoJ ++ 49 ∷ []) 0 (omega arith) refl

-- A, B and CDEFGHIJ joined
merge : merge_of (prefix_of (65 ∷ [])) 66 (prefix_of CtoJ) ≡ prefix_of AtoJ
merge = merge_run (65 ∷ []) 66 CtoJ

-- ── compared ──
-- past a tag that has the run and a byte after it, with two bytes skipped
past_long : match_of (prefix_of AtoJ) (AtoJ ++ 49 ∷ []) 0 Pessimistic ≡ On 10 Optimistic
past_long = run_has AtoJ (AtoJ ++ 49 ∷ []) 0 refl (omega arith)

-- past a run of eight: the tag has it all, and a byte more
past_eight : take 8 (drop 2 (AtoJ ++ 49 ∷ [])) ≡ CtoJ
unfolding opened
past_eight = (run_whole CtoJ (AtoJ ++ 49 ∷ []) 2 {d = 10} {after = Pessimistic} (omega arith) refl).0

within : (◌≡◌ {A = ℕ} 10 (2 + 8)) × (10 < length (AtoJ ++ 49 ∷ []))
unfolding opened
within = match_within (prefix_of CtoJ) (AtoJ ++ 49 ∷ []) 2 Pessimistic {after = Pessimistic} refl

-- AX leaves the run after A
off : ◌≡◌ {A = ℕ} 1 (shared (take 8 AtoJ) (65 ∷ 88 ∷ []))
unfolding opened
off = run_off AtoJ (65 ∷ 88 ∷ []) 0 refl
