-- Is a tag held, does it clash with a held one, or is it free to go in.
use Rattle.std.proofs.Math.Logic.{ite}
use Rattle.std.specs.Prelude.{[], ◌∷◌, ℕ}
use Rattle.std.proofs.Math.Decide.{ℕ_discrete}
use Rattle.art.specs.Tags.{Tag, Listing}
use Rattle.art.specs.Trees.{Tree, leaf, inner, Row, end, child}
use Rattle.art.specs.Changes.{Meet, same, short, long, part, meet}

-- held, in a clash, or free
pub data Verdict : Type 0 where
  known clash free : Verdict

-- on two tags: held where they are equal, a clash where one begins the other
abbrev pub verdict : {s t : Tag} → Meet s t → Verdict
verdict (same e) = known
verdict (short y v e) = clash
verdict (long x u e) = clash
verdict (part c x u y v i j ne) = free

-- the graver of two
abbrev pub graver : Verdict → Verdict → Verdict
graver known w = known
graver clash known = known
graver clash clash = clash
graver clash free = clash
graver free w = w

-- at a record: a clash where the tag ends within the run or with it, free where it parts from it, else by the next byte
abbrev pub judge_inner : {s run : Tag} → Meet s run → (ℕ → Tag → Verdict) → Verdict
judge_inner (same e) rec = clash
judge_inner (short y v e) rec = clash
judge_inner (long x u e) rec = rec x u
judge_inner (part c x u y v i j ne) rec = free

module _ {A : Type 0} where
  -- ── on a listing ──
  -- the gravest verdict over all held tags
  abbrev pub judge : Tag → Listing A → Verdict
  judge s [] = free
  judge s (e ∷ l) = graver (verdict (meet s e.0)) (judge s l)

  -- ── on a tree ──
  -- by a walk over the tree
  abbrev mutual
    pub judge_tree : Tree A → Tag → Verdict
    judge_tree (leaf n rest a) s = verdict (meet s rest)
    judge_tree (inner k n run r) s = judge_inner (meet s run) (λ x u. judge_row r x u)

    -- by the child for x; where there is none the tag is free
    pub judge_row : Row A → ℕ → Tag → Verdict
    judge_row end x u = free
    judge_row (child c t r) x u = ite (ℕ_discrete x c) (judge_tree t u) (judge_row r x u)
