-- Blocks with a record of kind 3, written out word by word.
use Rattle.std.specs.Prelude.{ℕ, List, [], ◌∷◌, ◌++◌, replicate, set}
use Rattle.demands.specs.Histories.{Block}
use Rattle.instances.specs.Blocks.{leaf_at, key, no_key, block}

-- the trailer with records of kinds 1, 3 and leaves alone: distances back to the pools, capacities, root, first, last, count and size
abbrev pub trailer : (d1 d3 d5 c1 c3 c5 root first last count size : ℕ) → List ℕ
trailer d1 d3 d5 c1 c3 c5 root first last count size = 1 ∷ d1 ∷ d3 ∷ d3 ∷ d5 ∷ d5 ∷ c1 ∷ 0 ∷ c3 ∷ 0 ∷ c5 ∷ root ∷ first ∷ last ∷ count ∷ size ∷ []

-- slot numbers of no byte
abbrev pub no_slots : List ℕ
no_slots = replicate 256 0

-- a record of kind 3 with so many children and no run, its slot numbers, and its references as far as they are used
abbrev pub kind_three : (children : ℕ) (slots refs rest : List ℕ) → List ℕ
kind_three n slots refs rest = (3 ∷ n ∷ 0 ∷ replicate 8 0) ++ slots ++ refs ++ rest

-- ── a record of kind 3, and three leaves ──
-- A, 7
abbrev pub alone : Block
alone = block (replicate 315 0 ++ leaf_at 0 0 7 ++ replicate 12 0 ++ trailer 333 333 18 0 1 3 5 5 5 1 349) (key 65 ++ no_key ++ no_key)

-- and B, 8: the branching has slots 1 and 2
abbrev pub branched : Block
branched =
    block
    (kind_three 2 (set (set no_slots 65 1) 66 2) (5 ∷ 13 ∷ []) (replicate 46 0) ++ leaf_at 0 13 7 ++ leaf_at 5 0 8 ++ replicate 6 0 ++ trailer 333 333 18 0 1 3 3 5 13 2 349)
    (key 65 ++ key 66 ++ no_key)

-- A, 7 in slot 1 and C, 9 in slot 3: slot 2 is unused
abbrev pub gapped : Block
gapped =
    block
    (kind_three 2 (set (set no_slots 65 1) 67 3) (5 ∷ 0 ∷ 13 ∷ []) (replicate 45 0) ++ leaf_at 0 13 7 ++ leaf_at 5 0 9 ++ replicate 6 0 ++ trailer 333 333 18 0 1 3 3 5 13 2 349)
    (key 65 ++ key 67 ++ no_key)

-- and B, 8, which has slot 2
abbrev pub mended : Block
mended =
    block
    (kind_three 3 (set (set (set no_slots 65 1) 66 2) 67 3) (5 ∷ 21 ∷ 13 ∷ []) (replicate 45 0) ++ leaf_at 0 21 7 ++ leaf_at 21 0 9 ++ leaf_at 5 13 8 ++ trailer 333 333 18 0 1 3 3 5 13 3 349)
    (key 65 ++ key 67 ++ key 66)

-- ── a record of kind 1, one of kind 3, and five leaves ──
-- A, 1, B, 2, D, 4 and E, 5: the record of kind 1 is full
abbrev pub packed : Block
packed =
    block
    ((1 ∷ 4 ∷ 0 ∷ replicate 8 0) ++ (65 ∷ 66 ∷ 68 ∷ 69 ∷ 5 ∷ 13 ∷ 21 ∷ 29 ∷ []) ++ replicate 315 0
    ++ leaf_at 0 13 1 ++ leaf_at 5 21 2 ++ leaf_at 13 29 4 ++ leaf_at 21 0 5 ++ replicate 6 0
    ++ trailer 364 345 30 1 1 5 1 5 29 4 380)
    (key 65 ++ key 66 ++ key 68 ++ key 69 ++ no_key)

-- and C, 3: the four that moved have slots 1 to 4 in byte order, and C has slot 5
abbrev pub unpacked : Block
unpacked =
    block
    (replicate 19 0
    ++ kind_three 5 (set (set (set (set (set no_slots 65 1) 66 2) 68 3) 69 4) 67 5) (5 ∷ 13 ∷ 21 ∷ 29 ∷ 37 ∷ []) (replicate 43 0)
    ++ leaf_at 0 13 1 ++ leaf_at 5 37 2 ++ leaf_at 37 29 4 ++ leaf_at 21 0 5 ++ leaf_at 13 21 3
    ++ trailer 364 345 30 1 1 5 3 5 29 5 380)
    (key 65 ++ key 66 ++ key 68 ++ key 69 ++ key 67)
