-- Small blocks, written out word by word.
use Rattle.std.specs.Prelude.{ℕ, ◌≡◌, List, [], ◌∷◌, ◌++◌, replicate, set}
use Rattle.frames.specs.declared.frame.Caps.{Caps}
use Rattle.records.specs.View.{Held}
use Rattle.art.specs.Tags.{Tag, Listing}
use Rattle.art.specs.Trees.{Tree, leaf, inner, child, end}
use Rattle.art.specs.Deletes.{held}
use Rattle.whole.specs.Sound.{Sound}
use Rattle.whole.proofs.Samples.{two_words, two_keys, broken_words}
use Rattle.writes.specs.declared.leaf_node.Gap.{Gap}
use Rattle.demands.specs.Calls.{Slices}
use Rattle.demands.specs.Histories.{Block}

-- ── parts ──
-- a leaf in use with a tag of one byte
abbrev pub leaf_at : (previous next total : ℕ) → List ℕ
leaf_at p n total = 1 ∷ 1 ∷ p ∷ n ∷ total ∷ 0 ∷ []

-- the trailer: distances back to the pools, capacities, root, first, last, count and size; kinds 3 and 4 have no record
abbrev pub trailer : (d1 d2 d5 c1 c2 c5 root first last count size : ℕ) → List ℕ
trailer d1 d2 d5 c1 c2 c5 root first last count size = 1 ∷ d1 ∷ d2 ∷ d5 ∷ d5 ∷ d5 ∷ c1 ∷ c2 ∷ 0 ∷ 0 ∷ c5 ∷ root ∷ first ∷ last ∷ count ∷ size ∷ []

-- the key bytes of a tag of one byte
abbrev pub key : ℕ → List ℕ
key b = b ∷ replicate 63 0

-- those of a free leaf
abbrev pub no_key : List ℕ
no_key = replicate 64 0

-- these words and key bytes
abbrev pub block : (words keys : List ℕ) → Block
block w k = record { words = w; keys = k }

-- no word at all
abbrev pub nothing : Block
nothing = block [] []

-- ── one record of kind 1 and two leaves ──
-- nothing held
abbrev pub bare : Block
bare = block (replicate 31 0 ++ trailer 31 12 12 1 0 2 0 0 0 0 47) (no_key ++ no_key)

-- A, 7
abbrev pub spare : Block
spare = block (replicate 19 0 ++ leaf_at 0 0 7 ++ replicate 6 0 ++ trailer 31 12 12 1 0 2 5 5 5 1 47) (key 65 ++ no_key)

-- A, 7 and B, 8: no leaf and no record is free
abbrev pub two : Block
two = block two_words two_keys

-- the same where B came first
abbrev pub swapped : Block
swapped =
    block
    ((1 ∷ 2 ∷ 0 ∷ replicate 8 0) ++ (65 ∷ 66 ∷ 0 ∷ 0 ∷ 13 ∷ 5 ∷ 0 ∷ 0 ∷ []) ++ leaf_at 13 0 8 ++ leaf_at 0 5 7
    ++ trailer 31 12 12 1 0 2 1 13 5 2 47)
    (key 66 ++ key 65)

-- A and B with totals that add up to 2 ^ 64
abbrev pub carried : Block
carried =
    block
    ((1 ∷ 2 ∷ 0 ∷ replicate 8 0) ++ (65 ∷ 66 ∷ 0 ∷ 0 ∷ 5 ∷ 13 ∷ 0 ∷ 0 ∷ []) ++ (1 ∷ 1 ∷ 0 ∷ 13 ∷ 4294967295 ∷ 4294967295 ∷ []) ++ leaf_at 5 0 1
    ++ trailer 31 12 12 1 0 2 1 5 13 2 47)
    (key 65 ++ key 66)

-- its second leaf's previous is wrong
abbrev pub broken : Block
broken = block broken_words two_keys

-- its first leaf has a length of 65
abbrev pub overlong : Block
overlong = block (set two_words 20 65) two_keys

-- its first leaf has a next reference that names no leaf
abbrev pub astray : Block
astray = block (set two_words 22 21) two_keys

-- its root reference names no record of the pool
abbrev pub afar : Block
afar = block (set two_words 42 9) two_keys

-- its record is its own child for A
abbrev pub ring : Block
ring = block (set two_words 15 1) two_keys

-- ── two leaves, and no inner record ──
-- A, 7
abbrev pub lone : Block
lone = block (leaf_at 0 0 7 ++ replicate 6 0 ++ trailer 12 12 12 0 0 2 5 5 5 1 28) (key 65 ++ no_key)

-- ── a record of kind 1, one of kind 2, and three leaves ──
-- A, 7 and B, 8
abbrev pub room : Block
room =
    block
    ((1 ∷ 2 ∷ 0 ∷ replicate 8 0) ++ (65 ∷ 66 ∷ 0 ∷ 0 ∷ 5 ∷ 13 ∷ 0 ∷ 0 ∷ []) ++ replicate 43 0
    ++ leaf_at 0 13 7 ++ leaf_at 5 0 8 ++ replicate 6 0
    ++ trailer 80 61 18 1 1 3 1 5 13 2 96)
    (key 65 ++ key 66 ++ no_key)

-- and C, 9
abbrev pub three : Block
three =
    block
    ((1 ∷ 3 ∷ 0 ∷ replicate 8 0) ++ (65 ∷ 66 ∷ 67 ∷ 0 ∷ 5 ∷ 13 ∷ 21 ∷ 0 ∷ []) ++ replicate 43 0
    ++ leaf_at 0 13 7 ++ leaf_at 5 21 8 ++ leaf_at 13 0 9
    ++ trailer 80 61 18 1 1 3 1 5 21 3 96)
    (key 65 ++ key 66 ++ key 67)

-- ── a record of kind 1, one of kind 2, and five leaves ──
-- A, 1 to D, 4: the record of kind 1 is full
abbrev pub full : Block
full =
    block
    ((1 ∷ 4 ∷ 0 ∷ replicate 8 0) ++ (65 ∷ 66 ∷ 67 ∷ 68 ∷ 5 ∷ 13 ∷ 21 ∷ 29 ∷ []) ++ replicate 43 0
    ++ leaf_at 0 13 1 ++ leaf_at 5 21 2 ++ leaf_at 13 29 3 ++ leaf_at 21 0 4 ++ replicate 6 0
    ++ trailer 92 73 30 1 1 5 1 5 29 4 108)
    (key 65 ++ key 66 ++ key 67 ++ key 68 ++ no_key)

-- and E, 5: the record is of kind 2
abbrev pub wide : Block
wide =
    block
    (replicate 19 0
    ++ (2 ∷ 5 ∷ 0 ∷ replicate 8 0) ++ (65 ∷ 66 ∷ 67 ∷ 68 ∷ 69 ∷ replicate 11 0) ++ (5 ∷ 13 ∷ 21 ∷ 29 ∷ 37 ∷ replicate 11 0)
    ++ leaf_at 0 13 1 ++ leaf_at 5 21 2 ++ leaf_at 13 29 3 ++ leaf_at 21 37 4 ++ leaf_at 29 0 5
    ++ trailer 92 73 30 1 1 5 2 5 37 5 108)
    (key 65 ++ key 66 ++ key 67 ++ key 68 ++ key 69)

-- ── a record of kind 2, and five leaves ──
-- the same five tags: no record of kind 1 is there to move to
abbrev pub cramped : Block
cramped =
    block
    ((2 ∷ 5 ∷ 0 ∷ replicate 8 0) ++ (65 ∷ 66 ∷ 67 ∷ 68 ∷ 69 ∷ replicate 11 0) ++ (5 ∷ 13 ∷ 21 ∷ 29 ∷ 37 ∷ replicate 11 0)
    ++ leaf_at 0 13 1 ++ leaf_at 5 21 2 ++ leaf_at 13 29 3 ++ leaf_at 21 37 4 ++ leaf_at 29 0 5
    ++ trailer 73 73 30 0 1 5 2 5 37 5 89)
    (key 65 ++ key 66 ++ key 67 ++ key 68 ++ key 69)

-- and without E
abbrev pub cramped_less : Block
cramped_less =
    block
    ((2 ∷ 4 ∷ 0 ∷ replicate 8 0) ++ (65 ∷ 66 ∷ 67 ∷ 68 ∷ replicate 12 0) ++ (5 ∷ 13 ∷ 21 ∷ 29 ∷ replicate 12 0)
    ++ leaf_at 0 13 1 ++ leaf_at 5 21 2 ++ leaf_at 13 29 3 ++ leaf_at 21 0 4 ++ replicate 6 0
    ++ trailer 73 73 30 0 1 5 2 5 29 4 89)
    (key 65 ++ key 66 ++ key 67 ++ key 68 ++ no_key)

-- ── two records of kind 1, and three leaves: tags with a run of ten bytes ──
-- the last eight bytes of the run
abbrev pub CtoJ : List ℕ
CtoJ = 67 ∷ 68 ∷ 69 ∷ 70 ∷ 71 ∷ 72 ∷ 73 ∷ 74 ∷ []

-- all ten
abbrev pub AtoJ : List ℕ
AtoJ = 65 ∷ 66 ∷ CtoJ

-- ABCDEFGHIJ1, 1 and ABCDEFGHIJ2, 2
abbrev pub long : Block
long =
    block
    ((1 ∷ 2 ∷ 10 ∷ 65 ∷ 66 ∷ 67 ∷ 68 ∷ 69 ∷ 70 ∷ 71 ∷ 72 ∷ []) ++ (49 ∷ 50 ∷ 0 ∷ 0 ∷ 5 ∷ 13 ∷ 0 ∷ 0 ∷ []) ++ replicate 19 0
    ++ (1 ∷ 11 ∷ 0 ∷ 13 ∷ 1 ∷ 0 ∷ []) ++ (1 ∷ 11 ∷ 5 ∷ 0 ∷ 2 ∷ 0 ∷ []) ++ replicate 6 0
    ++ trailer 56 18 18 2 0 3 1 5 13 2 72)
    ((AtoJ ++ 49 ∷ replicate 53 0) ++ (AtoJ ++ 50 ∷ replicate 53 0) ++ no_key)

-- and AX, 3: the run is parted after A, and the record below has CDEFGHIJ
abbrev pub parted : Block
parted =
    block
    ((1 ∷ 2 ∷ 8 ∷ CtoJ) ++ (49 ∷ 50 ∷ 0 ∷ 0 ∷ 5 ∷ 13 ∷ 0 ∷ 0 ∷ []) ++ (1 ∷ 2 ∷ 1 ∷ 65 ∷ replicate 7 0) ++ (66 ∷ 88 ∷ 0 ∷ 0 ∷ 1 ∷ 21 ∷ 0 ∷ 0 ∷ [])
    ++ (1 ∷ 11 ∷ 0 ∷ 13 ∷ 1 ∷ 0 ∷ []) ++ (1 ∷ 11 ∷ 5 ∷ 21 ∷ 2 ∷ 0 ∷ []) ++ (1 ∷ 2 ∷ 13 ∷ 0 ∷ 3 ∷ 0 ∷ [])
    ++ trailer 56 18 18 2 0 3 9 5 21 3 72)
    ((AtoJ ++ 49 ∷ replicate 53 0) ++ (AtoJ ++ 50 ∷ replicate 53 0) ++ (65 ∷ 88 ∷ replicate 62 0))

-- ── what is said of them ──
-- one record of kind 1, and so many leaves
abbrev pub caps : (leaves : ℕ) → Caps
caps n = record { c1 = 1; c2 = 0; c3 = 0; c4 = 0; c5 = n }

-- a block with so many bytes of scratch
abbrev pub lend : Block → ℕ → Slices
lend b n = record { words = b.words; keys = b.keys; scratch = replicate n 1 }

-- a tag of one byte, the lowest here
abbrev pub A : List ℕ
A = 65 ∷ []

-- one that parts from it at the first byte
abbrev pub B : List ℕ
B = 66 ∷ []

-- a third, for a record with room
abbrev pub C : List ℕ
C = 67 ∷ []

-- a fourth, with which a record of kind 1 is full
abbrev pub D : List ℕ
D = 68 ∷ []

-- a fifth, with which it grows
abbrev pub E : List ℕ
E = 69 ∷ []

-- a tag that A begins
abbrev pub AB : List ℕ
AB = 65 ∷ 66 ∷ []

-- the first of the two long ones
abbrev pub J1 : List ℕ
J1 = AtoJ ++ 49 ∷ []

-- the second, which parts from it at the last byte
abbrev pub J2 : List ℕ
J2 = AtoJ ++ 50 ∷ []

-- a tag that parts from their run after A
abbrev pub AX : List ℕ
AX = 65 ∷ 88 ∷ []

-- what a leaf holds
abbrev pub holding : (number total : ℕ) → Held
holding n t = record { number = n; total = t }

-- an entry of a listing
abbrev pub entry : Tag → (number total : ℕ) → Tag × Held
entry tag n t = (tag, holding n t)

-- the tree of A and B, below a record of kind 1
abbrev pub pair : Tree Held
pair = inner 1 0 [] (child 65 (leaf 0 [] (holding 0 7)) (child 66 (leaf 1 [] (holding 1 8)) end))

-- the same with C
abbrev pub triple : Tree Held
triple = inner 1 0 [] (child 65 (leaf 0 [] (holding 0 7)) (child 66 (leaf 1 [] (holding 1 8)) (child 67 (leaf 2 [] (holding 2 9)) end)))

-- the tree of A to D, below a record of kind 1
abbrev pub quadruple : Tree Held
quadruple =
    inner 1 0 [] (child 65 (leaf 0 [] (holding 0 1)) (child 66 (leaf 1 [] (holding 1 2)) (child 67 (leaf 2 [] (holding 2 3)) (child 68 (leaf 3 [] (holding 3 4)) end))))

-- that of A to E, below one of kind 2
abbrev pub quintuple : Tree Held
quintuple =
    inner 2 0 [] (child 65 (leaf 0 [] (holding 0 1)) (child 66 (leaf 1 [] (holding 1 2)) (child 67 (leaf 2 [] (holding 2 3)) (child 68 (leaf 3 [] (holding 3 4)) (child 69 (leaf 4 [] (holding 4 5)) end)))))

-- the tree of the two long tags
abbrev pub long_tags : Tree Held
long_tags = inner 1 0 AtoJ (child 49 (leaf 0 [] (holding 0 1)) (child 50 (leaf 1 [] (holding 1 2)) end))

-- that of these and AX, with their run parted
abbrev pub parted_tags : Tree Held
parted_tags = inner 1 1 (65 ∷ []) (child 66 (inner 1 0 CtoJ (child 49 (leaf 0 [] (holding 0 1)) (child 50 (leaf 1 [] (holding 1 2)) end))) (child 88 (leaf 2 [] (holding 2 3)) end))

-- the block is sound and holds these
abbrev pub Holds : Block → Listing Held → Type 0
Holds b l = (s : Sound b.words b.keys) × (held s.tree ≡ l)

-- neighbours in the leaf list
abbrev pub gap : (previous next : ℕ) → Gap
gap p n = record { previous = p; next = n }
