-- Rows a, b, e and i of the bench sheet, as far as these calls go, on written-out blocks; and damaged ones. The definitions are computed.
use Prim.Native.Nat.{ℕ}
use mathlib.Core.Path.{◌≡◌, refl}
use mathlib.Core.List.{List, [], ◌∷◌, ◌++◌}
use Rattle.tree.specs.Answer.{Found, found_number, found_leaf, found_total, facts_number, facts_length, facts_total}
use lib.ListN.{take, replicate}
use Rattle.prefix.specs.Match.{length_match, match_of}
use Rattle.frames.specs.Kind.{kind_row}
use Rattle.frames.specs.Form.{form_known, form_of, stored_of}
use Rattle.frames.specs.Frame.{form_fits, trailer_fits, frame_fits, frame_of}
use Rattle.records.specs.Own.{prefix_at, head_ok, sorted_ok, indirect_ok, direct_ok, body_ok, inner_ok, sorted_child, indirect_child, child_of, child_at, leaf_ok, total_of}
use Rattle.records.specs.Row.{body_row}
use Rattle.tree.specs.Arrive.{arrival_at, with_frame}
use Rattle.tree.specs.Edge.{edge_ref, edge_step, edge_of, minimum_of, maximum_of}
use Rattle.leaves.specs.Leaf.{leaf_state, next_of, next_leaf_of, facts_of, tag_len, tag_of}
use Rattle.tree.specs.Walk.{leaf_answer, inner_step, step_of, walk_of, search_of, prefix_search_of}

record Block : Type 0 where
  words : List ℕ
  keys : List ℕ

-- a leaf's 64 key bytes
tag : List ℕ → List ℕ
tag bytes = take 64 (bytes ++ replicate 64 0)

-- capacities 2, 1, 0, 0, 3: a first record of 19 words and two free ones, three leaves with their tags, and a trailer with its root, first, last and count
block : List ℕ → List ℕ → List ℕ → List ℕ → Block
block rec leaves tags ends =
    record {
      words = rec ++ (replicate 62 0 ++ (leaves ++ (1 ∷ 99 ∷ 61 ∷ 18 ∷ 18 ∷ 18 ∷ 2 ∷ 1 ∷ 0 ∷ 0 ∷ 3 ∷ (ends ++ (115 ∷ [])))));
      keys = tags;
    }

-- each call's number, leaf and total
data Call : Type 0 where
  search : List ℕ → Call
  prefix_search : List ℕ → Call
  minimum : Call
  maximum : Call
  next : ℕ → Call

shown : Found → List ℕ
shown a = found_number a ∷ found_leaf a ∷ found_total a ∷ []

answer : Block → Call → List ℕ
unfolding length_match match_of kind_row form_known form_of stored_of form_fits trailer_fits frame_fits frame_of prefix_at head_ok sorted_ok indirect_ok direct_ok body_ok inner_ok sorted_child indirect_child child_of child_at leaf_ok total_of body_row arrival_at with_frame edge_ref edge_step edge_of leaf_state next_of leaf_answer inner_step step_of walk_of shown
answer b (search t) = shown (search_of b.words b.keys t)
answer b (prefix_search t) = shown (prefix_search_of b.words b.keys t)
answer b minimum = shown (minimum_of b.words b.keys)
answer b maximum = shown (maximum_of b.words b.keys)
answer b (next n) = shown (next_leaf_of b.words b.keys n)

-- a leaf's number, length and total, then its tag
facts : Block → ℕ → List ℕ
unfolding kind_row form_known form_of form_fits trailer_fits frame_fits frame_of leaf_ok total_of with_frame leaf_state tag_len
facts b n =
    let a = facts_of b.words b.keys n in
    facts_number a ∷ facts_length a ∷ facts_total a ∷ tag_of b.words b.keys n

answers : Block → List Call → List (List ℕ)
answers b [] = []
answers b (c ∷ cs) = answer b c ∷ answers b cs

-- row a: an empty directory
empty : Block
empty = block (replicate 19 0) (replicate 18 0) (replicate 192 0) (0 ∷ 0 ∷ 0 ∷ 0 ∷ [])

row_a : answers empty (search (65 ∷ []) ∷ prefix_search [] ∷ minimum ∷ maximum ∷ next 0 ∷ [])
    ≡ (1 ∷ 0 ∷ 0 ∷ []) ∷ (1 ∷ 0 ∷ 0 ∷ []) ∷ (1 ∷ 0 ∷ 0 ∷ []) ∷ (1 ∷ 0 ∷ 0 ∷ []) ∷ (9 ∷ 0 ∷ 0 ∷ []) ∷ []
unfolding tag block empty answer answers
row_a = refl

-- row b: the empty tag alone
alone : Block
alone = block (replicate 19 0) ((1 ∷ 0 ∷ 0 ∷ 0 ∷ 7 ∷ 0 ∷ []) ++ replicate 12 0) (replicate 192 0) (5 ∷ 5 ∷ 5 ∷ 1 ∷ [])

-- it is held, and XYZ begins with it
row_b : answers alone (search [] ∷ prefix_search (88 ∷ 89 ∷ 90 ∷ []) ∷ search (65 ∷ []) ∷ next 0 ∷ [])
    ≡ (0 ∷ 0 ∷ 7 ∷ []) ∷ (0 ∷ 0 ∷ 7 ∷ []) ∷ (1 ∷ 0 ∷ 0 ∷ []) ∷ (1 ∷ 0 ∷ 0 ∷ []) ∷ []
unfolding tag block alone answer answers
row_b = refl

-- row e: ABCDEFGHIJ1 and ABCDEFGHIJ2 share ten bytes, of which eight are stored
long : Block
long =
    block (1 ∷ 2 ∷ 10 ∷ 65 ∷ 66 ∷ 67 ∷ 68 ∷ 69 ∷ 70 ∷ 71 ∷ 72 ∷ 49 ∷ 50 ∷ 0 ∷ 0 ∷ 5 ∷ 13 ∷ 0 ∷ 0 ∷ []) ((1 ∷ 11 ∷ 0 ∷ 13 ∷ 7 ∷ 0 ∷ []) ++ ((1 ∷ 11 ∷ 5 ∷ 0 ∷ 8 ∷ 0 ∷ []) ++ replicate 6 0))
    (tag (65 ∷ 66 ∷ 67 ∷ 68 ∷ 69 ∷ 70 ∷ 71 ∷ 72 ∷ 73 ∷ 74 ∷ 49 ∷ []) ++ (tag (65 ∷ 66 ∷ 67 ∷ 68 ∷ 69 ∷ 70 ∷ 71 ∷ 72 ∷ 73 ∷ 74 ∷ 50 ∷ []) ++ replicate 64 0))
    (1 ∷ 5 ∷ 13 ∷ 2 ∷ [])

-- the skipped bytes count at the leaf: ABCDEFGHXX1 is not held
row_e : answers long (search (65 ∷ 66 ∷ 67 ∷ 68 ∷ 69 ∷ 70 ∷ 71 ∷ 72 ∷ 73 ∷ 74 ∷ 49 ∷ []) ∷ search (65 ∷ 66 ∷ 67 ∷ 68 ∷ 69 ∷ 70 ∷ 71 ∷ 72 ∷ 73 ∷ 74 ∷ 50 ∷ []) ∷ search (65 ∷ 66 ∷ 67 ∷ 68 ∷ 69 ∷ 70 ∷ 71 ∷ 72 ∷ 88 ∷ 88 ∷ 49 ∷ []) ∷ search (65 ∷ 66 ∷ 67 ∷ 68 ∷ 69 ∷ 70 ∷ 71 ∷ 88 ∷ 73 ∷ 74 ∷ 49 ∷ []) ∷ search (65 ∷ 66 ∷ 67 ∷ 68 ∷ 69 ∷ 70 ∷ 71 ∷ 72 ∷ 73 ∷ 74 ∷ []) ∷ prefix_search (65 ∷ 66 ∷ 67 ∷ 68 ∷ 69 ∷ 70 ∷ 71 ∷ 72 ∷ 73 ∷ 74 ∷ 49 ∷ 88 ∷ []) ∷ [])
    ≡ (0 ∷ 0 ∷ 7 ∷ []) ∷ (0 ∷ 1 ∷ 8 ∷ []) ∷ (1 ∷ 0 ∷ 0 ∷ []) ∷ (1 ∷ 0 ∷ 0 ∷ []) ∷ (1 ∷ 0 ∷ 0 ∷ []) ∷ (0 ∷ 0 ∷ 7 ∷ []) ∷ []
unfolding tag block long answer answers
row_e = refl

-- row i: L14A and L15
pair : List ℕ → List ℕ → Block
pair rec leaf =
    block rec (leaf ++ ((1 ∷ 3 ∷ 5 ∷ 0 ∷ 8 ∷ 0 ∷ []) ++ replicate 6 0)) (tag (76 ∷ 49 ∷ 52 ∷ 65 ∷ []) ++ (tag (76 ∷ 49 ∷ 53 ∷ []) ++ replicate 64 0)) (1 ∷ 5 ∷ 13 ∷ 2 ∷ [])

sound : Block
sound = pair (1 ∷ 2 ∷ 2 ∷ 76 ∷ 49 ∷ 0 ∷ 0 ∷ 0 ∷ 0 ∷ 0 ∷ 0 ∷ 52 ∷ 53 ∷ 0 ∷ 0 ∷ 5 ∷ 13 ∷ 0 ∷ 0 ∷ []) (1 ∷ 4 ∷ 0 ∷ 13 ∷ 7 ∷ 0 ∷ [])

-- the leaves in order, from both ends and along the list
row_i : answers sound (minimum ∷ maximum ∷ next 0 ∷ next 1 ∷ next 2 ∷ next 3 ∷ search (76 ∷ 49 ∷ 53 ∷ []) ∷ prefix_search (76 ∷ 49 ∷ 53 ∷ 88 ∷ 89 ∷ 90 ∷ []) ∷ search (76 ∷ 49 ∷ 52 ∷ []) ∷ [])
    ≡ (0 ∷ 0 ∷ 7 ∷ []) ∷ (0 ∷ 1 ∷ 8 ∷ []) ∷ (0 ∷ 1 ∷ 8 ∷ []) ∷ (1 ∷ 0 ∷ 0 ∷ []) ∷ (9 ∷ 0 ∷ 0 ∷ []) ∷ (9 ∷ 0 ∷ 0 ∷ []) ∷ (0 ∷ 1 ∷ 8 ∷ []) ∷ (0 ∷ 1 ∷ 8 ∷ []) ∷ (1 ∷ 0 ∷ 0 ∷ []) ∷ []
unfolding tag block sound answer answers pair
row_i = refl

row_i_leaves : facts sound 0 ∷ facts sound 1 ∷ facts sound 2 ∷ [] ≡ (0 ∷ 4 ∷ 7 ∷ 76 ∷ 49 ∷ 52 ∷ 65 ∷ []) ∷ (0 ∷ 3 ∷ 8 ∷ 76 ∷ 49 ∷ 53 ∷ []) ∷ (9 ∷ 0 ∷ 0 ∷ []) ∷ []
unfolding tag block pair sound facts
row_i_leaves = refl

-- the same with a root that names itself as its lowest child
ring : Block
ring = pair (1 ∷ 2 ∷ 0 ∷ 0 ∷ 0 ∷ 0 ∷ 0 ∷ 0 ∷ 0 ∷ 0 ∷ 0 ∷ 52 ∷ 53 ∷ 0 ∷ 0 ∷ 1 ∷ 13 ∷ 0 ∷ 0 ∷ []) (1 ∷ 4 ∷ 0 ∷ 13 ∷ 7 ∷ 0 ∷ [])

-- a 65th record on the path is damage: a tag of 64 bytes meets it, one of 63 does not
fours : ℕ → List ℕ
fours n = replicate n 52

row_ring : answers ring (minimum ∷ maximum ∷ search (fours 63) ∷ search (fours 64) ∷ [])
    ≡ (6 ∷ 0 ∷ 0 ∷ []) ∷ (0 ∷ 1 ∷ 8 ∷ []) ∷ (1 ∷ 0 ∷ 0 ∷ []) ∷ (6 ∷ 0 ∷ 0 ∷ []) ∷ []
unfolding tag block pair ring fours answer answers
row_ring = refl

-- a first leaf over 64 bytes, and one whose next reference names a free leaf
over : Block
over = pair (1 ∷ 2 ∷ 2 ∷ 76 ∷ 49 ∷ 0 ∷ 0 ∷ 0 ∷ 0 ∷ 0 ∷ 0 ∷ 52 ∷ 53 ∷ 0 ∷ 0 ∷ 5 ∷ 13 ∷ 0 ∷ 0 ∷ []) (1 ∷ 65 ∷ 0 ∷ 13 ∷ 7 ∷ 0 ∷ [])

astray : Block
astray = pair (1 ∷ 2 ∷ 2 ∷ 76 ∷ 49 ∷ 0 ∷ 0 ∷ 0 ∷ 0 ∷ 0 ∷ 0 ∷ 52 ∷ 53 ∷ 0 ∷ 0 ∷ 5 ∷ 13 ∷ 0 ∷ 0 ∷ []) (1 ∷ 4 ∷ 0 ∷ 21 ∷ 7 ∷ 0 ∷ [])

-- only the calls that arrive there meet it
row_over : answers over (minimum ∷ next 0 ∷ maximum ∷ search (76 ∷ 49 ∷ 53 ∷ []) ∷ [])
    ≡ (6 ∷ 0 ∷ 0 ∷ []) ∷ (6 ∷ 0 ∷ 0 ∷ []) ∷ (0 ∷ 1 ∷ 8 ∷ []) ∷ (0 ∷ 1 ∷ 8 ∷ []) ∷ []
unfolding tag block over answer answers pair
row_over = refl

-- the next leaf must be in use
row_astray : answers astray (minimum ∷ next 0 ∷ next 1 ∷ [])
    ≡ (0 ∷ 0 ∷ 7 ∷ []) ∷ (6 ∷ 0 ∷ 0 ∷ []) ∷ (1 ∷ 0 ∷ 0 ∷ []) ∷ []
unfolding tag block astray answer answers pair
row_astray = refl
