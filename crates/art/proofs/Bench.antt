-- Rows e to h of the bench sheet, computed: what the trees draw, find and become.
use mathlib.Core.Path.{◌≡◌, refl}
use mathlib.Core.Option.{none, some}
use mathlib.Core.List.{[], ◌∷◌, ◌++◌}
use mathlib.Core.Bool.{false}
use Prim.Native.Nat.{ℕ}
use native.Mathlib.Decide.{dec_le}
use Rattle.art.specs.Tags.{Tag, exact, order, tag_dec, fits_dec}
use Rattle.art.specs.Trees.{Tree, leaf, contents}
use Rattle.art.specs.Nodes.{show, walk, meets_dec}
use Rattle.art.specs.Drawings.{one, branch, done, kid, sketch, draw}
use Rattle.art.specs.Changes.{Plan, grow, meet}
use Rattle.art.specs.Deletes.{stay, change}

-- addresses, which no drawing shows
abbrev plan : Plan
plan = record { leaf_number = 0; fork_kind = 1; fork_number = 0; home = λ k n. (k, n) }

-- ABCDEFGHIJ, with A as 65
abbrev AtoJ : Tag
AtoJ = 65 ∷ 66 ∷ 67 ∷ 68 ∷ 69 ∷ 70 ∷ 71 ∷ 72 ∷ 73 ∷ 74 ∷ []

-- ABCDEFGHIJ1 and ABCDEFGHIJ2
abbrev e_tree : Tree ℕ
e_tree = grow (leaf 0 (AtoJ ++ 49 ∷ []) 1) plan (AtoJ ++ 50 ∷ []) 2

-- these and AX
abbrev g_tree : Tree ℕ
g_tree = grow e_tree plan (65 ∷ 88 ∷ []) 3

-- these and ABCDEFGHIX
abbrev f_tree : Tree ℕ
f_tree = grow e_tree plan (65 ∷ 66 ∷ 67 ∷ 68 ∷ 69 ∷ 70 ∷ 71 ∷ 72 ∷ 73 ∷ 88 ∷ []) 3

-- row e: one branching of length 10 with ABCDEFGH stored, over the two tags
row_e : sketch [] e_tree ≡ branch 10 (65 ∷ 66 ∷ 67 ∷ 68 ∷ 69 ∷ 70 ∷ 71 ∷ 72 ∷ []) (kid 49 (one (AtoJ ++ 49 ∷ []) 1) (kid 50 (one (AtoJ ++ 50 ∷ []) 2) done))
unfolding meet order
row_e = refl

-- row e: the tags alone draw the same
row_e_draw : draw (contents e_tree) ≡ sketch [] e_tree
unfolding meet order
row_e_draw = refl

-- row e: the search for ABCDEFGHXX1 finds nothing, though it differs only in bytes that are not stored
row_e_search : walk (show [] e_tree) exact 0 false (65 ∷ 66 ∷ 67 ∷ 68 ∷ 69 ∷ 70 ∷ 71 ∷ 72 ∷ 88 ∷ 88 ∷ 49 ∷ []) ≡ none
unfolding meet order fits_dec dec_le meets_dec
row_e_search = refl

-- row f: a branching of length 9 at the root, whose child J is a branching of length 0 over the two tags of row e, and X the new tag
row_f : sketch [] f_tree ≡ branch 9 (65 ∷ 66 ∷ 67 ∷ 68 ∷ 69 ∷ 70 ∷ 71 ∷ 72 ∷ []) (kid 74 (branch 0 [] (kid 49 (one (AtoJ ++ 49 ∷ []) 1) (kid 50 (one (AtoJ ++ 50 ∷ []) 2) done))) (kid 88 (one (65 ∷ 66 ∷ 67 ∷ 68 ∷ 69 ∷ 70 ∷ 71 ∷ 72 ∷ 73 ∷ 88 ∷ []) 3) done))
unfolding meet order
row_f = refl

-- row g: a branching of length 1 with A at the root, whose child B is one of length 8 with CDEFGHIJ, and X the new tag
row_g : sketch [] g_tree ≡ branch 1 (65 ∷ []) (kid 66 (branch 8 (67 ∷ 68 ∷ 69 ∷ 70 ∷ 71 ∷ 72 ∷ 73 ∷ 74 ∷ []) (kid 49 (one (AtoJ ++ 49 ∷ []) 1) (kid 50 (one (AtoJ ++ 50 ∷ []) 2) done))) (kid 88 (one (65 ∷ 88 ∷ []) 3) done))
unfolding meet order
row_g = refl

-- row h: row g without AX is the tree of row e again
row_h : change g_tree (λ a. none) stay (65 ∷ 88 ∷ []) ≡ some e_tree
unfolding meet order tag_dec
row_h = refl
