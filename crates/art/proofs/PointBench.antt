-- Points and their writes, computed: rows e, g and h of the bench sheet, on records.
use mathlib.Core.Path.{◌≡◌, refl}
use mathlib.Core.List.{[], ◌∷◌, ◌++◌}
use Prim.Native.Nat.{ℕ}
use native.Mathlib.Decide.{ℕ_discrete, dec_le}
use Rattle.art.specs.Deletes.{stay}
use Rattle.art.specs.Tags.{Tag, order}
use Rattle.art.specs.Trees.{Tree, leaf, inner, end, child}
use Rattle.art.specs.Changes.{Plan}
use Rattle.art.specs.Stores.{leaf_place, inner_place, unused, leaf_cell, inner_cell, Store, root, store}
use Rattle.art.specs.Points.{top, via, holds, clashes, into, fork, point, insert_at, delete_at}

-- the next leaf is 2, the next branching 1 in kind 1
abbrev plan : Plan
plan = record { leaf_number = 2; fork_kind = 1; fork_number = 1; home = λ k n. (k, n) }

-- CDEFGHIJ, A being 65
abbrev CtoJ : Tag
CtoJ = 67 ∷ 68 ∷ 69 ∷ 70 ∷ 71 ∷ 72 ∷ 73 ∷ 74 ∷ []

abbrev one : Tag
one = 65 ∷ 66 ∷ CtoJ ++ 49 ∷ []

abbrev two : Tag
two = 65 ∷ 66 ∷ CtoJ ++ 50 ∷ []

abbrev ax : Tag
ax = 65 ∷ 88 ∷ []

abbrev e_tree : Tree ℕ
e_tree = inner 1 0 (65 ∷ 66 ∷ CtoJ) (child 49 (leaf 0 [] 1) (child 50 (leaf 1 [] 2) end))

abbrev g_tree : Tree ℕ
g_tree = inner 1 1 (65 ∷ []) (child 66 (inner 1 0 CtoJ (child 49 (leaf 0 [] 1) (child 50 (leaf 1 [] 2) end))) (child 88 (leaf 2 [] 3) end))

abbrev e_store : Store ℕ
e_store = store e_tree []

abbrev g_store : Store ℕ
g_store = store g_tree []

-- the second tag parts from the only leaf after ten bytes
point_e : point {A = ℕ} 9 (store (leaf 0 one 1) []) (leaf_place 0) two ≡ fork top (leaf_place 0) 0 0 10
unfolding dec_le ℕ_discrete
point_e = refl

-- AX parts from the run after one byte, and the bytes I and J, which no record stores, come from the leaf
point_g : point 9 e_store (root e_tree) ax ≡ fork top (inner_place 1 0) 0 0 1
unfolding dec_le ℕ_discrete
point_g = refl

writes_g : insert_at e_store plan ax 3 (fork top (inner_place 1 0) 0 0 1)
    ≡ (inner_place 1 0, inner_cell 8 CtoJ ((49, leaf_place 0) ∷ (50, leaf_place 1) ∷ []))
    ∷ (leaf_place 2, leaf_cell ax 3)
    ∷ (inner_place 1 1, inner_cell 1 (65 ∷ []) ((66, inner_place 1 0) ∷ (88, leaf_place 2) ∷ []))
    ∷ []
unfolding order ℕ_discrete
writes_g = refl

-- without AX the two prefixes are one again, ten long, with eight bytes stored
point_h : point 9 g_store (root g_tree) ax ≡ holds top (via 1 1 88) 2
unfolding dec_le ℕ_discrete
point_h = refl

writes_h : delete_at g_store stay (holds top (via 1 1 88) 2)
    ≡ (leaf_place 2, unused)
    ∷ (inner_place 1 1, unused)
    ∷ (inner_place 1 0, inner_cell 10 (65 ∷ 66 ∷ 67 ∷ 68 ∷ 69 ∷ 70 ∷ 71 ∷ 72 ∷ []) ((49, leaf_place 0) ∷ (50, leaf_place 1) ∷ []))
    ∷ []
unfolding ℕ_discrete
writes_h = refl

-- the other ends: a held tag two records down, a byte with no child, and a tag that begins held ones
point_two : point 9 g_store (root g_tree) two ≡ holds (via 1 1 66) (via 1 0 50) 1
unfolding dec_le ℕ_discrete
point_two = refl

point_into : point 9 g_store (root g_tree) (65 ∷ 67 ∷ []) ≡ into top 1 1 67
unfolding dec_le ℕ_discrete
point_into = refl

point_clash : point 9 g_store (root g_tree) (65 ∷ 66 ∷ []) ≡ clashes
unfolding dec_le ℕ_discrete
point_clash = refl
