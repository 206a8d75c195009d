-- A directory of two tags, computed: its leaf list, and the check's way through it, which ends well, and through damaged ones, which does not.
use mathlib.Core.Path.{◌≡◌, refl}
use mathlib.Core.Option.{Option, none, some}
use mathlib.Core.List.{[], ◌∷◌}
use Prim.Native.Nat.{ℕ}
use native.Mathlib.Decide.{ℕ_discrete}
use Rattle.art.specs.Tags.{Tag, order, tag_dec}
use Rattle.art.specs.Trees.{Tree, leaf}
use Rattle.art.specs.Puts.{less_dec}
use Rattle.art.specs.Changes.{Plan, grow, meet}
use Rattle.art.specs.Orders.{after}
use Rattle.art.specs.Stores.{leaf_place, leaf_cell, Store, write, root, store}
use Rattle.art.specs.Chain.{Links, before_ref, Linked, follows, link_in, link_out, leaves, option_ref}
use Rattle.art.specs.Visit.{and_then, start_state}
use Rattle.art.specs.Witness.{by_number, probe}

-- L14A in leaf 0, then L14B in leaf 1; each holds its leaf's number
abbrev L14A : Tag
L14A = 76 ∷ 49 ∷ 52 ∷ 65 ∷ []

abbrev L14B : Tag
L14B = 76 ∷ 49 ∷ 52 ∷ 66 ∷ []

abbrev second : Plan
second = record { leaf_number = 1; fork_kind = 1; fork_number = 0; home = λ k n. (k, n) }

abbrev pair_tree : Tree ℕ
pair_tree = grow (leaf 0 L14A 0) second L14B 1

-- the links of leaf 0 alone, and with leaf 1 linked in where its tag goes
abbrev alone : Links
alone = record { first = 5; last = 5; prev = λ n. 0; next = λ n. 0 }

abbrev two : Links
two = let b : ℕ = option_ref (λ a. a) (after L14B ((L14A, 0) ∷ [])) in link_in alone 1 (before_ref alone b) b

-- the two leaves in order
sample_leaves : leaves pair_tree ≡ 0 ∷ 1 ∷ []
unfolding meet order
sample_leaves = refl

-- they are linked both ways
sample_linked : Linked two 0 (leaves pair_tree)
unfolding meet order less_dec ℕ_discrete
sample_linked = (refl, refl, (refl, refl, (refl, refl)))

-- with leaf 0 taken out, leaf 1 is linked alone
sample_cut : Linked (link_out two 0) 0 (1 ∷ [])
unfolding meet order less_dec ℕ_discrete
sample_cut = (refl, refl, (refl, refl))

-- the count that the check's way through a store ends with, if it ends well
abbrev counted : Links → Store ℕ → Option ℕ
counted k σ = and_then (probe (by_number σ) (follows k) 2 σ 0 (root pair_tree) start_state) (λ h. some h.1.count)

-- two leaves are counted
sample_check : counted two (store pair_tree []) ≡ some 2
unfolding meet order less_dec tag_dec ℕ_discrete
sample_check = refl

-- a leaf that is not linked is refused
sample_unlinked : counted alone (store pair_tree []) ≡ none
unfolding meet order less_dec tag_dec ℕ_discrete
sample_unlinked = refl

-- a tag that does not agree with the prefix is refused: L15B in leaf 1
sample_astray : counted two (write (store pair_tree []) (leaf_place 1) (leaf_cell (76 ∷ 49 ∷ 53 ∷ 66 ∷ []) 1)) ≡ none
unfolding meet order less_dec tag_dec ℕ_discrete
sample_astray = refl
