-- The writes of insert and delete on what the blocks show: each changes the cell that is named, and all else stays in order.
use Prim.Native.Nat.{ℕ}
use mathlib.Core.Path.{◌≡◌, refl, subst}
use mathlib.Core.Logic.{inl, inr}
use mathlib.Core.List.{List, [], ◌∷◌}
use mathlib.Core.Option.{Option, some}
use native.Mathlib.Omega.{arith}
use lib.ListN.{length}
use Rattle.prefix.specs.Run.{prefix_of}
use Rattle.frames.specs.Frame.{root_word, frame}
use Rattle.records.specs.View.{Held}
use Rattle.art.specs.Trees.{Tree, leaf}
use Rattle.art.specs.Deletes.{held, Sane}
use Rattle.art.specs.Stores.{Place, leaf_place, inner_place, Cell, unused, leaf_cell, inner_cell, write, store}
use Rattle.art.specs.Refs.{Refs}
use Rattle.art.specs.Chain.{Links, Linked, leaves_of, link_in, link_out}
use Rattle.art.specs.Points.{store_of}
use Rattle.art.specs.Calls.{OnceOf}
use Rattle.view.specs.Links.{links_of}
use Rattle.whole.specs.Sound.{Rooted, Sound}
use Rattle.edits.specs.declared.representation.Change.TheVariants.{Add, Remove, Replace}
use Rattle.writes.specs.At.{change_at, prefixed_at, branch_at, move_at, drop_at, clear_at}
use Rattle.writes.specs.Leaf.{leaf_in, key_in, leaf_out, key_out, total_at}
use Rattle.states.specs.State.{State}
use Rattle.states.proofs.Steps.{state_add, state_remove, state_replace, state_prefix, state_branch, state_move, state_drop, state_clear, state_leaf_in, state_leaf_out, state_total}
use Rattle.states.proofs.Sounds.{sound_state, state_sound}
use Rattle.instances.specs.Opened.{opened}
use Rattle.instances.specs.Blocks.{spare, room, three, A, C, holding, pair, triple}
use Rattle.instances.proofs.Edits.{run_fits, none_fits}
use Rattle.instances.proofs.Sounds.{spare_sound, room_sound, three_sound, spare_tree, room_tree, three_tree}

-- ── the states of the blocks ──
-- a sound block is the state of its tree
treed : {words keys : List ℕ} (s : Sound words keys) {t : Tree Held} → s.tree ≡ some t
    → State (frame words) words keys (store t []) (links_of (frame words) words) (root_word words) (length (held (some t)))
treed {words} {keys} s e = subst (λ (d : Option (Tree Held)). State (frame words) words keys (store_of d) (links_of (frame words) words) (root_word words) (length (held d))) e (sound_state s)

-- with one cell written in the store of its tree
abbrev Written : (t : Tree Held) (before after keys : List ℕ) → Links → Place → Cell Held → Type 0
Written t before after keys links x c = State (frame before) after keys (write (store t []) x c) links (root_word before) (length (held (some t)))

abbrev links_in : List ℕ → Links
links_in words = links_of (frame words) words

-- and back: the state of a good tree is a sound block
room_again : (s : Sound room.words room.keys) × (s.tree ≡ some pair)
room_again =
    state_sound (some pair) (treed room_sound room_tree) (subst Sane room_tree room_sound.good) (subst OnceOf room_tree room_sound.once)
    (subst (Rooted (root_word room.words)) room_tree room_sound.rooted) (subst (λ (d : Option (Tree Held)). Linked (links_in room.words) 0 (leaves_of d)) room_tree room_sound.linked) refl

-- ── inner records ──
abbrev two_refs : Refs
two_refs = (65, leaf_place 0) ∷ (66, leaf_place 1) ∷ []

abbrev three_refs : Refs
three_refs = (65, leaf_place 0) ∷ (66, leaf_place 1) ∷ (67, leaf_place 2) ∷ []

-- a child for C added, and taken out
added : Written pair room.words (change_at (frame room.words) (inner_place 1 0) 67 (Add 21) room.words) room.keys (links_in room.words) (inner_place 1 0) (inner_cell 0 [] three_refs)
unfolding opened
added = state_add (treed room_sound room_tree) 1 0 0 [] two_refs 67 (leaf_place 2) refl refl (omega arith) (omega arith) refl

removed : Written triple three.words (change_at (frame three.words) (inner_place 1 0) 67 Remove three.words) three.keys (links_in three.words) (inner_place 1 0) (inner_cell 0 [] two_refs)
unfolding opened
removed = state_remove (treed three_sound three_tree) 1 0 0 [] three_refs 67 (leaf_place 2) refl refl (omega arith)

-- leaf 2 in the place of leaf 1
replaced : Written pair room.words (change_at (frame room.words) (inner_place 1 0) 66 (Replace 21) room.words) room.keys (links_in room.words) (inner_place 1 0)
    (inner_cell 0 [] ((65, leaf_place 0) ∷ (66, leaf_place 2) ∷ []))
unfolding opened
replaced = state_replace (treed room_sound room_tree) 1 0 0 [] two_refs 66 (leaf_place 1) (leaf_place 2) refl refl refl

-- another run, of two bytes
prefixed : Written pair room.words (prefixed_at (frame room.words) (inner_place 1 0) (prefix_of (76 ∷ 49 ∷ [])) room.words) room.keys (links_in room.words) (inner_place 1 0)
    (inner_cell 2 (76 ∷ 49 ∷ []) two_refs)
unfolding opened
prefixed = state_prefix (treed room_sound room_tree) 1 0 0 [] two_refs (prefix_of (76 ∷ 49 ∷ [])) refl run_fits

-- a branching over the leaves 1 and 0 in the free record
branched : Written (leaf 0 A (holding 0 7)) spare.words (branch_at (frame spare.words) (inner_place 1 0) (prefix_of []) 66 13 65 5 spare.words) spare.keys (links_in spare.words)
    (inner_place 1 0) (inner_cell 0 [] two_refs)
unfolding opened
branched = state_branch (treed spare_sound spare_tree) 1 0 (prefix_of []) 66 65 (leaf_place 1) (leaf_place 0) refl none_fits (omega arith) (omega arith) (λ e. omega arith) refl refl

-- moved into kind 2, with all its children and without C's, and freed
moved : Written pair room.words (move_at (frame room.words) (inner_place 1 0) (inner_place 2 0) room.words) room.keys (links_in room.words) (inner_place 2 0) (inner_cell 0 [] two_refs)
unfolding opened
moved = state_move (treed room_sound room_tree) 1 0 0 [] two_refs 2 0 refl refl (omega arith)

dropped : Written triple three.words (drop_at (frame three.words) (inner_place 1 0) (inner_place 2 0) 67 three.words) three.keys (links_in three.words) (inner_place 2 0) (inner_cell 0 [] two_refs)
unfolding opened
dropped = state_drop (treed three_sound three_tree) 1 0 0 [] three_refs 67 (leaf_place 2) 2 0 refl refl (omega arith) refl (omega arith)

freed : Written pair room.words (clear_at (frame room.words) (inner_place 1 0) room.words) room.keys (links_in room.words) (inner_place 1 0) unused
unfolding opened
freed = state_clear (treed room_sound room_tree) 1 0 refl

-- ── leaves ──
-- C after leaf 1, and out again
leaf_put : Written pair room.words (leaf_in (frame room.words) 2 1 13 0 9 room.words) (key_in (frame room.words) 2 C room.keys) (link_in (links_in room.words) 2 13 0)
    (leaf_place 2) (leaf_cell C (holding 2 9))
unfolding opened
leaf_put = state_leaf_in (treed room_sound room_tree) 2 13 0 9 C refl (omega arith) (inr (1, refl, tt)) (inl refl)

leaf_taken : Written triple three.words (leaf_out (frame three.words) 2 13 0 three.words) (key_out (frame three.words) 2 three.keys) (link_out (links_in three.words) 2)
    (leaf_place 2) unused
unfolding opened
leaf_taken = state_leaf_out (treed three_sound three_tree) 2 refl (inr (1, refl, tt)) (inl refl)

-- another total for A
total_set : Written pair room.words (total_at (frame room.words) 0 5 room.words) room.keys (links_in room.words) (leaf_place 0) (leaf_cell A (holding 0 5))
unfolding opened
total_set = state_total (treed room_sound room_tree) 0 5 A (holding 0 7) refl
