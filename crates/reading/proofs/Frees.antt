-- A leaf number that no entry of the sorted list has is outside the pool, or its record is not in use.
use Prim.Native.Nat.{ℕ}
use mathlib.Core.Path.{◌≡◌, refl, sym, subst, ◌∙◌}
use mathlib.Core.Logic.{◌⊎◌, inl, inr}
use mathlib.Core.List.{List, [], ◌∷◌, ◌++◌}
use mathlib.Core.Option.{Option, none, some}
use mathlib.Core.Bool.{Bool, true, false}
use native.Mathlib.Omega.{arith}
use native.Mathlib.Decide.{ℕ_discrete}
use borrow.Author.Tests.{eq-eqb}
use Rattle.std.specs.Prelude.{Err}
use Rattle.refusals.specs.declared.Refusal.TheVariants.{NotInUse}
use Rattle.frames.specs.Place.{in_pool}
use Rattle.frames.specs.declared.frame.Frame.{Frame}
use Rattle.records.specs.View.{Held, cell_of}
use Rattle.leaves.specs.Leaf.{leaf_state, next_leaf_of, facts_of, tag_of}
use Rattle.leaves.proofs.Leaves.{state_outside, next_by, facts_by, len_by, tag_by}
use Rattle.art.specs.Tags.{Listing}
use Rattle.art.specs.Trees.{Tree, leaf, inner, Row, end, child}
use Rattle.art.specs.Deletes.{held}
use Rattle.art.specs.Members.{In}
use Rattle.art.specs.Chain.{leaves, row_leaves, leaves_of, numbers}
use Rattle.art.specs.Stores.{leaf_place, unused}
use Rattle.art.specs.Points.{store_of}
use Rattle.art.specs.Visit.{spots, row_spots}
use Rattle.art.proofs.Members.{in_left, in_right, in_append}
use Rattle.art.proofs.Passes.{store_off}
use Rattle.art.proofs.Stores.{used_not}
use Rattle.view.specs.Cells.{word_zero}
use Rattle.view.proofs.Views.{cell_used}
use Rattle.reading.specs.Shown.{Shown}
use Rattle.reading.specs.Calls.{Free}
use Rattle.reading.proofs.Entries.{numbers_held}

module _ {A : Type 0} where
  spot_child : (n : ℕ) (t : Tree A) (r : Row A) → (In (leaf_place n) (spots t) → In n (leaves t)) → (In (leaf_place n) (row_spots r) → In n (row_leaves r))
      → In (leaf_place n) (spots t) ⊎ In (leaf_place n) (row_spots r) → In n (leaves t ++ row_leaves r)
  spot_child n t r f g (inl h) = in_left n (leaves t) (row_leaves r) (f h)
  spot_child n t r f g (inr h) = in_right n (leaves t) (row_leaves r) (g h)

  -- a leaf's place among a tree's places is that of one of its leaves
  mutual
    spot_leaf : (t : Tree A) (n : ℕ) → In (leaf_place n) (spots t) → In n (leaves t)
    spot_leaf (leaf m s a) n (inr h) = elim h [ ]
    spot_leaf (leaf m s a) n (inl e) = inl (let q : n ≡ m = cc in q)
    spot_leaf (inner k m run r) n (inl e) = absurd (let z : ◌≡◌ {A = ℕ} 0 1 = cc in omega arith)
    spot_leaf (inner k m run r) n (inr h) = spot_row r n h

    spot_row : (r : Row A) (n : ℕ) → In (leaf_place n) (row_spots r) → In n (row_leaves r)
    spot_row end n h = h
    spot_row (child b t r) n h = spot_child n t r (λ i. spot_leaf t n i) (λ i. spot_row r n i) (in_append (leaf_place n) (spots t) (row_spots r) h)

  store_free : (d : Option (Tree A)) (n : ℕ) → ¬ In n (leaves_of d) → store_of d (leaf_place n) ≡ unused
  store_free none n h = refl
  store_free (some t) n h = store_off t [] (leaf_place n) (λ i. h (spot_leaf t n i))

free_number : (n : ℕ) (l : Listing Held) → Free n l → ¬ In n (numbers (λ (h : Held). h.number) l)
free_number n [] h x'' = elim x'' [ ]
free_number n (e ∷ l) h (inl i) = h e (inl refl) (sym i)
free_number n (e ∷ l) h (inr i) = free_number n l (λ x j. h x (inr j)) i

module _ {f : Frame} {words keys : List ℕ} {d : Option (Tree Held)} (s : Shown f words keys d) (n : ℕ) (free : Free n (held d)) where
  cell_free : cell_of f words keys (leaf_place n) ≡ unused
  cell_free = s.cells (leaf_place n) ∙ store_free d n (λ i. free_number n (held d) free (subst (In n) (sym (numbers_held s)) i))

  state : leaf_state f words keys n ≡ Err NotInUse
  unfolding leaf_state
  state = go (in_pool f (leaf_place n)) refl (ℕ_discrete (word_zero f words (leaf_place n)) 0)
    where
      go : (b : Bool) → in_pool f (leaf_place n) ≡ b → Dec (word_zero f words (leaf_place n) ≡ 0) → leaf_state f words keys n ≡ Err NotInUse
      go true p (yes z) = simp (p, eq-eqb _ _ z)
      go true p (no z) = absurd (used_not (cell_of f words keys (leaf_place n)) (cell_used f words keys (leaf_place n) p z) cell_free)
      go false p z = sym (state_outside f words keys n p)

  -- Next leaf and leaf facts answer that no leaf is in use there, and leaf tag has no byte.
  pub next_free : next_leaf_of words keys n ≡ Err NotInUse
  next_free = sym (next_by s.frame n (Err NotInUse) state)

  pub facts_free : facts_of words keys n ≡ Err NotInUse
  facts_free = sym (facts_by s.frame n (Err NotInUse) state)

  pub tag_free : tag_of words keys n ≡ []
  tag_free = sym (tag_by s.frame n 0 (len_by s.frame n (Err NotInUse) state))
