-- What a change to a row of children makes of its bytes with places.
use mathlib.Core.Path.{◌≡◌, refl, sym, ap, ◌∙◌}
use mathlib.Core.Logic.{inl, inr, ite, if_pos, if_neg}
use mathlib.Core.Option.{Option, none, some}
use mathlib.Core.List.{List, [], ◌∷◌}
use Prim.Native.Nat.{ℕ, suc}
use native.Mathlib.Decide.{ℕ_discrete}
use lib.ListN.{length}
use Rattle.art.specs.Tags.{Tag, Order, order, below, equal, above}
use Rattle.art.specs.Trees.{Tree, Row, end, child, count}
use Rattle.art.specs.Changes.{Plan, Has, pair, pair_by, add_child, add_by, grow, grow_row}
use Rattle.art.specs.Deletes.{Home, cut_row, prune, prune_row}
use Rattle.art.specs.Stores.{Place, leaf_place, place_dec, Cell, inner_cell, Store, write, apply, root, refs}
use Rattle.art.specs.Drops.{spot}
use Rattle.art.specs.Refs.{Refs, find_ref, re_ref, add_ref, add_ref_by, pair_ref, pair_ref_by, cut_ref, relink}
use Rattle.art.proofs.Stores.{write_id}

module _ {A : Type 0} where
  -- what stands at the child for x, and what there is for a byte with no child
  abbrev pub at_kid : {X : Type 0} → X → (ℕ → Tree A → X) → ℕ → Row A → X
  at_kid d F x end = d
  at_kid d F x (child c t r) = ite (ℕ_discrete x c) (F c t) (at_kid d F x r)

  pub at_none : {X : Type 0} (d : X) (F : ℕ → Tree A → X) (x : ℕ) (r : Row A) → ¬ Has x r → at_kid d F x r ≡ d
  at_none d F x end n = refl
  at_none d F x (child c t r) n = if_neg (ℕ_discrete x c) (λ e. n (inl e)) (F c t) (at_kid d F x r) ∙ at_none d F x r (λ h. n (inr h))

  -- another tree as child for x
  abbrev pub swap : (Tree A → Tree A) → ℕ → Row A → Row A
  swap g x end = end
  swap g x (child c t r) = ite (ℕ_discrete x c) (child c (g t) r) (child c t (swap g x r))

  pub grow_swap : (r : Row A) (pl : Plan) (x : ℕ) (u : Tag) (a : A) → grow_row r pl x u a ≡ swap (λ t. grow t pl u a) x r
  grow_swap end pl x u a = refl
  grow_swap (child c t r) pl x u a = ap (λ (z : Row A). ite (ℕ_discrete x c) (child c (grow t pl u a) r) (child c t z)) (grow_swap r pl x u a)

  pub prune_swap : (r : Row A) (f : A → Option A) (hm : Home) (x : ℕ) (u : Tag) → prune_row r f hm x u ≡ swap (λ t. prune t f hm u) x r
  prune_swap end f hm x u = refl
  prune_swap (child c t r) f hm x u = ap (λ (z : Row A). ite (ℕ_discrete x c) (child c (prune t f hm u) r) (child c t z)) (prune_swap r f hm x u)

  -- ── the row of places ──
  pub find_kid : (x : ℕ) (r : Row A) → find_ref (refs r) x ≡ at_kid none (λ c t. some (root t)) x r
  find_kid x end = refl
  find_kid x (child c t r) = ap (ite (ℕ_discrete x c) (some (root t))) (find_kid x r)

  pub find_no_kid : (x : ℕ) (r : Row A) → ¬ Has x r → find_ref (refs r) x ≡ none
  find_no_kid x r n = find_kid x r ∙ at_none none (λ c t. some (root t)) x r n

  pub spot_kid : (x : ℕ) (r : Row A) → spot x r ≡ at_kid (leaf_place 0) (λ c t. root t) x r
  spot_kid x end = refl
  spot_kid x (child c t r) = ap (ite (ℕ_discrete x c) (root t)) (spot_kid x r)

  pub spot_swap : (g : Tree A → Tree A) (x : ℕ) (r : Row A) → spot x (swap g x r) ≡ at_kid (leaf_place 0) (λ c t. root (g t)) x r
  spot_swap g x end = refl
  spot_swap g x (child c t r) = go (ℕ_discrete x c) (spot_swap g x r)
    where
      go : (d : Dec (x ≡ c)) → spot x (swap g x r) ≡ at_kid (leaf_place 0) (λ c t. root (g t)) x r → spot x (ite d (child c (g t) r) (child c t (swap g x r))) ≡ ite d (root (g t)) (at_kid (leaf_place 0) (λ c t. root (g t)) x r)
      go (yes e) ih = if_pos (ℕ_discrete x c) e (root (g t)) (spot x r)
      go (no n) ih = if_neg (ℕ_discrete x c) n (root t) (spot x (swap g x r)) ∙ ih

  re_swap : (g : Tree A → Tree A) (x : ℕ) (r : Row A) → refs (swap g x r) ≡ re_ref (refs r) x (at_kid (leaf_place 0) (λ c t. root (g t)) x r)
  re_swap g x end = refl
  re_swap g x (child c t r) = go (ℕ_discrete x c) (re_swap g x r)
    where
      go : (d : Dec (x ≡ c)) → refs (swap g x r) ≡ re_ref (refs r) x (at_kid (leaf_place 0) (λ c t. root (g t)) x r)
          → refs (ite d (child c (g t) r) (child c t (swap g x r))) ≡ ite d ((c, ite d (root (g t)) (at_kid (leaf_place 0) (λ c t. root (g t)) x r)) ∷ refs r) ((c, root t) ∷ re_ref (refs r) x (ite d (root (g t)) (at_kid (leaf_place 0) (λ c t. root (g t)) x r)))
      go (yes e) ih = refl
      go (no n) ih = ap (λ (l : Refs). (c, root t) ∷ l) ih

  swap_refs : (g : Tree A → Tree A) (x : ℕ) (r : Row A) → refs (swap g x r) ≡ re_ref (refs r) x (spot x (swap g x r))
  swap_refs g x r = re_swap g x r ∙ ap (re_ref (refs r) x) (sym (spot_swap g x r))

  pub grow_refs : (r : Row A) (pl : Plan) (x : ℕ) (u : Tag) (a : A) → refs (grow_row r pl x u a) ≡ re_ref (refs r) x (spot x (grow_row r pl x u a))
  grow_refs r pl x u a = rw (grow_swap r pl x u a) (swap_refs (λ t. grow t pl u a) x r)

  pub prune_refs : (r : Row A) (f : A → Option A) (hm : Home) (x : ℕ) (u : Tag) → refs (prune_row r f hm x u) ≡ re_ref (refs r) x (spot x (prune_row r f hm x u))
  prune_refs r f hm x u = rw (prune_swap r f hm x u) (swap_refs (λ t. prune t f hm u) x r)

  pub re_spot : (x : ℕ) (r : Row A) → re_ref (refs r) x (spot x r) ≡ refs r
  re_spot x end = refl
  re_spot x (child c t r) = go (ℕ_discrete x c) (re_spot x r)
    where
      go : (d : Dec (x ≡ c)) → re_ref (refs r) x (spot x r) ≡ refs r → ite d ((c, ite d (root t) (spot x r)) ∷ refs r) ((c, root t) ∷ re_ref (refs r) x (ite d (root t) (spot x r))) ≡ (c, root t) ∷ refs r
      go (yes e) ih = refl
      go (no n) ih = ap (λ (l : Refs). (c, root t) ∷ l) ih

  pub pair_refs : (x : ℕ) (t : Tree A) (y : ℕ) (u : Tree A) → refs (pair x t y u) ≡ pair_ref x (root t) y (root u)
  pair_refs x t y u = go (order x y)
    where
      go : (o : Order x y) → refs (pair_by x y o t u) ≡ pair_ref_by x y o (root t) (root u)
      go (below h) = refl
      go (equal h) = refl
      go (above h) = refl

  pub add_refs : (b : ℕ) (t : Tree A) (r : Row A) → refs (add_child b t r) ≡ add_ref b (root t) (refs r)
  add_refs b t end = refl
  add_refs b t (child c u r) = go (order b c) (add_refs b t r)
    where
      go : (o : Order b c) → refs (add_child b t r) ≡ add_ref b (root t) (refs r) → refs (add_by b c o t u r (add_child b t r)) ≡ add_ref_by b (root t) (c, root u) o (refs r) (add_ref b (root t) (refs r))
      go (below h) e = refl
      go (equal h) e = refl
      go (above h) e = ap (λ (l : Refs). (c, root u) ∷ l) e

  pub cut_refs : (x : ℕ) (r : Row A) → refs (cut_row x r) ≡ cut_ref x (refs r)
  cut_refs x end = refl
  cut_refs x (child c t r) = go (ℕ_discrete x c) (cut_refs x r)
    where
      go : (d : Dec (x ≡ c)) → refs (cut_row x r) ≡ cut_ref x (refs r) → refs (ite d r (child c t (cut_row x r))) ≡ ite d (refs r) ((c, root t) ∷ cut_ref x (refs r))
      go (yes e) ih = refl
      go (no n) ih = ap (λ (l : Refs). (c, root t) ∷ l) ih

  pub count_refs : (r : Row A) → length (refs r) ≡ count r
  count_refs end = refl
  count_refs (child c t r) = ap suc (count_refs r)

  -- ── a record written only where its child has moved is the record written in any case ──
  pub relink_same : (τ : Store A) (here : Place) (len : ℕ) (st : List ℕ) (r r' : Row A) (x : ℕ) → τ here ≡ inner_cell len st (refs r) → refs r' ≡ re_ref (refs r) x (spot x r')
      → apply τ (relink here (inner_cell len st (refs r)) x (spot x r) (spot x r')) ≡ write τ here (inner_cell len st (refs r'))
  relink_same τ here len st r r' x h e = go (place_dec (spot x r) (spot x r'))
    where
      go : (d : Dec (spot x r ≡ spot x r')) → apply τ (ite d [] ((here, inner_cell len st (re_ref (refs r) x (spot x r'))) ∷ [])) ≡ write τ here (inner_cell len st (refs r'))
      go (yes i) = sym (write_id τ here _ (h ∙ ap (λ (l : Refs). inner_cell len st l) (sym (re_spot x r) ∙ ap (re_ref (refs r) x) i ∙ sym e)))
      go (no n) = ap (λ (l : Refs). write τ here (inner_cell len st l)) (sym e)

  pub relink_none : (here : Place) (c : Cell A) (x : ℕ) (y : Place) → relink here c x y y ≡ []
  relink_none here c x y = if_pos (place_dec y y) refl _ _
