-- Sums over the places of the pools: of two stores without a shared place they add, and a cell at a free place adds its own; so over a tree's store they go by its records.
use Prim.Native.Nat.{ℕ, zero, suc, ◌+◌, ◌≤◌, ◌<◌}
use mathlib.Core.Path.{◌≡◌, refl, sym, ap, ap₂, subst, ◌∙◌}
use mathlib.Core.Logic.{◌≢◌, ◌⊎◌, inl, inr, if_pos, if_neg}
use mathlib.Core.List.{[], ◌∷◌, ◌++◌}
use mathlib.Core.Bool.{true}
use native.Mathlib.Decide.{ℕ_discrete}
use native.Mathlib.Omega.{arith}
use lib.ListN.{length, get_or, take}
use lib.Dec.{leb, ltb}
use borrow.Author.Tests.{ltb-true}
use Rattle.lists.proofs.Tests.{both}
use Rattle.frames.specs.Place.{in_pool, kind_at, number_at}
use Rattle.frames.specs.declared.frame.Frame.{Frame}
use Rattle.records.specs.View.{Held}
use Rattle.art.specs.Tags.{Tag}
use Rattle.art.specs.Trees.{Tree, leaf, inner, Row, end, child}
use Rattle.art.specs.Stores.{Place, leaf_place, inner_place, place_dec, Cell, unused, leaf_cell, inner_cell, Store, empty, or_cell, combined, write, refs, store, store_row, Used, Separate, Once, OnceRow}
use Rattle.art.specs.Visit.{spots, row_spots}
use Rattle.art.specs.Members.{In}
use Rattle.art.proofs.Members.{in_left, in_right}

module _ (w : Cell Held → ℕ) where
  -- of the cells with a number below m
  abbrev pub sum : Store Held → (ℕ → Place) → ℕ → ℕ
  sum σ at zero = 0
  sum σ at (suc m) = sum σ at m + w (σ (at m))

  -- of the four pools of inner records
  abbrev pub four : Frame → Store Held → ℕ
  four f σ =
      sum σ (inner_place 1) (get_or f.caps 1 0) + sum σ (inner_place 2) (get_or f.caps 2 0) + sum σ (inner_place 3) (get_or f.caps 3 0) + sum σ (inner_place 4) (get_or f.caps 4 0)

  -- of a tree's inner records
  abbrev mutual
    pub heft : Tree Held → ℕ
    heft (leaf n s a) = 0
    heft (inner k n run r) = row_heft r + w (inner_cell (length run) (take 8 run) (refs r))

    pub row_heft : Row Held → ℕ
    row_heft end = 0
    row_heft (child b t r) = heft t + row_heft r

  pub sum_same : (σ τ : Store Held) (at : ℕ → Place) (m : ℕ) → ((n : ℕ) → n < m → w (σ (at n)) ≡ w (τ (at n))) → sum σ at m ≡ sum τ at m
  sum_same σ τ at zero h = refl
  sum_same σ τ at (suc m) h = ap₂ ◌+◌ (sum_same σ τ at m (λ n l. h n (omega arith))) (h m (omega arith))

  write_other : (σ : Store Held) (x y : Place) (c : Cell Held) → y ≢ x → w (write σ x c y) ≡ w (σ y)
  write_other σ x y c ne = ap w (if_neg (place_dec y x) ne c (σ y))

  -- a place written elsewhere
  pub sum_off : (σ : Store Held) (x : Place) (c : Cell Held) (at : ℕ → Place) (m : ℕ) → ((n : ℕ) → n < m → at n ≢ x) → sum (write σ x c) at m ≡ sum σ at m
  sum_off σ x c at m h = sum_same (write σ x c) σ at m (λ n l. write_other σ x (at n) c (h n l))

  -- what is unused counts nothing
  module _ (nothing : w unused ≡ 0) where
    weigh_or : (c d : Cell Held) → (c ≡ unused) ⊎ (d ≡ unused) → w (or_cell c d) ≡ w c + w d
    weigh_or unused d h = omega (arith, nothing)
    weigh_or (leaf_cell t a) d (inl e) = absurd (subst Used e tt)
    weigh_or (leaf_cell t a) d (inr e) = omega (arith, nothing, ap w e)
    weigh_or (inner_cell n st rs) d (inl e) = absurd (subst Used e tt)
    weigh_or (inner_cell n st rs) d (inr e) = omega (arith, nothing, ap w e)

    pub sum_empty : (at : ℕ → Place) (m : ℕ) → sum empty at m ≡ 0
    sum_empty at zero = refl
    sum_empty at (suc m) = omega (arith, sum_empty at m, nothing)

    pub sum_combined : (σ τ : Store Held) → Separate σ τ → (at : ℕ → Place) (m : ℕ) → sum (combined σ τ) at m ≡ sum σ at m + sum τ at m
    sum_combined σ τ d at zero = refl
    sum_combined σ τ d at (suc m) = omega (arith, sum_combined σ τ d at m, weigh_or (σ (at m)) (τ (at m)) (d (at m)))

    -- a free place among them
    pub sum_on : (at : ℕ → Place) → ((i j : ℕ) → at i ≡ at j → i ≡ j) → (σ : Store Held) (n : ℕ) (c : Cell Held) → σ (at n) ≡ unused → (m : ℕ) → n < m
        → sum (write σ (at n) c) at m ≡ sum σ at m + w c
    sum_on at apart σ n c e zero l = absurd (omega arith)
    sum_on at apart σ n c e (suc m) l = go (ℕ_discrete n m) (sum_on at apart σ n c e m)
      where
        x : Place
        x = at n

        go : Dec (n ≡ m) → (n < m → sum (write σ x c) at m ≡ sum σ at m + w c) → sum (write σ x c) at (suc m) ≡ sum σ at (suc m) + w c
        go (yes i) ih =
            let was : w (σ (at m)) ≡ 0 = ap w (ap (λ (j : ℕ). σ (at j)) (sym i) ∙ e) ∙ nothing in
            let now : w (write σ x c (at m)) ≡ w c = ap w (if_pos (place_dec (at m) x) (ap at (sym i)) c (σ (at m))) in
            omega (arith, was, now, sum_off σ x c at m (λ j h q. let r : j ≡ n = apart j n q in omega arith))
        go (no i) ih =
            let now : w (write σ x c (at m)) ≡ w (σ (at m)) = write_other σ x (at m) c (λ q. i (sym (apart m n q))) in
            omega (arith, now, ih (omega arith))

    -- ── in all four pools ──
    module _ (f : Frame) where
      abbrev inners : Store Held → ℕ → ℕ
      inners σ k = sum σ (inner_place k) (get_or f.caps k 0)

      pub four_empty : four f empty ≡ 0
      four_empty =
          let none : (k : ℕ) → inners empty k ≡ 0 = λ k. sum_empty (inner_place k) (get_or f.caps k 0) in
          omega (arith, none 1, none 2, none 3, none 4)

      four_combined : (σ τ : Store Held) → Separate σ τ → four f (combined σ τ) ≡ four f σ + four f τ
      four_combined σ τ d =
          let add : (k : ℕ) → inners (combined σ τ) k ≡ inners σ k + inners τ k = λ k. sum_combined σ τ d (inner_place k) (get_or f.caps k 0) in
          omega (arith, add 1, add 2, add 3, add 4)

      -- a leaf is not among them
      four_leaf : (n : ℕ) (c : Cell Held) → four f (write empty (leaf_place n) c) ≡ 0
      four_leaf n c =
          let off : (k : ℕ) → k ≤ 4 → inners (write empty (leaf_place n) c) k ≡ 0 =
          λ k l. sum_off empty (leaf_place n) c (inner_place k) (get_or f.caps k 0) (λ m h q. let r : k ≡ 5 = ap kind_at q in omega arith) ∙ sum_empty (inner_place k) (get_or f.caps k 0) in
          omega (arith, off 1 (omega arith), off 2 (omega arith), off 3 (omega arith), off 4 (omega arith))

      -- one more inner record, of a pool
      four_inner : (σ : Store Held) (k n : ℕ) (c : Cell Held) → σ (inner_place k n) ≡ unused → 1 ≤ k → k ≤ 4 → n < get_or f.caps k 0 → four f (write σ (inner_place k n) c) ≡ four f σ + w c
      four_inner σ k n c e low high l =
          let here : (j : ℕ) → k ≡ j → inners τ j ≡ inners σ j + w c =
          λ j q. subst (λ (i : ℕ). inners τ i ≡ inners σ i + w c) q (sum_on (inner_place k) (λ a b p. ap number_at p) σ n c e (get_or f.caps k 0) l) in
          let off : (j : ℕ) → j ≢ k → inners τ j ≡ inners σ j = λ j q. sum_off σ (inner_place k n) c (inner_place j) (get_or f.caps j 0) (λ m h r. q (ap kind_at r)) in
          go (ℕ_discrete k 1) (ℕ_discrete k 2) (ℕ_discrete k 3) here off
        where
          τ : Store Held
          τ = write σ (inner_place k n) c

          go : Dec (k ≡ 1) → Dec (k ≡ 2) → Dec (k ≡ 3) → ((j : ℕ) → k ≡ j → inners τ j ≡ inners σ j + w c) → ((j : ℕ) → j ≢ k → inners τ j ≡ inners σ j) → four f τ ≡ four f σ + w c
          go (yes a) b d here off = omega (arith, here 1 a, off 2 (λ q. omega arith), off 3 (λ q. omega arith), off 4 (λ q. omega arith))
          go (no a) (yes b) d here off = omega (arith, off 1 (λ q. omega arith), here 2 b, off 3 (λ q. omega arith), off 4 (λ q. omega arith))
          go (no a) (no b) (yes d) here off = omega (arith, off 1 (λ q. omega arith), off 2 (λ q. omega arith), here 3 d, off 4 (λ q. omega arith))
          go (no a) (no b) (no d) here off = omega (arith, off 1 (λ q. omega arith), off 2 (λ q. omega arith), off 3 (λ q. omega arith), here 4 (omega arith))

      -- ── the store of a tree, whose places are all of a pool ──
      module _ (pool : (k n : ℕ) → in_pool f (inner_place k n) ≡ true → (1 ≤ k) × (k ≤ 4)) where
        mutual
          pub heft_four : (t : Tree Held) (p : Tag) → Once t p → ((x : Place) → In x (spots t) → in_pool f x ≡ true) → four f (store t p) ≡ heft t
          heft_four (leaf n s a) p o h = four_leaf n (leaf_cell (p ++ s) a)
          heft_four (inner k n run r) p o h =
              let here = h (inner_place k n) (inl refl) in
              let kind = pool k n here in
              four_inner (store_row r (p ++ run)) k n (inner_cell (length run) (take 8 run) (refs r)) o.0 kind.0 kind.1 (ltb-true n (get_or f.caps k 0) (both (leb k 4) (ltb n (get_or f.caps k 0)) here).1)
              ∙ ap (λ (i : ℕ). i + w (inner_cell (length run) (take 8 run) (refs r))) (row_heft_four r (p ++ run) o.1 (λ x i. h x (inr i)))

          row_heft_four : (r : Row Held) (q : Tag) → OnceRow r q → ((x : Place) → In x (row_spots r) → in_pool f x ≡ true) → four f (store_row r q) ≡ row_heft r
          row_heft_four end q o h = four_empty
          row_heft_four (child b t r) q o h =
              four_combined (store t (q ++ b ∷ [])) (store_row r q) o.1
              ∙ ap₂ ◌+◌ (heft_four t (q ++ b ∷ []) o.0 (λ x i. h x (in_left x (spots t) (row_spots r) i))) (row_heft_four r q o.2 (λ x i. h x (in_right x (spots t) (row_spots r) i)))
