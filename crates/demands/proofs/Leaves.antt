-- All leaves of a sound block are in use exactly where it holds as many tags as it has leaves: each tag of its tree has one leaf of the pool.
use Prim.Native.Nat.{ℕ, zero, suc, ◌+◌, ◌*◌, ◌≤◌, ◌<◌}
use mathlib.Core.Path.{◌≡◌, refl, sym, ap, ap₂, subst, ◌∙◌}
use mathlib.Core.Logic.{inl, inr}
use mathlib.Core.List.{List, [], ◌∷◌, ◌++◌}
use mathlib.Core.Option.{Option, none, some}
use mathlib.Core.Bool.{true}
use native.Mathlib.Decide.{dec_le}
use native.Mathlib.Omega.{arith}
use lib.ListN.{length, take, get_or, length-append}
use borrow.Author.Tests.{lt-ltb, ltb-true}
use Rattle.frames.specs.Frame.{frame}
use Rattle.frames.specs.Place.{in_pool, number_at}
use Rattle.frames.specs.declared.frame.Frame.{Frame}
use Rattle.records.specs.View.{Held, cell_of}
use Rattle.art.specs.Tags.{Tag, Listing}
use Rattle.art.specs.Listings.{under}
use Rattle.art.specs.Trees.{Tree, leaf, inner, Row, end, child, contents, row_contents}
use Rattle.art.specs.Deletes.{held}
use Rattle.art.specs.Stores.{Place, leaf_place, inner_place, Cell, unused, leaf_cell, inner_cell, Store, empty, refs, store, store_row, Used, Once, OnceRow}
use Rattle.art.specs.Calls.{OnceOf}
use Rattle.art.specs.Points.{store_of}
use Rattle.art.specs.Visit.{spots, row_spots}
use Rattle.art.specs.Members.{In}
use Rattle.art.proofs.Members.{in_left, in_right}
use Rattle.art.proofs.Passes.{store_on}
use Rattle.art.proofs.Stores.{leaf_inner}
use Rattle.whole.specs.Sound.{Sound}
use Rattle.whole.proofs.Sounds.{used_pool}
use Rattle.insert.specs.Room.{LeavesFull}
use Rattle.demands.specs.Listed.{Full}
use Rattle.demands.proofs.Sums.{sum, sum_off, sum_empty, sum_combined, sum_on}
use Rattle.demands.proofs.Inner.{one, one_used}

-- ── sums, and what bounds them ──
module _ (w : Cell Held → ℕ) (σ : Store Held) (at : ℕ → Place) where
  -- one of the cells
  pub sum_one : (n m : ℕ) → n < m → w (σ (at n)) ≤ sum w σ at m
  sum_one n zero l = absurd (omega arith)
  sum_one n (suc m) l = go (dec_le (suc n) m) (sum_one n m)
    where
      go : Dec (suc n ≤ m) → (n < m → w (σ (at n)) ≤ sum w σ at m) → w (σ (at n)) ≤ sum w σ at m + w (σ (at m))
      go (yes h) ih = omega (arith, ih h)
      go (no h) ih = let e : n ≡ m = omega arith in omega (arith, ap (λ (i : ℕ). w (σ (at i))) e)

  -- each of them at least b
  pub sum_least : (b m : ℕ) → ((n : ℕ) → n < m → b ≤ w (σ (at n))) → b * m ≤ sum w σ at m
  sum_least b zero h = omega arith
  sum_least b (suc m) h = omega (arith, sum_least b m (λ n l. h n (omega arith)), h m (omega arith))

-- used cells are no more than the places, and as many only where all are used
one_most : (c : Cell Held) → one c ≤ 1
one_most unused = omega arith
one_most (leaf_cell t a) = omega arith
one_most (inner_cell n st rs) = omega arith

pub used_most : (σ : Store Held) (at : ℕ → Place) (m : ℕ) → sum one σ at m ≤ m
used_most σ at zero = omega arith
used_most σ at (suc m) = omega (arith, used_most σ at m, one_most (σ (at m)))

one_is : (c : Cell Held) → 1 ≤ one c → Used c
one_is unused h = omega arith
one_is (leaf_cell t a) h = tt
one_is (inner_cell n st rs) h = tt

pub used_all : (σ : Store Held) (at : ℕ → Place) (m : ℕ) → m ≤ sum one σ at m → (n : ℕ) → n < m → Used (σ (at n))
used_all σ at zero h n l = absurd (omega arith)
used_all σ at (suc m) h n l = go (dec_le (suc n) m) (λ i. used_all σ at m (omega (arith, one_most (σ (at m)))) n i)
  where
    go : Dec (suc n ≤ m) → (n < m → Used (σ (at n))) → Used (σ (at n))
    go (yes i) ih = ih i
    go (no i) ih = let e : n ≡ m = omega arith in subst (λ (j : ℕ). Used (σ (at j))) (sym e) (one_is (σ (at m)) (omega (arith, used_most σ at m)))

pub under_length : (p : Tag) (l : Listing Held) → length (under p l) ≡ length l
under_length p [] = refl
under_length p (e ∷ l) = ap suc (under_length p l)

-- ── the leaves of a tree whose places are all of a pool ──
module _ (f : Frame) where
  mutual
    pub leaves_sum : (t : Tree Held) (p : Tag) → Once t p → ((x : Place) → In x (spots t) → in_pool f x ≡ true) → sum one (store t p) leaf_place (get_or f.caps 5 0) ≡ length (contents t)
    leaves_sum (leaf n s a) p o h =
        sum_on one refl leaf_place (λ i j e. ap number_at e) empty n (leaf_cell (p ++ s) a) refl (get_or f.caps 5 0) (ltb-true n (get_or f.caps 5 0) (h (leaf_place n) (inl refl)))
        ∙ ap (λ (i : ℕ). i + 1) (sum_empty one refl leaf_place (get_or f.caps 5 0))
    leaves_sum (inner k n run r) p o h =
        sum_off one (store_row r (p ++ run)) (inner_place k n) (inner_cell (length run) (take 8 run) (refs r)) leaf_place (get_or f.caps 5 0) (λ m l. leaf_inner m k n)
        ∙ row_leaves_sum r (p ++ run) o.1 (λ x i. h x (inr i)) ∙ sym (under_length run (row_contents r))

    row_leaves_sum : (r : Row Held) (q : Tag) → OnceRow r q → ((x : Place) → In x (row_spots r) → in_pool f x ≡ true) → sum one (store_row r q) leaf_place (get_or f.caps 5 0) ≡ length (row_contents r)
    row_leaves_sum end q o h = sum_empty one refl leaf_place (get_or f.caps 5 0)
    row_leaves_sum (child b t r) q o h =
        sum_combined one refl (store t (q ++ b ∷ [])) (store_row r q) o.1 leaf_place (get_or f.caps 5 0)
        ∙ ap₂ ◌+◌ (leaves_sum t (q ++ b ∷ []) o.0 (λ x i. h x (in_left x (spots t) (row_spots r) i)) ∙ sym (under_length (b ∷ []) (contents t)))
        (row_leaves_sum r q o.2 (λ x i. h x (in_right x (spots t) (row_spots r) i)))
        ∙ sym (length-append (under (b ∷ []) (contents t)) (row_contents r))

-- ── a sound block ──
module _ {words keys : List ℕ} (s : Sound words keys) where
  abbrev places : ℕ
  places = get_or (frame words).caps 5 0

  abbrev σ : Store Held
  σ = store_of s.tree

  used_leaves : sum one σ leaf_place places ≡ length (held s.tree)
  used_leaves = go s.tree s.once s.shown
    where
      go : (d : Option (Tree Held)) → OnceOf d → ((x : Place) → cell_of (frame words) words keys x ≡ store_of d x) → sum one (store_of d) leaf_place places ≡ length (held d)
      go none o h = sum_empty one refl leaf_place places
      go (some t) o h = leaves_sum (frame words) t [] o (λ x i. used_pool (frame words) words keys x (subst Used (sym (h x)) (store_on t [] x i)))

  pub full_count : LeavesFull (frame words) σ → Full s
  full_count full =
      let least = sum_least one σ leaf_place 1 places (λ n l. omega (arith, one_used (σ (leaf_place n)) (full n (lt-ltb n places l)))) in
      omega (arith, used_leaves, used_most σ leaf_place places, least)

  pub count_full : Full s → LeavesFull (frame words) σ
  count_full e n p = used_all σ leaf_place places (omega (arith, used_leaves)) n (ltb-true n places p)
