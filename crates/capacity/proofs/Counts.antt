-- A tree of n tags has n - 1 children more than branchings, and each of its records stands once in a pool, so a pool that is full bounds the number of tags from below.
use Prim.Native.Nat.{ℕ, ◌+◌, ◌-◌, ◌*◌, ◌≤◌, ◌<◌}
use mathlib.Core.Path.{◌≡◌, refl, sym, ap, subst}
use mathlib.Core.Logic.{ite, if_neg}
use mathlib.Core.List.{List, [], ◌∷◌, ◌++◌}
use mathlib.Core.Bool.{true}
use native.Mathlib.Decide.{dec_le}
use native.Mathlib.Omega.{arith}
use lib.ListN.{length, take, length-append}
use lib.Dec.{leb, ltb}
use borrow.Author.Tests.{le-leb, lt-ltb, ltb-true}
use Rattle.lists.proofs.Tests.{both, and_both}
use Rattle.frames.specs.Place.{in_pool}
use Rattle.frames.specs.declared.frame.Frame.{Frame}
use Rattle.frames.proofs.Places.{inner_kind}
use Rattle.records.specs.View.{Held}
use Rattle.art.specs.Tags.{Tag}
use Rattle.art.specs.Listings.{under}
use Rattle.art.specs.Trees.{Tree, leaf, inner, Row, end, child, contents, row_contents, count, Good, GoodRow}
use Rattle.art.specs.Stores.{Place, leaf_place, inner_place, place_dec, Cell, unused, leaf_cell, inner_cell, Store, or_cell, write, refs, store, store_row, Used, Once}
use Rattle.art.specs.Refs.{Refs}
use Rattle.art.specs.Chain.{Links}
use Rattle.art.specs.Visit.{spots}
use Rattle.art.specs.Members.{In}
use Rattle.art.proofs.Refs.{count_refs}
use Rattle.art.proofs.Passes.{store_on}
use Rattle.art.proofs.Stores.{leaf_inner}
use Rattle.states.specs.State.{State}
use Rattle.states.proofs.OneCell.{used_pool}
use Rattle.insert.specs.Room.{LeavesFull}
use Rattle.demands.proofs.Sums.{sum, heft, row_heft, heft_four}
use Rattle.demands.proofs.Inner.{one}
use Rattle.demands.proofs.Leaves.{sum_one, sum_least, used_most, used_all, under_length, leaves_sum}
use Rattle.capacity.specs.Capacity.{cap, Over}

-- every record of this kind is in use
abbrev pub PoolFull : Frame → Store Held → ℕ → Type 0
PoolFull f σ k = (n : ℕ) → in_pool f (inner_place k n) ≡ true → Used (σ (inner_place k n))

-- ── children but one, of all branchings ──
abbrev pub extra : Cell Held → ℕ
extra unused = 0
extra (leaf_cell t a) = 0
extra (inner_cell len st rs) = length rs - 1

mutual
  pub extra_tags : (t : Tree Held) → Good t → heft extra t + 1 ≡ length (contents t)
  extra_tags (leaf n s a) g = refl
  extra_tags (inner k n run r) g = omega (arith, row_extra_tags r g.1, count_refs r, g.0, under_length run (row_contents r))

  row_extra_tags : (r : Row Held) → GoodRow r → row_heft extra r + count r ≡ length (row_contents r)
  row_extra_tags end g = refl
  row_extra_tags (child b t r) g =
      omega (arith, extra_tags t g.0, row_extra_tags r g.2, under_length (b ∷ []) (contents t), length-append (under (b ∷ []) (contents t)) (row_contents r))

-- ── every inner record of a good tree has over one child ──
write_over : (m : ℕ) (σ : Store Held) (x y : Place) (c : Cell Held) → Over m c → Over m (σ y) → Over m (write σ x c y)
write_over m σ x y c h i = elim (place_dec y x) as (λ d. Over m (ite d c (σ y))) [ yes e ↦ h | no e ↦ i ]

or_over : (m : ℕ) (c d : Cell Held) → Over m c → Over m d → Over m (or_cell c d)
or_over m unused d h i = i
or_over m (leaf_cell t a) d h i = h
or_over m (inner_cell n st rs) d h i = h

mutual
  pub tree_over : (t : Tree Held) → Good t → (p : Tag) (k n : ℕ) → Over 1 (store t p (inner_place k n))
  tree_over (leaf m s a) g p k n = subst (Over 1) (sym (if_neg (place_dec (inner_place k n) (leaf_place m)) (λ e. leaf_inner m k n (sym e)) (leaf_cell (p ++ s) a) unused)) tt
  tree_over (inner j m run r) g p k n =
      write_over 1 (store_row r (p ++ run)) (inner_place j m) (inner_place k n) (inner_cell (length run) (take 8 run) (refs r)) (omega (arith, count_refs r, g.0)) (row_over r g.1 (p ++ run) k n)

  row_over : (r : Row Held) → GoodRow r → (q : Tag) (k n : ℕ) → Over 1 (store_row r q (inner_place k n))
  row_over end g q k n = tt
  row_over (child b t r) g q k n = or_over 1 (store t (q ++ b ∷ []) (inner_place k n)) (store_row r q (inner_place k n)) (tree_over t g.0 (q ++ b ∷ []) k n) (row_over r g.2 q k n)

extra_over : (m : ℕ) (c : Cell Held) → Used c → Over m c → m ≤ extra c
extra_over m unused u h = absurd u
extra_over m (leaf_cell v a) u h = absurd h
extra_over m (inner_cell len st rs) u h = omega arith

-- ── a block that shows a good tree ──
module _ {f : Frame} {words keys : List ℕ} {links : Links} {root size : ℕ} (t : Tree Held) (s : State f words keys (store t []) links root size) (good : Good t) (once : Once t []) where
  abbrev σ : Store Held
  σ = store t []

  abbrev tags : ℕ
  tags = length (contents t)

  pool : (x : Place) → In x (spots t) → in_pool f x ≡ true
  pool x i = used_pool s x (store_on t [] x i)

  -- its leaves are its tags
  used_leaves : sum one σ leaf_place (cap f 5) ≡ tags
  used_leaves = leaves_sum f t [] once pool

  pub tags_most : tags ≤ cap f 5
  tags_most = omega (arith, used_leaves, used_most σ leaf_place (cap f 5))

  -- a leaf is free
  pub tags_fewer : ¬ LeavesFull f σ → tags < cap f 5
  tags_fewer free = go (dec_le (cap f 5) tags)
    where
      go : Dec (cap f 5 ≤ tags) → tags < cap f 5
      go (yes h) = absurd (free (λ n p. used_all σ leaf_place (cap f 5) (omega (arith, used_leaves)) n (ltb-true n (cap f 5) p)))
      go (no h) = omega arith

  -- children but one, pool by pool
  abbrev pub extras : ℕ → ℕ
  extras k = sum extra σ (inner_place k) (cap f k)

  pub extras_are : extras 1 + extras 2 + extras 3 + extras 4 + 1 ≡ tags
  extras_are = omega (arith, heft_four extra refl f (inner_kind s.frame) t [] once pool, extra_tags t good)

  -- a full pool whose records have over m children each
  pub full_pool : (m k : ℕ) → k ≤ 4 → PoolFull f σ k → ((n : ℕ) → Over m (σ (inner_place k n))) → m * cap f k ≤ extras k
  full_pool m k high full over = sum_least extra σ (inner_place k) m (cap f k) (λ n l. extra_over m (σ (inner_place k n)) (full n (and_both (le-leb k 4 high) (lt-ltb n (cap f k) l))) (over n))

  -- one record of a pool
  pub one_record : (k n len : ℕ) (st : List ℕ) (rs : Refs) → σ (inner_place k n) ≡ inner_cell len st rs → (1 ≤ k) × (k ≤ 4) × (length rs ≤ extras k + 1)
  one_record k n len st rs e =
      let inside = used_pool s (inner_place k n) (subst Used (sym e) tt) in
      let kind = inner_kind s.frame k n inside in
      let few = sum_one extra σ (inner_place k) n (cap f k) (ltb-true n (cap f k) (both (leb k 4) (ltb n (cap f k)) inside).1) in
      (kind.0, kind.1, omega (arith, few, ap extra e))
