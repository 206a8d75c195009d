-- The places of the pools share no word, and two leaves share no key byte: in a pool a record ends where the next begins, and a pool ends where the next pool begins.
use Prim.Native.Nat.{ℕ, zero, suc, ◌+◌, ◌-◌, ◌*◌, ◌≤◌, ◌<◌}
use mathlib.Core.Path.{◌≡◌, refl, sym, ap, ap₂, subst}
use mathlib.Core.Logic.{◌⊎◌, inl, inr, ◌≢◌}
use mathlib.Core.List.{List}
use mathlib.Core.Bool.{true}
use native.Mathlib.Omega.{arith}
use borrow.Author.Tests.{ltb-true, leb-true}
use lib.ListN.{get_or}
use lib.Dec.{leb, ltb}
use Rattle.lists.proofs.Tests.{both}
use Rattle.frames.specs.Frame.{FrameOf, caps_list, sizes_list, starts_list}
use Rattle.frames.specs.Place.{in_pool, start_at, size_at, kind_at, number_at}
use Rattle.frames.specs.declared.form.Sizes.{Sizes}
use Rattle.frames.specs.declared.frame.Caps.{Caps}
use Rattle.frames.specs.declared.frame.Frame.{Frame}
use Rattle.frames.proofs.KindTable.{by_kind}
use Rattle.frames.proofs.Frames.{framed, frame_size, leaf_size, nth_ends}
use Rattle.frames.proofs.Places.{inner_kind}
use Rattle.art.specs.Stores.{Place, leaf_place, inner_place}
use Rattle.art.specs.Tags.{Order, order, below, equal, above}

module _ (z : Sizes) (c : Caps) where
  -- a pool ends where the next begins
  pool_next : (k : ℕ) → 1 ≤ k → k ≤ 4 → get_or (starts_list z c) k 0 + get_or (caps_list c) k 0 * get_or (sizes_list z) k 0 ≡ get_or (starts_list z c) (suc k) 0
  pool_next =
      by_kind (λ k. get_or (starts_list z c) k 0 + get_or (caps_list c) k 0 * get_or (sizes_list z) k 0 ≡ get_or (starts_list z c) (suc k) 0)
      (omega arith) (omega arith) (omega arith) (omega arith)

  starts_up : (k d : ℕ) → 1 ≤ k → k + d ≤ 5 → get_or (starts_list z c) k 0 ≤ get_or (starts_list z c) (k + d) 0
  starts_up k zero l h = subst (λ (j : ℕ). get_or (starts_list z c) k 0 ≤ get_or (starts_list z c) j 0) (let e : k ≡ k + 0 = omega arith in e) (omega arith)
  starts_up k (suc d) l h =
      subst (λ (j : ℕ). get_or (starts_list z c) k 0 ≤ get_or (starts_list z c) j 0) (let e : suc (k + d) ≡ k + suc d = omega arith in e)
      (omega (arith, starts_up k d l (omega arith), pool_next (k + d) (omega arith) (omega arith)))

  kind_before : (k n j m : ℕ) → 1 ≤ k → k < j → j ≤ 5 → n < get_or (caps_list c) k 0
      → get_or (starts_list z c) k 0 + n * get_or (sizes_list z) k 0 + get_or (sizes_list z) k 0 ≤ get_or (starts_list z c) j 0 + m * get_or (sizes_list z) j 0
  kind_before k n j m l h u a =
      let s =
      subst (λ (i : ℕ). get_or (starts_list z c) (suc k) 0 ≤ get_or (starts_list z c) i 0) (let e : suc k + (j - suc k) ≡ j = omega arith in e)
      (starts_up (suc k) (j - suc k) (omega arith) (omega arith)) in
      omega (arith, s, pool_next k l (omega arith), nth_ends n (get_or (caps_list c) k 0) (get_or (sizes_list z) k 0) a)

pub same_place : (f : Frame) (x y : Place) → in_pool f x ≡ true → in_pool f y ≡ true → kind_at x ≡ kind_at y → number_at x ≡ number_at y → x ≡ y
same_place f (leaf_place n) (leaf_place m) h i a b = ap leaf_place b
same_place f (leaf_place n) (inner_place k m) h i a b = absurd (omega (arith, leb-true k 4 (both (leb k 4) (ltb m (get_or f.caps k 0)) i).0))
same_place f (inner_place k n) (leaf_place m) h i a b = absurd (omega (arith, leb-true k 4 (both (leb k 4) (ltb n (get_or f.caps k 0)) h).0))
same_place f (inner_place k n) (inner_place j m) h i a b = ap₂ inner_place a b

-- where a place begins, and that its pool has it, by its kind and number
pub start_at_lem : (f : Frame) (x : Place) → start_at f x ≡ get_or f.starts (kind_at x) 0 + number_at x * get_or f.sizes (kind_at x) 0
start_at_lem f (leaf_place n) = refl
start_at_lem f (inner_place k n) = refl

pub number_few : (f : Frame) (x : Place) → in_pool f x ≡ true → number_at x < get_or f.caps (kind_at x) 0
number_few f (leaf_place n) h = ltb-true _ _ h
number_few f (inner_place k n) h = ltb-true _ _ (both (leb k 4) (ltb n (get_or f.caps k 0)) h).1

-- a place of a pool by its kind and number
pub record Pooled (f : Frame) (x : Place) : Type 0 where
  pub low : 1 ≤ kind_at x
  pub high : kind_at x ≤ 5
  pub size : size_at f x ≡ get_or f.sizes (kind_at x) 0

-- the place a ends before the place b begins
abbrev Ends : Frame → Place → Place → Type 0
Ends g a b =
    number_at a < get_or g.caps (kind_at a) 0
    → get_or g.starts (kind_at a) 0 + number_at a * get_or g.sizes (kind_at a) 0 + get_or g.sizes (kind_at a) 0
    ≤ get_or g.starts (kind_at b) 0 + number_at b * get_or g.sizes (kind_at b) 0

module _ {f : Frame} {words keys : List ℕ} (w : FrameOf f words keys) where
  pub pooled : (x : Place) → in_pool f x ≡ true → Pooled f x
  pooled (leaf_place n) h = record { low = omega arith; high = omega arith; size = sym (leaf_size w) }
  pooled (inner_place k n) h =
      let r = inner_kind w k n h in
      record { low = r.0; high = omega arith; size = sym (frame_size w k r.0 r.1) }

  -- two places of the pools share no word
  pub apart : (x y : Place) → in_pool f x ≡ true → in_pool f y ≡ true → x ≢ y → (start_at f x + size_at f x ≤ start_at f y) ⊎ (start_at f y + size_at f y ≤ start_at f x)
  apart x y hx hy ne = go (order (kind_at x) (kind_at y))
    where
      px : Pooled f x
      px = pooled x hx

      py : Pooled f y
      py = pooled y hy

      before : (a b : Place) → Pooled f a → Pooled f b → in_pool f a ≡ true → kind_at a < kind_at b → start_at f a + size_at f a ≤ start_at f b
      before a b pa pb ha l =
          let d = framed w in
          omega (
            arith,
            start_at_lem f a,
            start_at_lem f b,
            pa.size,
            subst (λ (g : Frame). Ends g a b) (sym d.made)
                (kind_before d.sizes d.caps (kind_at a) (number_at a) (kind_at b) (number_at b) pa.low l pb.high) (number_few f a ha),
          )

      along : (a b : Place) → Pooled f a → Pooled f b → kind_at a ≡ kind_at b → number_at a < number_at b → start_at f a + size_at f a ≤ start_at f b
      along a b pa pb e l =
          omega (
            arith,
            start_at_lem f a,
            start_at_lem f b,
            pa.size,
            nth_ends (number_at a) (number_at b) (get_or f.sizes (kind_at a) 0) l,
            ap (λ (k : ℕ). get_or f.starts k 0 + number_at b * get_or f.sizes k 0) e,
          )

      same : kind_at x ≡ kind_at y → Order (number_at x) (number_at y) → (start_at f x + size_at f x ≤ start_at f y) ⊎ (start_at f y + size_at f y ≤ start_at f x)
      same e (below l) = inl (along x y px py e l)
      same e (equal i) = absurd (ne (same_place f x y hx hy e i))
      same e (above l) = inr (along y x py px (sym e) l)

      go : Order (kind_at x) (kind_at y) → (start_at f x + size_at f x ≤ start_at f y) ⊎ (start_at f y + size_at f y ≤ start_at f x)
      go (below l) = inl (before x y px py hx l)
      go (equal e) = same e (order (number_at x) (number_at y))
      go (above l) = inr (before y x py px hy l)

-- two leaves share no key byte
pub keys_apart : (limit n m : ℕ) → n ≢ m → (n * limit + limit ≤ m * limit) ⊎ (m * limit + limit ≤ n * limit)
keys_apart limit n m ne = go (order n m)
  where
    go : Order n m → (n * limit + limit ≤ m * limit) ⊎ (m * limit + limit ≤ n * limit)
    go (below l) = inl (nth_ends n m limit l)
    go (equal e) = absurd (ne e)
    go (above l) = inr (nth_ends m n limit l)
