-- Each place of a pool has a mark, and no two have the same.
use Prim.Native.Nat.{ℕ, zero, suc, ◌+◌, ◌≤◌, ◌<◌}
use mathlib.Core.Path.{◌≡◌, refl, ap, ◌∙◌}
use mathlib.Core.List.{List}
use mathlib.Core.Bool.{true}
use native.Mathlib.Omega.{arith}
use native.Mathlib.Decide.{ℕ_discrete, dec_lt}
use lib.ListN.{get_or}
use lib.Dec.{leb, ltb}
use borrow.Author.Tests.{leb-true, ltb-true}
use Rattle.lists.proofs.Tests.{both}
use Rattle.frames.specs.Place.{in_pool, kind_at, number_at}
use Rattle.frames.specs.declared.frame.Frame.{Frame}
use Rattle.art.specs.Stores.{Place, leaf_place, inner_place}
use Rattle.whole.specs.Marks.{sum_to, places_in, mark_at}
use Rattle.whole.proofs.Marking.{sum_suc}

sum_mono : (j k : ℕ) (l : List ℕ) → j ≤ k → sum_to j l ≤ sum_to k l
sum_mono j zero l h = omega (arith, ap (λ (i : ℕ). sum_to i l) (let q : j ≡ 0 = omega arith in q))
sum_mono j (suc k) l h = go (ℕ_discrete j (suc k)) (λ i. sum_mono j k l i)
  where
    go : Dec (j ≡ suc k) → (j ≤ k → sum_to j l ≤ sum_to k l) → sum_to j l ≤ sum_to (suc k) l
    go (yes e) ih = omega (arith, ap (λ (i : ℕ). sum_to i l) e)
    go (no n) ih = omega (arith, ih (omega arith), sum_suc k l)

-- a pool's marks end where the next one's begin, or before
sum_past : (j k : ℕ) (l : List ℕ) → j < k → sum_to j l + get_or l j 0 ≤ sum_to k l
sum_past j k l h = omega (arith, sum_suc j l, sum_mono (suc j) k l h)

module _ (f : Frame) where
  mark_is : (x : Place) → mark_at f x ≡ sum_to (kind_at x) f.caps + number_at x
  mark_is (leaf_place n) = refl
  mark_is (inner_place k n) = refl

  pub pool_parts : (x : Place) → in_pool f x ≡ true → (kind_at x ≤ 5) × (number_at x < get_or f.caps (kind_at x) 0)
  pool_parts (leaf_place n) e = (omega arith, ltb-true _ _ e)
  pool_parts (inner_place k n) e =
      let p = both (leb k 4) (ltb n (get_or f.caps k 0)) e in
      (omega (arith, leb-true k 4 p.0), ltb-true _ _ p.1)

  pub mark_room : (x : Place) → in_pool f x ≡ true → mark_at f x < places_in f
  unfolding places_in
  mark_room x e =
      let p = pool_parts x e in
      omega (arith, mark_is x, p.1, sum_past (kind_at x) 6 f.caps (omega (arith, p.0)))

  place_by : (x y : Place) → in_pool f x ≡ true → in_pool f y ≡ true → kind_at x ≡ kind_at y → number_at x ≡ number_at y → x ≡ y
  place_by (leaf_place n) (leaf_place m) p q k e = ap leaf_place e
  place_by (leaf_place n) (inner_place j m) p q k e = absurd (omega (arith, leb-true j 4 (both (leb j 4) (ltb m (get_or f.caps j 0)) q).0))
  place_by (inner_place i n) (leaf_place m) p q k e = absurd (omega (arith, leb-true i 4 (both (leb i 4) (ltb n (get_or f.caps i 0)) p).0))
  place_by (inner_place i n) (inner_place j m) p q k e = ap (λ (a : ℕ). inner_place a n) k ∙ ap (inner_place j) e

  pub marks_apart : (x y : Place) → in_pool f x ≡ true → in_pool f y ≡ true → mark_at f x ≡ mark_at f y → x ≡ y
  marks_apart x y p q e = go (ℕ_discrete (kind_at x) (kind_at y)) (dec_lt (kind_at x) (kind_at y))
    where
      go : Dec (kind_at x ≡ kind_at y) → Dec (kind_at x < kind_at y) → x ≡ y
      go (yes k) l =
          place_by x y p q k (omega (arith, mark_is x, mark_is y, ap (λ (j : ℕ). sum_to j f.caps) k))
      go (no n) (yes l) = absurd (omega (arith, mark_is x, mark_is y, (pool_parts x p).1, sum_past (kind_at x) (kind_at y) f.caps l))
      go (no n) (no l) = absurd (omega (arith, mark_is x, mark_is y, (pool_parts y q).1, sum_past (kind_at y) (kind_at x) f.caps (omega arith)))
