-- The laws of one element of a list: what is left at i, the count from there on, and the place of the one that passes after n others.
use Prim.Native.Nat.{ℕ, zero, suc, ◌+◌, ◌≤◌, ◌<◌}
use mathlib.Core.Path.{◌≡◌, ap, ◌∙◌}
use mathlib.Core.List.{List, ◌∷◌}
use mathlib.Core.Bool.{Bool, true, false}
use native.Mathlib.Numerals.{add-one}
use native.Mathlib.Omega.{arith}
use lib.ListN.{length, get_or, drop, drop_of_length-le}
use lib.Seq.{drop-cons}
use Rattle.lists.specs.Scan.{choose, nth, how_many}

-- what is left at i, its front element first
pub step : (s : List ℕ) (i : ℕ) → i < length s → drop i s ≡ get_or s i 0 ∷ drop (i + 1) s
step s i h = rw add-one (drop-cons s i 0 h)

-- how many pass: n of those before i
pub record Count (p : ℕ → Bool) (s : List ℕ) (i n : ℕ) : Type 0 where
  pub within : i ≤ length s
  pub few : n ≤ i
  pub left : how_many p s ≡ n + how_many p (drop i s)

pub count_start : {p : ℕ → Bool} {s : List ℕ} → Count p s 0 0
count_start = record { within = omega arith; few = omega arith; left = omega arith }

module _ {p : ℕ → Bool} {s : List ℕ} {i n : ℕ} (r : Count p s i n) where
  pub count_on : p (get_or s i 0) ≡ true → i < length s → Count p s (i + 1) (n + 1)
  count_on t h =
      let q : how_many p (drop i s) ≡ suc (how_many p (drop (i + 1) s)) = ap (how_many p) (step s i h) ∙ ap (λ (b : Bool). choose b (suc (how_many p (drop (i + 1) s))) (how_many p (drop (i + 1) s))) t in
      record { within = omega arith; few = omega arith; left = omega arith }

  pub count_off : p (get_or s i 0) ≡ false → i < length s → Count p s (i + 1) n
  count_off t h =
      let q : how_many p (drop i s) ≡ how_many p (drop (i + 1) s) = ap (how_many p) (step s i h) ∙ ap (λ (b : Bool). choose b (suc (how_many p (drop (i + 1) s))) (how_many p (drop (i + 1) s))) t in
      record { within = omega arith; few = omega arith; left = omega arith }

  pub count_end : length s ≤ i → n ≡ how_many p s
  count_end h =
      let q : how_many p (drop i s) ≡ 0 = ap (how_many p) (drop_of_length-le s h) in
      omega arith

-- ── the place of the one that passes after n others ──
module _ (p : ℕ → Bool) (x : ℕ) (xs : List ℕ) where
  pub nth_skips : (m : ℕ) → p x ≡ false → nth p m (x ∷ xs) ≡ suc (nth p m xs)
  nth_skips zero t = ap (λ (b : Bool). choose b 0 (suc (nth p zero xs))) t
  nth_skips (suc m) t = ap (λ (b : Bool). choose b (suc (nth p m xs)) (suc (nth p (suc m) xs))) t

  pub nth_counts : (m : ℕ) → p x ≡ true → nth p (suc m) (x ∷ xs) ≡ suc (nth p m xs)
  nth_counts m t = ap (λ (b : Bool). choose b (suc (nth p m xs)) (suc (nth p (suc m) xs))) t

  pub nth_here : p x ≡ true → nth p 0 (x ∷ xs) ≡ 0
  nth_here t = ap (λ (b : Bool). choose b 0 (suc (nth p zero xs))) t
