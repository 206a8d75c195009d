-- A rule of a table, shown at each of its entries by one test of the whole table.
use Prim.Native.Nat.{ℕ, zero, suc, ◌+◌, ◌<◌}
use mathlib.Core.Path.{◌≡◌, subst}
use mathlib.Core.List.{List, [], ◌∷◌}
use mathlib.Core.Bool.{Bool, true, ◌&&◌}
use native.Mathlib.Omega.{arith}
use lib.ListN.{length, get_or}
use Rattle.lists.proofs.Tests.{both}

pub both5 : (a b c d e : Bool) → a && b && c && d && e ≡ true → (a ≡ true) × (b ≡ true) × (c ≡ true) × (d ≡ true) × (e ≡ true)
both5 a b c d e h =
    let p = both (a && b && c && d) e h in
    let q = both (a && b && c) d p.0 in
    let r = both (a && b) c q.0 in
    let s = both a b r.0 in
    (s.0, s.1, r.1, q.1, p.1)

module _ {A : Type 0} where
  -- each entry passes with its place, counted from i
  abbrev pub every : (ℕ → A → Bool) → ℕ → List A → Bool
  every f i [] = true
  every f i (x ∷ xs) = f i x && every f (suc i) xs

  pub every_at : (f : ℕ → A → Bool) (d : A) (l : List A) (i : ℕ) → every f i l ≡ true → (k : ℕ) → k < length l → f (i + k) (get_or l k d) ≡ true
  every_at f d [] i e k h = absurd (omega arith)
  every_at f d (x ∷ xs) i e zero h = subst (λ (m : ℕ). f m x ≡ true) (let q : i ≡ i + 0 = omega arith in q) (both (f i x) (every f (suc i) xs) e).0
  every_at f d (x ∷ xs) i e (suc k) h =
      subst (λ (m : ℕ). f m (get_or xs k d) ≡ true) (let q : suc i + k ≡ i + suc k = omega arith in q)
      (every_at f d xs (suc i) (both (f i x) (every f (suc i) xs) e).1 k (omega arith))
