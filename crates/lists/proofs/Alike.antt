-- Two lists whose elements pass alike, place by place, each by a test of its own: what goes by the tests alone is the same for both.
use Prim.Native.Nat.{ℕ, zero, suc, ◌<◌}
use mathlib.Core.Path.{◌≡◌, refl, ap, ap₂, ◌∙◌}
use mathlib.Core.List.{List, [], ◌∷◌}
use mathlib.Core.Bool.{Bool}
use native.Mathlib.Omega.{arith}
use lib.ListN.{length, get_or, drop}
use Rattle.lists.specs.Scan.{choose, first, past, onward, nth, how_many}

pub data Alike (p q : ℕ → Bool) : List ℕ → List ℕ → Type 0 where
  alike_nil : Alike p q [] []
  alike_cons : {x y : ℕ} {xs ys : List ℕ} → p x ≡ q y → Alike p q xs ys → Alike p q (x ∷ xs) (y ∷ ys)

module _ (p q : ℕ → Bool) where
  pub alike_by : (l k : List ℕ) → length l ≡ length k → ((i : ℕ) → i < length l → p (get_or l i 0) ≡ q (get_or k i 0)) → Alike p q l k
  alike_by [] [] e h = alike_nil
  alike_by [] (y ∷ ys) e h = absurd (omega arith)
  alike_by (x ∷ xs) [] e h = absurd (omega arith)
  alike_by (x ∷ xs) (y ∷ ys) e h = alike_cons (h 0 (omega arith)) (alike_by xs ys (omega arith) (λ i l. h (suc i) (omega arith)))

module _ {p q : ℕ → Bool} where
  pub alike_drop : {l k : List ℕ} (n : ℕ) → Alike p q l k → Alike p q (drop n l) (drop n k)
  alike_drop zero a = a
  alike_drop (suc n) alike_nil = alike_nil
  alike_drop (suc n) (alike_cons e a) = alike_drop n a

  pub count_alike : {l k : List ℕ} → Alike p q l k → how_many p l ≡ how_many q k
  count_alike alike_nil = refl
  count_alike (alike_cons e a) = ap₂ (λ (b : Bool) (n : ℕ). choose b (suc n) n) e (count_alike a)

  pub first_alike : {l k : List ℕ} → Alike p q l k → first p l ≡ first q k
  first_alike alike_nil = refl
  first_alike (alike_cons e a) = ap₂ (λ (b : Bool) (n : ℕ). choose b 0 (suc n)) e (first_alike a)

  pub past_alike : {l k : List ℕ} → Alike p q l k → past p l ≡ past q k
  past_alike alike_nil = refl
  past_alike (alike_cons e a) = ap₂ (λ (b : Bool) (n : ℕ). onward (choose b 1 0) n) e (past_alike a)

  pub nth_alike : {l k : List ℕ} (n : ℕ) → Alike p q l k → nth p n l ≡ nth q n k
  nth_alike zero alike_nil = refl
  nth_alike (suc n) alike_nil = refl
  nth_alike zero (alike_cons e a) = ap₂ (λ (b : Bool) (m : ℕ). choose b 0 (suc m)) e (nth_alike zero a)
  nth_alike (suc n) (alike_cons {x} {y} {xs} {ys} e a) =
      ap (λ (b : Bool). choose b (suc (nth p n xs)) (suc (nth p (suc n) xs))) e
      ∙ ap₂ (λ (m o : ℕ). choose (q y) (suc m) (suc o)) (nth_alike n a) (nth_alike (suc n) a)
