-- Different numbers below c are at most c: without the greatest they are below c - 1, and one less at most.
use Prim.Native.Nat.{ℕ, zero, suc, ◌≤◌, ◌<◌}
use mathlib.Core.Path.{◌≡◌, refl, sym, subst, ◌∙◌}
use mathlib.Core.Logic.{inl, inr, ◌≢◌, ite}
use mathlib.Core.List.{List, [], ◌∷◌}
use native.Mathlib.Decide.{ℕ_discrete}
use native.Mathlib.Omega.{arith}
use lib.ListN.{length}
use Rattle.art.specs.Members.{In, Different}

-- the list without n
abbrev without : ℕ → List ℕ → List ℕ
without n [] = []
without n (m ∷ l) = ite (ℕ_discrete n m) (without n l) (m ∷ without n l)

-- where n is not in the list nothing is left out
without_all : (n : ℕ) (l : List ℕ) → ¬ In n l → length l ≤ length (without n l)
without_all n [] h = omega arith
without_all n (m ∷ l) h = go (ℕ_discrete n m) (without_all n l (λ i. h (inr i)))
  where
    go : (d : Dec (n ≡ m)) → length l ≤ length (without n l) → suc (length l) ≤ length (ite {C = List ℕ} d (without n l) (m ∷ without n l))
    go (yes e) k = absurd (h (inl e))
    go (no e) k = omega arith

-- and else one number
without_one : (n : ℕ) (l : List ℕ) → Different l → length l ≤ suc (length (without n l))
without_one n [] d = omega arith
without_one n (m ∷ l) d = go (ℕ_discrete n m) (without_one n l d.1)
  where
    go : (e : Dec (n ≡ m)) → length l ≤ suc (length (without n l)) → suc (length l) ≤ suc (length (ite {C = List ℕ} e (without n l) (m ∷ without n l)))
    go (yes e) k = let h = without_all n l (λ i. d.0 (subst (λ (x : ℕ). In x l) e i)) in omega arith
    go (no e) k = omega arith

in_without : (n x : ℕ) (l : List ℕ) → In x (without n l) → In x l × (x ≢ n)
in_without n x [] i = elim i [ ]
in_without n x (m ∷ l) i = go (ℕ_discrete n m) i (λ j. in_without n x l j)
  where
    other : n ≢ m → In x (m ∷ without n l) → (In x (without n l) → In x l × (x ≢ n)) → In x (m ∷ l) × (x ≢ n)
    other ne (inl e) rec = (inl e, λ q. ne (sym q ∙ e))
    other ne (inr j) rec = let r = rec j in (inr r.0, r.1)

    go : (d : Dec (n ≡ m)) → In x (ite {C = List ℕ} d (without n l) (m ∷ without n l)) → (In x (without n l) → In x l × (x ≢ n)) → In x (m ∷ l) × (x ≢ n)
    go (yes e) j rec = let r = rec j in (inr r.0, r.1)
    go (no ne) j rec = other ne j rec

different_without : (n : ℕ) (l : List ℕ) → Different l → Different (without n l)
different_without n [] d = tt
different_without n (m ∷ l) d = go (ℕ_discrete n m) (different_without n l d.1)
  where
    go : (e : Dec (n ≡ m)) → Different (without n l) → Different (ite {C = List ℕ} e (without n l) (m ∷ without n l))
    go (yes e) k = k
    go (no ne) k = ((λ i. d.0 (in_without n m l i).0), k)

pub few : (c : ℕ) (l : List ℕ) → Different l → ((n : ℕ) → In n l → n < c) → length l ≤ c
few zero [] d h = omega arith
few zero (n ∷ l) d h = absurd (omega (arith, h n (inl refl)))
few (suc c) l d h =
    let low : (n : ℕ) → In n (without c l) → n < c = λ n i. let p = in_without c n l i in let ne = p.1 in omega (arith, h n p.0) in
    omega (arith, without_one c l d, few c (without c l) (different_without c l d) low)
