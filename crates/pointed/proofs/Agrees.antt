-- The code's count of agreeing bytes and its tests of lengths are the mathematics': both run along two lists in the same way.
use Prim.Native.Nat.{ℕ, suc, ◌≤◌}
use mathlib.Core.Path.{◌≡◌, refl, ap, ◌∙◌}
use mathlib.Core.Logic.{ite}
use mathlib.Core.List.{List, [], ◌∷◌}
use mathlib.Core.Bool.{Bool}
use native.Mathlib.Omega.{arith}
use native.Mathlib.Decide.{ℕ_discrete, dec_le}
use borrow.Author.Tests.{le-leb, lt-leb, eq-eqb, ne_eqb}
use lib.Dec.{eqb, leb}
use Rattle.lists.specs.Scan.{choose}
use Rattle.lists.specs.Compare.{shared}
use Rattle.lists.proofs.Compares.{shared_swap}
use Rattle.art.specs.Points.{shared_length}

-- the bytes that two lists share are as many in the code as in the mathematics
pub shared_is_length : (s t : List ℕ) → shared s t ≡ shared_length s t
shared_is_length [] t = refl
shared_is_length (x ∷ s) [] = refl
shared_is_length (x ∷ s) (y ∷ t) = go (ℕ_discrete x y) (shared_is_length s t)
  where
    go : (d : Dec (x ≡ y)) → shared s t ≡ shared_length s t → choose (eqb x y) (suc (shared s t)) 0 ≡ ite d (suc (shared_length s t)) 0
    go (yes e) ih = ap (λ (b : Bool). choose b (suc (shared s t)) 0) (eq-eqb x y e) ∙ ap suc ih
    go (no n) ih = ap (λ (b : Bool). choose b (suc (shared s t)) 0) (ne_eqb x y n)

-- in either order
pub shared_is_length_swap : (s t : List ℕ) → shared s t ≡ shared_length t s
shared_is_length_swap s t = shared_swap s t ∙ shared_is_length t s

-- what is made of a choice by the test is a choice by the fact
pub choose_le : {X Y : Type 0} (g : X → Y) (a b : ℕ) (x y : X) → g (choose (leb a b) x y) ≡ ite (dec_le a b) (g x) (g y)
choose_le {X} {Y} g a b x y = go (dec_le a b)
  where
    go : (d : Dec (a ≤ b)) → g (choose (leb a b) x y) ≡ ite d (g x) (g y)
    go (yes h) = ap (λ (t : Bool). g (choose t x y)) (le-leb a b h)
    go (no n) = ap (λ (t : Bool). g (choose t x y)) (lt-leb a b (omega arith))
