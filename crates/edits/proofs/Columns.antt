-- The columns of a row, and tables: how long they are.
use Prim.Native.Nat.{ℕ, zero, suc, ◌≤◌}
use mathlib.Core.Path.{◌≡◌, refl, ap, ap₂}
use mathlib.Core.List.{List, [], ◌∷◌}
use native.Mathlib.Omega.{arith}
use lib.ListN.{length}
use Rattle.edits.specs.Body.{tab, bytes_of, refs_of}
use Rattle.edits.specs.Rows.{Row}

pub bytes_length : (row : Row) → length (bytes_of row) ≡ length row
bytes_length [] = refl
bytes_length (e ∷ es) = ap suc (bytes_length es)

pub refs_length : (row : Row) → length (refs_of row) ≡ length row
refs_length [] = refl
refs_length (e ∷ es) = ap suc (refs_length es)

pub tab_as : (m b : ℕ) (g h : ℕ → ℕ) → ((i : ℕ) → b ≤ i → g i ≡ h i) → tab m b g ≡ tab m b h
tab_as zero b g h e = refl
tab_as (suc m) b g h e = ap₂ (λ (x : ℕ) (l : List ℕ). x ∷ l) (e b (omega arith)) (tab_as m (suc b) g h (λ i l. e i (omega arith)))

pub tab_length : (m b : ℕ) (g : ℕ → ℕ) → length (tab m b g) ≡ m
tab_length zero b g = refl
tab_length (suc m) b g = ap suc (tab_length m (suc b) g)
