-- The search for the lowest free record of a pool, one record after the other, and for the smallest kind that has one, one kind after the other.
use Prim.Native.Nat.{ℕ, suc, ◌+◌, ◌-◌, ◌*◌, ◌≤◌, ◌<◌}
use mathlib.Core.Path.{◌≡◌, refl, sym, ap, ◌∙◌}
use mathlib.Core.List.{List}
use mathlib.Core.Bool.{Bool, true, false}
use native.Mathlib.Omega.{arith}
use native.Mathlib.Nat.{suc-mul}
use lib.ListN.{get_or}
use lib.Dec.{eqb, ltb}
use borrow.Author.Tests.{eq-eqb, ne_eqb, lt-ltb, le-ltb}
use Rattle.std.specs.Prelude.{Some, None}
use Rattle.lists.specs.Scan.{choose}
use Rattle.frames.specs.declared.frame.Frame.{Frame}
use Rattle.pools.specs.Pool.{Free, lowest_from, lowest_free, free_from, free_kind}

-- the first n of c records of z words from word a on are not free, and the next begins at word at
pub record Lowest (words : List ℕ) (a z c at n : ℕ) : Type 0 where
  pub within : n ≤ c
  pub here : at ≡ a + n * z
  pub left : lowest_from words a z c ≡ n + lowest_from words at z (c - n)

pub lowest_start : {words : List ℕ} {a z c : ℕ} → Lowest words a z c a 0
lowest_start {words} {a} {z} {c} =
    record {
      within = omega arith;
      here = omega arith;
      left = ap (lowest_from words a z) (let q : c ≡ c - 0 = omega arith in q) ∙ omega arith;
    }

module _ {words : List ℕ} {a z c at n : ℕ} (r : Lowest words a z c at n) where
  step : (t : Bool) → eqb (get_or words at 0) 0 ≡ t → n < c → lowest_from words at z (c - n) ≡ choose t 0 (suc (lowest_from words (at + z) z (c - (n + 1))))
  step t e h =
      ap (lowest_from words at z) (let q : c - n ≡ suc (c - (n + 1)) = omega arith in q)
      ∙ ap (λ (b : Bool). choose b 0 (suc (lowest_from words (at + z) z (c - (n + 1))))) e

  pub lowest_on : (get_or words at 0 ≡ 0 → ⊥) → n < c → Lowest words a z c (at + z) (n + 1)
  lowest_on d h =
      record { within = omega arith; here = omega (arith, r.here, suc-mul n z); left = omega (arith, r.left, step false (ne_eqb _ _ d) h) }

  pub lowest_at : get_or words at 0 ≡ 0 → n < c → n ≡ lowest_from words a z c
  lowest_at e h = omega (arith, r.left, step true (eq-eqb _ _ e) h)

  pub lowest_end : c ≤ n → c ≡ lowest_from words a z c
  lowest_end h = omega (arith, r.left, r.within, ap (lowest_from words at z) (let q : c - n ≡ 0 = omega arith in q))

-- no kind before this one has a free record
pub record Smallest (f : Frame) (words : List ℕ) (from kind : ℕ) : Type 0 where
  pub left : free_kind f words from ≡ free_from f words kind (5 - kind)

pub smallest_start : {f : Frame} {words : List ℕ} {from : ℕ} → Smallest f words from from
unfolding free_kind
smallest_start = record { left = refl }

module _ {f : Frame} {words : List ℕ} {from kind : ℕ} (r : Smallest f words from kind) (n : ℕ) (e : n ≡ lowest_free f words kind) where
  turn : (t : Bool) → ltb n (get_or f.caps kind 0) ≡ t → kind ≤ 4 → free_kind f words from ≡ choose {A = Free} t (Some (kind, n)) (free_from f words (kind + 1) (5 - (kind + 1)))
  turn t q h =
      r.left
      ∙ ap (free_from f words kind) (let w : 5 - kind ≡ suc (5 - (kind + 1)) = omega arith in w)
      ∙ ap (λ (m : ℕ). choose {A = Free} (ltb m (get_or f.caps kind 0)) (Some (kind, m)) (free_from f words (kind + 1) (5 - (kind + 1)))) (sym e)
      ∙ ap (λ (b : Bool). choose {A = Free} b (Some (kind, n)) (free_from f words (kind + 1) (5 - (kind + 1)))) q

  pub smallest_at : n < get_or f.caps kind 0 → kind ≤ 4 → Some (kind, n) ≡ free_kind f words from
  smallest_at l h = sym (turn true (lt-ltb _ _ l) h)

  pub smallest_on : get_or f.caps kind 0 ≤ n → kind ≤ 4 → Smallest f words from (kind + 1)
  smallest_on l h = record { left = turn false (le-ltb _ _ l) h }

pub smallest_end : {f : Frame} {words : List ℕ} {from kind : ℕ} → Smallest f words from kind → 4 < kind → None ≡ free_kind f words from
smallest_end {f} {words} {from} {kind} r h = sym (r.left ∙ ap (free_from f words kind) (let w : 5 - kind ≡ 0 = omega arith in w))
