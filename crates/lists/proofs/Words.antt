-- The definitions of `Scan` in std's words, in which the chains of iterators say what they give.
use Prim.Native.Nat.{ℕ, zero, suc, ◌+◌, ◌-◌, ◌≤◌, ◌<◌, max}
use mathlib.Core.Path.{◌≡◌, refl, sym, ap, ◌∙◌}
use mathlib.Core.List.{List, [], ◌∷◌}
use mathlib.Core.Bool.{Bool, true, false, cond, not, ◌&&◌, and_assoc, and-true}
use lib.Dec.{eqb, leb, ltb, eqb-suc-zero, leb-suc-zero}
use native.Mathlib.Omega.{arith}
use borrow.Author.Tests.{le-leb, ltb-false, ne_eqb}
use lib.ListN.{length, get_or}
use Rattle.std.proofs.Common.{Option, Some, None}
use Rattle.std.specs.Option.{unwrap_or}
use Rattle.std.proofs.lemmas.List.Sums.{prefix_len-le-length}
use lib.Bits.{bit_or, or_zero_l, or_add_and, and_le_r}
use Rattle.std.specs.List.{fold, position, position_or_len}
use Rattle.std.proofs.lemmas.List.Recursion.{is_position_or_len}
use Rattle.lists.specs.Scan.{choose, at_most, all_pass, first, past, onward}

-- ── a fold that looks at each element ──
-- the larger of two numbers is b or less exactly where both are
most_of : (b a x : ℕ) → leb (max a x) b ≡ leb a b && leb x b
most_of b a x = grind arith

fold_most : (b most : ℕ) (s : List ℕ) → leb (fold max most s) b ≡ leb most b && all_pass (at_most b) s
fold_most b most [] = sym (and-true (leb most b))
fold_most b most (x ∷ xs) =
    fold_most b (max most x) xs ∙ ap (λ (t : Bool). t && all_pass (at_most b) xs) (most_of b most x) ∙ and_assoc (leb most b) (leb x b) (all_pass (at_most b) xs)

pub largest_is : (b : ℕ) (s : List ℕ) → leb (fold max 0 s) b ≡ all_pass (at_most b) s
largest_is b s = fold_most b 0 s ∙ ap (λ (t : Bool). t && all_pass (at_most b) s) (le-leb 0 b (omega arith))

-- no bit is set in either of two numbers exactly where both are 0
no_bits : (a x : ℕ) → eqb (bit_or a x) 0 ≡ eqb a 0 && leb x 0
no_bits zero zero = refl
no_bits zero (suc x) = ap (λ (n : ℕ). eqb n 0) (or_zero_l (suc x)) ∙ eqb-suc-zero x ∙ sym (leb-suc-zero x)
no_bits (suc a) x =
    ne_eqb (bit_or (suc a) x) 0 (omega (arith, or_add_and (suc a) x, and_le_r (suc a) x)) ∙ ap (λ (b : Bool). b && leb x 0) (sym (eqb-suc-zero a))

pub fold_bits : (bits : ℕ) (s : List ℕ) → eqb (fold bit_or bits s) 0 ≡ eqb bits 0 && all_pass (at_most 0) s
fold_bits bits [] = sym (and-true (eqb bits 0))
fold_bits bits (x ∷ xs) =
    fold_bits (bit_or bits x) xs ∙ ap (λ (b : Bool). b && all_pass (at_most 0) xs) (no_bits bits x) ∙ and_assoc (eqb bits 0) (leb x 0) (all_pass (at_most 0) xs)

-- ── the first that passes ──
passed : (b : Bool) (n : ℕ) → choose b 0 (suc n) ≡ cond b 0 (1 + n)
passed true n = refl
passed false n = omega arith

pub first_is : (p : ℕ → Bool) (s : List ℕ) → position_or_len p s ≡ first p s
first_is p s = sym (is_position_or_len (first p) p refl (λ x xs. passed (p x) (first p xs)) s)

-- what `position` found, or the length
pub first_found : (p : ℕ → Bool) (s : List ℕ) (r : Option ℕ) → r ≡ position p s → unwrap_or r (length s) ≡ first p s
first_found p s r e =
    ap (λ (o : Option ℕ). unwrap_or o (length s)) e ∙ go (ltb (position_or_len p s) (length s)) refl ∙ first_is p s
  where
    go : (b : Bool) → ltb (position_or_len p s) (length s) ≡ b → unwrap_or (cond b (Some (position_or_len p s)) None) (length s) ≡ position_or_len p s
    go true e = refl
    go false e = omega (arith, ltb-false (position_or_len p s) (length s) e, prefix_len-le-length (λ x. not (p x)) s)

-- ── the place after the last that passes: none from there on does, and the one before does ──
pub past_is : (p : ℕ → Bool) (s : List ℕ) (n : ℕ) → n ≤ length s → ((i : ℕ) → n ≤ i → i < length s → p (get_or s i 0) ≡ false) → (0 < n → p (get_or s (n - 1) 0) ≡ true) → n ≡ past p s
past_is p [] n h off on = omega arith
past_is p (x ∷ xs) zero h off on =
    sym (ap (λ (n : ℕ). onward (choose (p x) 1 0) n) (sym (past_is p xs 0 (omega arith) (λ i k l. off (suc i) (omega arith) (omega arith)) (λ k. absurd (omega arith))))
    ∙ ap (λ (b : Bool). choose {A = ℕ} b 1 0) (off 0 (omega arith) (omega arith)))
past_is p (x ∷ xs) (suc zero) h off on =
    sym (ap (λ (n : ℕ). onward (choose (p x) 1 0) n) (sym (past_is p xs 0 (omega arith) (λ i k l. off (suc i) (omega arith) (omega arith)) (λ k. absurd (omega arith))))
    ∙ ap (λ (b : Bool). choose {A = ℕ} b 1 0) (on (omega arith)))
past_is p (x ∷ xs) (suc (suc n)) h off on =
    ap (onward (choose (p x) 1 0)) (past_is p xs (suc n) (omega arith) (λ i k l. off (suc i) (omega arith) (omega arith)) (λ k. let q : suc (suc n) - 1 ≡ suc (suc n - 1) = omega arith in ap (λ (m : ℕ). p (get_or (x ∷ xs) m 0)) (sym q) ∙ on (omega arith)))
