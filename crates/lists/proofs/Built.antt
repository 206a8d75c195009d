-- An array that a loop fills from the front by a rule: the invariant and its laws.
use Prim.Native.Nat.{ℕ, ◌+◌, ◌≤◌, ◌<◌}
use mathlib.Core.Path.{◌≡◌, sym, ◌∙◌}
use mathlib.Core.List.{List}
use native.Mathlib.Omega.{arith}
use borrow.Author.Count.{below_more}
use lib.ListN.{length, get_or, set, length-set}
use lib.Seq.{ext_get_or, get_or-set_same, get_or-set_other}

-- n places, of which those before i have the rule's numbers
pub record Built (f : ℕ → ℕ) (n : ℕ) (out : List ℕ) (i : ℕ) : Type 0 where
  pub within : i ≤ n
  pub long : length out ≡ n
  pub made : (k : ℕ) → k < i → get_or out k 0 ≡ f k

module _ {f : ℕ → ℕ} {n : ℕ} {out : List ℕ} where
  pub built_start : length out ≡ n → Built f n out 0
  built_start e = record { within = omega arith; long = e; made = λ k h. absurd (omega arith) }

  -- one number more
  pub built_on : {i : ℕ} → Built f n out i → (v : ℕ) → v ≡ f i → i < n → Built f n (set out i v) (i + 1)
  built_on {i} b v e h =
      record {
        within = omega arith;
        long = length-set out i v ∙ b.long;
        made =
            below_more (λ (k : ℕ). get_or (set out i v) k 0 ≡ f k) i
            (λ k l. get_or-set_other out i k v 0 (omega arith) ∙ b.made k l)
            (get_or-set_same out i v 0 (omega (arith, b.long)) ∙ e);
      }

  -- the whole of it is the list that has these numbers
  pub built_end : {i : ℕ} → Built f n out i → n ≤ i → (l : List ℕ) → length l ≡ n → ((k : ℕ) → k < n → get_or l k 0 ≡ f k) → out ≡ l
  built_end {i} b h l e at = ext_get_or 0 out l (b.long ∙ sym e) (λ k lt. b.made k (omega (arith, b.long)) ∙ sym (at k (omega (arith, b.long))))
