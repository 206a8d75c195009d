-- Small laws of parts: the front of a list, a list written in two parts that meet, and in a part that reaches its end.
use Prim.Native.Nat.{ℕ, ◌+◌, ◌-◌, ◌≤◌, ◌<◌}
use mathlib.Core.Path.{◌≡◌, sym, ap, ap₂, ◌∙◌}
use mathlib.Core.List.{List, [], ◌++◌, append_assoc, append-nil}
use mathlib.Core.Bool.{Bool}
use native.Mathlib.Omega.{arith}
use lib.ListN.{length, get_or, take, drop, replicate, length-drop, length-replicate, replicate-append-replicate}
use lib.Seq.{take-append-le, drop-append-le}
use Rattle.lists.specs.Scan.{first}
use Rattle.lists.specs.Part.{between, splice}
use Rattle.lists.proofs.Tests.{first_le}
use Rattle.lists.proofs.Parts.{between_length, between_at, between_join, between_whole, splice_middle, splice_after, splice_length, splice_same}

-- the place of the first that passes, among the first n
pub first_within : (p : ℕ → Bool) (l : List ℕ) (n i : ℕ) → n ≤ length l → i ≡ first p (between l 0 n) → i ≤ n
first_within p l n i h e = omega (arith, first_le p (between l 0 n), between_length l 0 n (omega arith) h)

-- an element of the first n
pub front_at : (l : List ℕ) (n i : ℕ) → i < n → get_or (between l 0 n) i 0 ≡ get_or l i 0
front_at l n i h = between_at l 0 n i (omega arith) ∙ ap (λ (j : ℕ). get_or l j 0) (let q : 0 + i ≡ i = omega arith in q)

-- the first k elements written over by as many, then those from k to the end e
module _ (l : List ℕ) (k e : ℕ) (p : List ℕ) (ke : k ≤ e) (long : length l ≡ e) (kept : length p ≡ length (between l 0 k)) where
  half : length p ≡ k
  half = omega (arith, between_length l 0 k (omega arith) (omega arith))

  -- the second part is as it was
  later : between (splice l 0 k p) k e ≡ between l k e
  later = splice_after l 0 k p (omega arith) (omega arith) (omega (arith, half)) k e (omega arith)

  pub later_length : length (between (splice l 0 k p) k e) ≡ e - k
  later_length = ap length later ∙ between_length l k e ke (omega arith)

  halves : (q : List ℕ) → splice (splice l 0 k p) k e q ≡ p ++ q
  halves q =
      let m = between l k e in
      let w : splice l 0 k p ≡ p ++ (m ++ []) =
      sym (between_whole (splice l 0 k p))
      ∙ ap (between (splice l 0 k p) 0) (splice_length l 0 k p (omega arith) (omega arith) (omega (arith, half)) ∙ long)
      ∙ sym (between_join (splice l 0 k p) 0 k e (omega arith) ke)
      ∙ ap (λ (x : List ℕ). x ++ between (splice l 0 k p) k e) (splice_same l 0 k p (omega arith) (omega arith) (omega (arith, half)))
      ∙ ap (λ (x : List ℕ). p ++ x) (later ∙ sym (append-nil m)) in
      ap (λ (x : List ℕ). splice x k e q) w
      ∙ splice_middle p m [] k e q half (between_length l k e ke (omega arith))
      ∙ ap (λ (x : List ℕ). p ++ x) (append-nil q)

  -- by f of the one and g of the other
  pub both_halves : (f g : List ℕ → List ℕ) (q : List ℕ) → p ≡ f (between l 0 k) → q ≡ g (between (splice l 0 k p) k e)
      → splice (splice l 0 k p) k e q ≡ f (between l 0 k) ++ g (between l k e)
  both_halves f g q a b = halves q ∙ ap₂ (λ (x y : List ℕ). x ++ y) a (b ∙ ap g later)

-- the end of a list of zeros written over
pub zeros_then : (a e : ℕ) (p : List ℕ) → a ≤ e → splice (replicate e 0) a e p ≡ replicate a 0 ++ p
zeros_then a e p h =
    let z = replicate {A = ℕ} (e - a) 0 in
    let q : e ≡ a + (e - a) = omega arith in
    ap (λ (x : List ℕ). splice x a e p) (ap (λ (n : ℕ). replicate n 0) q ∙ sym (replicate-append-replicate a (e - a) 0) ∙ ap (λ (x : List ℕ). replicate a 0 ++ x) (sym (append-nil z)))
    ∙ splice_middle (replicate a 0) z [] a e p (length-replicate a 0) (length-replicate (e - a) 0)
    ∙ ap (λ (x : List ℕ). replicate a 0 ++ x) (append-nil p)

-- a part written over in the left of two lists
pub splice_left : (x y : List ℕ) (a e : ℕ) (p : List ℕ) → a ≤ e → e ≤ length x → splice (x ++ y) a e p ≡ splice x a e p ++ y
unfolding splice
splice_left x y a e p h k =
    let z = drop (e - a) (drop a x) in
    ap (λ (l : List ℕ). l ++ (p ++ drop (e - a) (drop a (x ++ y)))) (take-append-le a x y (omega arith))
    ∙ ap (λ (l : List ℕ). take a x ++ (p ++ l)) (ap (drop (e - a)) (drop-append-le a x y (omega arith)) ∙ drop-append-le (e - a) (drop a x) y (omega (arith, length-drop a x)))
    ∙ sym (append_assoc (take a x) (p ++ z) y ∙ ap (λ (l : List ℕ). take a x ++ l) (append_assoc p z y))
