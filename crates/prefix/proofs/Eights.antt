-- The first eight of a list, and 0 after them: its elements, and what in a list can't be seen in them.
use Prim.Native.Nat.{ℕ, zero, suc, ◌+◌, ◌-◌, ◌≤◌, ◌<◌}
use mathlib.Core.Path.{◌≡◌, sym, ap, subst, ◌∙◌}
use mathlib.Core.List.{List, ◌++◌, append_assoc}
use mathlib.Core.Bool.{true}
use native.Mathlib.Omega.{arith}
use native.Mathlib.Decide.{dec_lt}
use borrow.Author.Tests.{le-leb, leb-true}
use lib.ListN.{length, get_or, take, drop, replicate, length-append, length-take, length-drop, take-append-drop, get_or-append, get_or-eq_default}
use lib.Seq.{ext_get_or, get_or-take, get_or-drop, get_or-append-add, length-take-le, take-append-le, take-take, take_all}
use lib.Dec.{leb}
use denote.Param.Members.{Mut}
use Rattle.std.specs.Fn.{Called}
use Rattle.std.specs.Array.{IsFromFnResult, IsFromFnResultFrom}
use Rattle.lists.specs.Scan.{all_pass, at_most}
use Rattle.lists.proofs.Tests.{and_both, all_at, all_by, all_append, all_take, zeros_all, zeros_at}
use Rattle.prefix.specs.Run.{capped, eight}

pub eight_length : (l : List ℕ) → length (eight l) ≡ 8
eight_length l = length-take-le 8 (l ++ replicate 8 0) (omega (arith, length-append l (replicate 8 0)))

-- element i of two lists, one after the other
pub append_at : (l m : List ℕ) (i : ℕ) → length l ≤ i → get_or (l ++ m) i 0 ≡ get_or m (i - length l) 0
append_at l m i h =
    let e : i ≡ length l + (i - length l) = omega arith in
    ap (λ (k : ℕ). get_or (l ++ m) k 0) e ∙ get_or-append-add l m (i - length l) 0

pub eight_at : (l : List ℕ) (i : ℕ) → i < 8 → get_or (eight l) i 0 ≡ get_or l i 0
eight_at l i h = get_or-take 8 (l ++ replicate 8 0) i 0 h ∙ go (dec_lt i (length l))
  where
    go : Dec (i < length l) → get_or (l ++ replicate 8 0) i 0 ≡ get_or l i 0
    go (yes k) = get_or-append l (replicate 8 0) 0 i k
    go (no k) = append_at l (replicate 8 0) i (omega arith) ∙ zeros_at 8 (i - length l) ∙ sym (get_or-eq_default l 0 (omega arith))

-- what `array::from_fn` makes with a closure that stays as it is and gives the list's element at its index
module _ {F : Type 0} (g : Mut F (ℕ × Unit {0}) ℕ) (f : F) (l : List ℕ) (gives : (i y : ℕ) (q : F) → Called g f (i, tt) y q → (q ≡ f) × (y ≡ get_or l i 0)) where
  each_at : (ys : List ℕ) (i n : ℕ) → IsFromFnResultFrom g f ys i n → (k : ℕ) → i ≤ k → k < i + n → get_or ys k 0 ≡ get_or l k 0
  each_at ys i zero m k a b = absurd (omega arith)
  each_at ys i (suc n) m k a b =
      let here : (m.0 ≡ f) × (m.1 ≡ get_or l i 0) = gives i m.1 m.0 m.3 in
      go (m.2.1 0 ∙ here.1) (λ h. each_at ys (i + 1) n (subst (λ p. IsFromFnResultFrom g p ys (i + 1) n) here.0 m.4) k h (omega arith)) (dec_lt i k)
    where
      go : get_or ys i 0 ≡ get_or l i 0 → (i + 1 ≤ k → get_or ys k 0 ≡ get_or l k 0) → Dec (i < k) → get_or ys k 0 ≡ get_or l k 0
      go here later (yes h) = later (omega arith)
      go here later (no h) =
          let q : k ≡ i = omega arith in
          ap (λ (j : ℕ). get_or ys j 0) q ∙ here ∙ ap (λ (j : ℕ). get_or l j 0) (sym q)

  pub eight_made : (ys : List ℕ) → IsFromFnResult g f ys 8 → ys ≡ eight l
  eight_made ys m =
      ext_get_or 0 ys (eight l) (m.long ∙ sym (eight_length l))
      (λ k h. let q : k < 8 = omega (arith, m.long) in each_at ys 0 8 m.each k (omega arith) (omega arith) ∙ sym (eight_at l k q))

-- taking eight at most, by either count
pub capped_take : (l : List ℕ) → take (capped (length l)) l ≡ take 8 l
capped_take l = go (dec_lt 8 (length l))
  where
    go : Dec (8 < length l) → take (capped (length l)) l ≡ take 8 l
    go (yes h) = ap (λ (k : ℕ). take k l) (let q : capped (length l) ≡ 8 = omega arith in q)
    go (no h) = take_all (capped (length l)) l (omega arith) ∙ sym (take_all 8 l (omega arith))

-- as many of the first eight as the list has are the list's
pub eight_held : (n : ℕ) (l : List ℕ) → capped n ≡ capped (length l) → take (capped n) (eight l) ≡ take 8 l
eight_held n l e =
    take-take (capped n) 8 (l ++ replicate 8 0) (omega arith)
    ∙ take-append-le (capped n) l (replicate 8 0) (omega arith)
    ∙ ap (λ (k : ℕ). take k l) e
    ∙ capped_take l

-- past eight elements none can be seen
eight_full : (l m : List ℕ) → 8 ≤ length l → eight (l ++ m) ≡ take 8 l
eight_full l m h = ap (take 8) (append_assoc l m (replicate 8 0)) ∙ take-append-le 8 l (m ++ replicate 8 0) h

-- a part in the middle may be cut where it reaches past the first eight
pub eight_cut : (k : List ℕ) (n : ℕ) (l m : List ℕ) → 8 ≤ length k + n → eight (k ++ (take n l ++ m)) ≡ eight (k ++ (l ++ m))
eight_cut k n l m h = go (dec_lt n (length l))
  where
    go : Dec (n < length l) → eight (k ++ (take n l ++ m)) ≡ eight (k ++ (l ++ m))
    go (no q) = ap (λ (x : List ℕ). eight (k ++ (x ++ m))) (take_all n l (omega arith))
    go (yes q) =
        let long : 8 ≤ length (k ++ take n l) = omega (arith, length-append k (take n l), length-take n l) in
        ap eight (sym (append_assoc k (take n l) m))
        ∙ eight_full (k ++ take n l) m long
        ∙ sym (eight_full (k ++ take n l) (drop n l ++ m) long)
        ∙ ap eight (append_assoc k (take n l) (drop n l ++ m))
        ∙ ap (λ (x : List ℕ). eight (k ++ x)) (sym (append_assoc (take n l) (drop n l) m))
        ∙ ap (λ (x : List ℕ). eight (k ++ (x ++ m))) (take-append-drop n l)

-- ── as the own rule of a record has them ──
pub eight_all : (b : ℕ) (l : List ℕ) → all_pass (at_most b) l ≡ true → all_pass (at_most b) (eight l) ≡ true
eight_all b l e =
    all_take (at_most b) 8 (l ++ replicate 8 0) (all_append (at_most b) l (replicate 8 0) ∙ and_both e (zeros_all 8 b))

-- 0 after the list's own
pub eight_zeros : (k : ℕ) (l : List ℕ) → capped (length l) ≤ k → all_pass (at_most 0) (drop k (eight l)) ≡ true
eight_zeros k l h = all_by (at_most 0) (drop k (eight l)) zero_at
  where
    zero_at : (i : ℕ) → i < length (drop k (eight l)) → leb (get_or (drop k (eight l)) i 0) 0 ≡ true
    zero_at i j =
        let inside : k + i < 8 = omega (arith, length-drop k (eight l), eight_length l) in
        let z : get_or (drop k (eight l)) i 0 ≡ 0 = get_or-drop k (eight l) i 0 ∙ eight_at l (k + i) inside ∙ get_or-eq_default l 0 (omega arith) in
        le-leb (get_or (drop k (eight l)) i 0) 0 (omega arith)

-- and eight with 0 from n on are the eight of their first n
pub eight_own : (s : List ℕ) (n : ℕ) → length s ≡ 8 → all_pass (at_most 0) (drop n s) ≡ true → eight (take n s) ≡ s
eight_own s n long e =
    ext_get_or 0 (eight (take n s)) s (eight_length (take n s) ∙ sym long)
    (λ i h. let q : i < 8 = omega (arith, eight_length (take n s)) in eight_at (take n s) i q ∙ go i q (dec_lt i n))
  where
    go : (i : ℕ) → i < 8 → Dec (i < n) → get_or (take n s) i 0 ≡ get_or s i 0
    go i q (yes h) = get_or-take n s i 0 h
    go i q (no h) =
        let back : n + (i - n) ≡ i = omega arith in
        let here : get_or (drop n s) (i - n) 0 ≡ get_or s i 0 = get_or-drop n s (i - n) 0 ∙ ap (λ (k : ℕ). get_or s k 0) back in
        let low : get_or (drop n s) (i - n) 0 ≤ 0 = leb-true (get_or (drop n s) (i - n) 0) 0 (all_at (at_most 0) (drop n s) e (i - n) (omega (arith, length-drop n s))) in
        let none : get_or (take n s) i 0 ≡ 0 = get_or-eq_default (take n s) 0 (omega (arith, length-take n s)) in
        omega arith
