-- A list filled up with 0, and one with an element shifted in or out: their lengths and elements, and what a copy and one write leave.
use Prim.Native.Nat.{ℕ, zero, suc, ◌+◌, ◌-◌, ◌≤◌, ◌<◌}
use mathlib.Core.Path.{◌≡◌, refl, sym, ap, ◌∙◌}
use mathlib.Core.List.{List, [], ◌∷◌, ◌++◌, append-nil}
use native.Mathlib.Decide.{dec_lt}
use native.Mathlib.Omega.{arith}
use lib.ListN.{length, get_or, take, drop, set, replicate, length-set, length-append, length-replicate, length-drop, drop_of_length-le, get_or-append, get_or-eq_default}
use lib.Seq.{take_all, length-take-le, get_or-take, get_or-drop, get_or-append-add, get_or-set_same, get_or-set_other, ext_get_or}
use Rattle.std.specs.List.{SameBelow, CopiedTo}
use Rattle.lists.specs.Edit.{push_in, pull_out, shift_in, shift_out, padded}

-- ── filled up with 0 ──
pub padded_length : (k : ℕ) (l : List ℕ) → length l ≤ k → length (padded k l) ≡ k
padded_length k l h = omega (arith, length-append l (replicate (k - length l) 0), length-replicate {A = ℕ} (k - length l) 0)

-- past the end of l there is 0 on both sides
pub padded_at : (k : ℕ) (l : List ℕ) (i : ℕ) → get_or (padded k l) i 0 ≡ get_or l i 0
padded_at k l i = go l i
  where
    zeros : (m j : ℕ) → get_or (replicate {A = ℕ} m 0) j 0 ≡ 0
    zeros zero j = refl
    zeros (suc m) zero = refl
    zeros (suc m) (suc j) = zeros m j

    go : (xs : List ℕ) (j : ℕ) → get_or (xs ++ replicate (k - length l) 0) j 0 ≡ get_or xs j 0
    go [] j = zeros (k - length l) j
    go (x ∷ xs) zero = refl
    go (x ∷ xs) (suc j) = go xs j

-- ── an element shifted in ──
pub push_length : (x : ℕ) (s : List ℕ) → length (push_in x s) ≡ length s
push_length x [] = refl
push_length x (y ∷ ys) = ap suc (push_length y ys)

push_first : (x : ℕ) (s : List ℕ) → 0 < length s → get_or (push_in x s) 0 0 ≡ x
push_first x [] h = absurd (omega arith)
push_first x (y ∷ ys) h = refl

push_later : (x : ℕ) (s : List ℕ) (i : ℕ) → suc i < length s → get_or (push_in x s) (suc i) 0 ≡ get_or s i 0
push_later x [] i h = absurd (omega arith)
push_later x (y ∷ ys) zero h = push_first y ys (omega arith)
push_later x (y ∷ ys) (suc i) h = push_later y ys i (omega arith)

module _ (s : List ℕ) (at x : ℕ) where
  module _ (h : at ≤ length s) where
    front : length (take at s) ≡ at
    front = length-take-le at s h

    pub shift_in_length : length (shift_in at x s) ≡ length s
    unfolding shift_in
    shift_in_length = omega (arith, length-append (take at s) (push_in x (drop at s)), push_length x (drop at s), length-drop at s, front)

    shift_in_from : (i : ℕ) → at ≤ i → get_or (shift_in at x s) i 0 ≡ get_or (push_in x (drop at s)) (i - at) 0
    unfolding shift_in
    shift_in_from i k =
        let q : i ≡ length (take at s) + (i - at) = omega (arith, front) in
        ap (λ (n : ℕ). get_or (shift_in at x s) n 0) q ∙ get_or-append-add (take at s) (push_in x (drop at s)) (i - at) 0

    pub shift_in_before : (i : ℕ) → i < at → get_or (shift_in at x s) i 0 ≡ get_or s i 0
    unfolding shift_in
    shift_in_before i k = get_or-append (take at s) (push_in x (drop at s)) 0 i (omega (arith, front)) ∙ get_or-take at s i 0 k

    pub shift_in_at : at < length s → get_or (shift_in at x s) at 0 ≡ x
    shift_in_at k =
        shift_in_from at (omega arith)
        ∙ ap (λ (n : ℕ). get_or (push_in x (drop at s)) n 0) (let q : at - at ≡ 0 = omega arith in q)
        ∙ push_first x (drop at s) (omega (arith, length-drop at s))

    pub shift_in_after : (i : ℕ) → at < i → i < length s → get_or (shift_in at x s) i 0 ≡ get_or s (i - 1) 0
    shift_in_after i k l =
        shift_in_from i (omega arith)
        ∙ ap (λ (n : ℕ). get_or (push_in x (drop at s)) n 0) (let q : i - at ≡ suc (i - 1 - at) = omega arith in q)
        ∙ push_later x (drop at s) (i - 1 - at) (omega (arith, length-drop at s))
        ∙ get_or-drop at s (i - 1 - at) 0
        ∙ ap (λ (n : ℕ). get_or s n 0) (let q : at + (i - 1 - at) ≡ i - 1 = omega arith in q)

-- past the last place it changes nothing
pub shift_in_end : (s : List ℕ) (at x : ℕ) → length s ≤ at → s ≡ shift_in at x s
unfolding shift_in
shift_in_end s at x h =
    sym (ap (λ (l : List ℕ). l ++ push_in x (drop at s)) (take_all at s h) ∙ ap (λ (l : List ℕ). s ++ push_in x l) (drop_of_length-le s h) ∙ append-nil s)

-- ── an element shifted out ──
pub pull_length : (s : List ℕ) (x : ℕ) → length (pull_out s x) ≡ length s
pull_length [] x = refl
pull_length (y ∷ []) x = refl
pull_length (y ∷ z ∷ zs) x = ap suc (pull_length (z ∷ zs) x)

pull_at : (s : List ℕ) (i : ℕ) → get_or (pull_out s 0) i 0 ≡ get_or s (suc i) 0
pull_at [] i = refl
pull_at (y ∷ []) zero = refl
pull_at (y ∷ []) (suc i) = refl
pull_at (y ∷ z ∷ zs) zero = refl
pull_at (y ∷ z ∷ zs) (suc i) = pull_at (z ∷ zs) i

module _ (s : List ℕ) (at : ℕ) (h : at ≤ length s) where
  whole : length (take at s) ≡ at
  whole = length-take-le at s h

  pub shift_out_length : length (shift_out at s) ≡ length s
  unfolding shift_out
  shift_out_length = omega (arith, length-append (take at s) (pull_out (drop at s) 0), pull_length (drop at s) 0, length-drop at s, whole)

  shift_out_from : (i : ℕ) → at ≤ i → get_or (shift_out at s) i 0 ≡ get_or (pull_out (drop at s) 0) (i - at) 0
  unfolding shift_out
  shift_out_from i k =
      let q : i ≡ length (take at s) + (i - at) = omega (arith, whole) in
      ap (λ (n : ℕ). get_or (shift_out at s) n 0) q ∙ get_or-append-add (take at s) (pull_out (drop at s) 0) (i - at) 0

  pub shift_out_before : (i : ℕ) → i < at → get_or (shift_out at s) i 0 ≡ get_or s i 0
  unfolding shift_out
  shift_out_before i k = get_or-append (take at s) (pull_out (drop at s) 0) 0 i (omega (arith, whole)) ∙ get_or-take at s i 0 k

  -- the last becomes 0, as what is past the end
  pub shift_out_after : (i : ℕ) → at ≤ i → get_or (shift_out at s) i 0 ≡ get_or s (i + 1) 0
  shift_out_after i k =
      shift_out_from i k
      ∙ pull_at (drop at s) (i - at)
      ∙ get_or-drop at s (suc (i - at)) 0
      ∙ ap (λ (n : ℕ). get_or s n 0) (let q : at + suc (i - at) ≡ i + 1 = omega arith in q)

-- ── what a slice holds after a part of it was copied one place on or back, and one place written ──
module _ (s t : List ℕ) (at : ℕ) (h : at < length s) (long : length t ≡ length s) (before : SameBelow s t at) where
  pub shift_in_is : (x : ℕ) → CopiedTo s t at (at + 1) (length s - 1 - at) → set t at x ≡ shift_in at x s
  shift_in_is x after =
      ext_get_or 0 (set t at x) (shift_in at x s)
      (length-set t at x ∙ long ∙ sym (shift_in_length s at x (omega arith)))
      (λ i k. go i (omega (arith, length-set t at x)) (dec_lt i at) (dec_lt at i))
    where
      go : (i : ℕ) → i < length s → Dec (i < at) → Dec (at < i) → get_or (set t at x) i 0 ≡ get_or (shift_in at x s) i 0
      go i l (yes k) d = get_or-set_other t at i x 0 (omega arith) ∙ before i 0 k ∙ sym (shift_in_before s at x (omega arith) i k)
      go i l (no k) (yes m) =
          get_or-set_other t at i x 0 (omega arith)
          ∙ after i 0 (omega arith) (omega arith)
          ∙ ap (λ (n : ℕ). get_or s n 0) (let q : at + (i - (at + 1)) ≡ i - 1 = omega arith in q)
          ∙ sym (shift_in_after s at x (omega arith) i m l)
      go i l (no k) (no m) =
          let q : i ≡ at = omega arith in
          ap (λ (n : ℕ). get_or (set t at x) n 0) q
          ∙ get_or-set_same t at x 0 (omega arith)
          ∙ sym (shift_in_at s at x (omega arith) h)
          ∙ ap (λ (n : ℕ). get_or (shift_in at x s) n 0) (sym q)

  pub shift_out_is : CopiedTo s t (at + 1) at (length s - (at + 1)) → set t (length s - 1) 0 ≡ shift_out at s
  shift_out_is after =
      ext_get_or 0 (set t (length s - 1) 0) (shift_out at s)
      (length-set t (length s - 1) 0 ∙ long ∙ sym (shift_out_length s at (omega arith)))
      (λ i k. go i (omega (arith, length-set t (length s - 1) 0)) (dec_lt i at) (dec_lt (i + 1) (length s)))
    where
      go : (i : ℕ) → i < length s → Dec (i < at) → Dec (i + 1 < length s) → get_or (set t (length s - 1) 0) i 0 ≡ get_or (shift_out at s) i 0
      go i l (yes k) d = get_or-set_other t (length s - 1) i 0 0 (omega arith) ∙ before i 0 k ∙ sym (shift_out_before s at (omega arith) i k)
      go i l (no k) (yes m) =
          get_or-set_other t (length s - 1) i 0 0 (omega arith)
          ∙ after i 0 (omega arith) (omega arith)
          ∙ ap (λ (n : ℕ). get_or s n 0) (let q : at + 1 + (i - at) ≡ i + 1 = omega arith in q)
          ∙ sym (shift_out_after s at (omega arith) i (omega arith))
      go i l (no k) (no m) =
          let q : i ≡ length s - 1 = omega arith in
          ap (λ (n : ℕ). get_or (set t (length s - 1) 0) n 0) q
          ∙ get_or-set_same t (length s - 1) 0 0 (omega arith)
          ∙ sym (get_or-eq_default s 0 (omega arith))
          ∙ sym (shift_out_after s at (omega arith) i (omega arith))
