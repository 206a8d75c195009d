-- What the tests of a whole list say of its elements, and how they go over two lists in a row and over a part of a list.
use Prim.Native.Nat.{ℕ, zero, suc, ◌+◌, ◌-◌, ◌≤◌, ◌<◌}
use mathlib.Core.Path.{◌≡◌, refl, sym, ap, subst, ◌∙◌}
use mathlib.Core.List.{List, [], ◌∷◌, ◌++◌}
use mathlib.Core.Bool.{Bool, true, false, ◌&&◌, and_assoc, and-false, false≢true}
use native.Mathlib.Omega.{arith}
use borrow.Author.Tests.{leb-true, le-leb, ne_eqb}
use lib.ListN.{length, get_or, take, drop, set, replicate}
use lib.Dec.{eqb, leb, eqb-suc-suc}
use Rattle.lists.specs.Scan.{choose, at_most, all_pass, first, past, onward, nth, how_many, rises}
use Rattle.lists.specs.Part.{between}
use Rattle.lists.proofs.Scans.{nth_skips, nth_counts, nth_here}

pub both : (a b : Bool) → a && b ≡ true → (a ≡ true) × (b ≡ true)
both true b e = (refl, e)
both false b e = absurd (false≢true e)

pub and_both : {a b : Bool} → a ≡ true → b ≡ true → a && b ≡ true
and_both {a} {b} e f = ap (λ (t : Bool). t && b) e ∙ f

-- ── each passes ──
module _ (p : ℕ → Bool) where
  pub all_at : (l : List ℕ) → all_pass p l ≡ true → (i : ℕ) → i < length l → p (get_or l i 0) ≡ true
  all_at [] e i h = absurd (omega arith)
  all_at (x ∷ xs) e zero h = (both (p x) (all_pass p xs) e).0
  all_at (x ∷ xs) e (suc i) h = all_at xs (both (p x) (all_pass p xs) e).1 i (omega arith)

  pub all_by : (l : List ℕ) → ((i : ℕ) → i < length l → p (get_or l i 0) ≡ true) → all_pass p l ≡ true
  all_by [] h = refl
  all_by (x ∷ xs) h = and_both (h 0 (omega arith)) (all_by xs (λ i k. h (suc i) (omega arith)))

  pub all_append : (l k : List ℕ) → all_pass p (l ++ k) ≡ all_pass p l && all_pass p k
  all_append [] k = refl
  all_append (x ∷ xs) k = ap (λ (b : Bool). p x && b) (all_append xs k) ∙ sym (and_assoc (p x) (all_pass p xs) (all_pass p k))

  pub all_drop : (n : ℕ) (l : List ℕ) → all_pass p l ≡ true → all_pass p (drop n l) ≡ true
  all_drop zero l e = e
  all_drop (suc n) [] e = refl
  all_drop (suc n) (x ∷ xs) e = all_drop n xs (both (p x) (all_pass p xs) e).1

  pub all_take : (n : ℕ) (l : List ℕ) → all_pass p l ≡ true → all_pass p (take n l) ≡ true
  all_take zero l e = refl
  all_take (suc n) [] e = refl
  all_take (suc n) (x ∷ xs) e = and_both (both (p x) (all_pass p xs) e).0 (all_take n xs (both (p x) (all_pass p xs) e).1)

  pub all_replicate : (n x : ℕ) → p x ≡ true → all_pass p (replicate n x) ≡ true
  all_replicate zero x e = refl
  all_replicate (suc n) x e = and_both e (all_replicate n x e)

  pub all_set : (l : List ℕ) (i v : ℕ) → all_pass p l ≡ true → p v ≡ true → all_pass p (set l i v) ≡ true
  all_set [] i v e f = refl
  all_set (x ∷ xs) zero v e f = and_both f (both (p x) (all_pass p xs) e).1
  all_set (x ∷ xs) (suc i) v e f = and_both (both (p x) (all_pass p xs) e).0 (all_set xs i v (both (p x) (all_pass p xs) e).1 f)

  -- one that fails is enough
  pub all_fails : (l : List ℕ) (i : ℕ) → i < length l → p (get_or l i 0) ≡ false → all_pass p l ≡ false
  all_fails [] i h e = absurd (omega arith)
  all_fails (x ∷ xs) zero h e = ap (λ (b : Bool). b && all_pass p xs) e
  all_fails (x ∷ xs) (suc i) h e = ap (λ (b : Bool). p x && b) (all_fails xs i (omega arith) e) ∙ and-false (p x)

  pub all_between : (l : List ℕ) (a e : ℕ) → all_pass p l ≡ true → all_pass p (between l a e) ≡ true
  all_between l a e h = all_take (e - a) (drop a l) (all_drop a l h)

pub all_zero : (l : List ℕ) → all_pass (at_most 0) l ≡ true → l ≡ replicate (length l) 0
all_zero [] e = refl
all_zero (x ∷ xs) e =
    let b = both (leb x 0) (all_pass (at_most 0) xs) e in
    let z : x ≡ 0 = omega (arith, leb-true x 0 b.0) in
    ap (λ (y : ℕ). y ∷ xs) z ∙ ap (λ (l : List ℕ). 0 ∷ l) (all_zero xs b.1)

-- zeros, and nothing behind them
pub zeros_at : (n i : ℕ) → get_or {A = ℕ} (replicate n 0) i 0 ≡ 0
zeros_at zero i = refl
zeros_at (suc n) zero = refl
zeros_at (suc n) (suc i) = zeros_at n i

pub zeros_all : (n b : ℕ) → all_pass (at_most b) (replicate n 0) ≡ true
zeros_all n b = all_replicate (at_most b) n 0 (le-leb 0 b (omega arith))

-- ── the first that passes ──
module _ (p : ℕ → Bool) where
  pub first_le : (l : List ℕ) → first p l ≤ length l
  first_le [] = omega arith
  first_le (x ∷ xs) = go (p x) (first_le xs)
    where
      go : (t : Bool) → first p xs ≤ length xs → choose t 0 (suc (first p xs)) ≤ suc (length xs)
      go true h = omega arith
      go false h = omega arith

  pub first_passes : (l : List ℕ) → first p l < length l → p (get_or l (first p l) 0) ≡ true
  first_passes [] h = absurd (omega arith)
  first_passes (x ∷ xs) h = go (p x) refl (first_passes xs) h
    where
      go : (t : Bool) → p x ≡ t → (first p xs < length xs → p (get_or xs (first p xs) 0) ≡ true) → choose t 0 (suc (first p xs)) < suc (length xs)
          → p (get_or (x ∷ xs) (choose t 0 (suc (first p xs))) 0) ≡ true
      go true e ih k = e
      go false e ih k = ih (omega arith)

  pub first_before : (l : List ℕ) (i : ℕ) → i < first p l → p (get_or l i 0) ≡ false
  first_before [] i h = absurd (omega arith)
  first_before (x ∷ xs) i h = go (p x) refl i (first_before xs) h
    where
      go : (t : Bool) → p x ≡ t → (i : ℕ) → ((j : ℕ) → j < first p xs → p (get_or xs j 0) ≡ false) → i < choose t 0 (suc (first p xs)) → p (get_or (x ∷ xs) i 0) ≡ false
      go true e i ih k = absurd (omega arith)
      go false e zero ih k = e
      go false e (suc i) ih k = ih i (omega arith)

  pub first_none : (l : List ℕ) → first p l ≡ length l → (i : ℕ) → i < length l → p (get_or l i 0) ≡ false
  first_none l e i h = first_before l i (omega arith)

  pub first_is : (l : List ℕ) (i : ℕ) → i < length l → p (get_or l i 0) ≡ true → ((j : ℕ) → j < i → p (get_or l j 0) ≡ false) → first p l ≡ i
  first_is [] i h t b = absurd (omega arith)
  first_is (x ∷ xs) zero h t b = ap (λ (c : Bool). choose c 0 (suc (first p xs))) t
  first_is (x ∷ xs) (suc i) h t b =
      ap (λ (c : Bool). choose c 0 (suc (first p xs))) (b 0 (omega arith)) ∙ ap suc (first_is xs i (omega arith) t (λ j k. b (suc j) (omega arith)))

  -- ── the last that passes ──
  pub past_le : (l : List ℕ) → past p l ≤ length l
  past_le [] = omega arith
  past_le (x ∷ xs) = go (p x) (past p xs) (past_le xs)
    where
      go : (t : Bool) (n : ℕ) → n ≤ length xs → onward (choose t 1 0) n ≤ suc (length xs)
      go true zero h = omega arith
      go false zero h = omega arith
      go t (suc n) h = omega arith

  pub past_passes : (l : List ℕ) → 0 < past p l → p (get_or l (past p l - 1) 0) ≡ true
  past_passes [] h = absurd (omega arith)
  past_passes (x ∷ xs) h = go (p x) refl (past p xs) (past_passes xs) h
    where
      go : (t : Bool) → p x ≡ t → (n : ℕ) → (0 < n → p (get_or xs (n - 1) 0) ≡ true) → 0 < onward (choose t 1 0) n → p (get_or (x ∷ xs) (onward (choose t 1 0) n - 1) 0) ≡ true
      go true e zero ih k = e
      go false e zero ih k = absurd (omega arith)
      go t e (suc n) ih k =
          ap (λ (m : ℕ). p (get_or (x ∷ xs) m 0)) (let q : suc (suc n) - 1 ≡ suc (suc n - 1) = omega arith in q) ∙ ih (omega arith)

  pub past_behind : (l : List ℕ) (i : ℕ) → past p l ≤ i → i < length l → p (get_or l i 0) ≡ false
  past_behind [] i k h = absurd (omega arith)
  past_behind (x ∷ xs) i k h = go (p x) refl (past p xs) i (past_behind xs) k h
    where
      go : (t : Bool) → p x ≡ t → (n i : ℕ) → ((j : ℕ) → n ≤ j → j < length xs → p (get_or xs j 0) ≡ false) → onward (choose t 1 0) n ≤ i → i < suc (length xs)
          → p (get_or (x ∷ xs) i 0) ≡ false
      go true e zero zero ih k h = absurd (omega arith)
      go false e zero zero ih k h = e
      go t e (suc n) zero ih k h = absurd (omega arith)
      go t e zero (suc i) ih k h = ih i (omega arith) (omega arith)
      go t e (suc n) (suc i) ih k h = ih i (omega arith) (omega arith)

  -- ── how many pass ──
  pub count_le : (l : List ℕ) → how_many p l ≤ length l
  count_le [] = omega arith
  count_le (x ∷ xs) = go (p x) (count_le xs)
    where
      go : (t : Bool) → how_many p xs ≤ length xs → choose t (suc (how_many p xs)) (how_many p xs) ≤ suc (length xs)
      go true h = omega arith
      go false h = omega arith

  pub count_append : (l k : List ℕ) → how_many p (l ++ k) ≡ how_many p l + how_many p k
  count_append [] k = omega arith
  count_append (x ∷ xs) k = go (p x) (count_append xs k)
    where
      go : (t : Bool) → how_many p (xs ++ k) ≡ how_many p xs + how_many p k → choose t (suc (how_many p (xs ++ k))) (how_many p (xs ++ k)) ≡ choose t (suc (how_many p xs)) (how_many p xs) + how_many p k
      go true h = omega arith
      go false h = omega arith

  pub count_all : (l : List ℕ) → all_pass p l ≡ true → how_many p l ≡ length l
  count_all [] e = refl
  count_all (x ∷ xs) e =
      let b = both (p x) (all_pass p xs) e in
      ap (λ (t : Bool). choose t (suc (how_many p xs)) (how_many p xs)) b.0 ∙ ap suc (count_all xs b.1)

  pub all_count : (l : List ℕ) → all_pass p l ≡ eqb (how_many p l) (length l)
  all_count [] = refl
  all_count (x ∷ xs) = go (p x) (all_count xs) (count_le xs)
    where
      go : (t : Bool) → all_pass p xs ≡ eqb (how_many p xs) (length xs) → how_many p xs ≤ length xs → t && all_pass p xs ≡ eqb (choose t (suc (how_many p xs)) (how_many p xs)) (suc (length xs))
      go true ih h = rw (eqb-suc-suc (how_many p xs) (length xs)) ih
      go false ih h = sym (ne_eqb (how_many p xs) (suc (length xs)) (omega arith))

  pub count_none : (l : List ℕ) → ((i : ℕ) → i < length l → p (get_or l i 0) ≡ false) → how_many p l ≡ 0
  count_none [] h = refl
  count_none (x ∷ xs) h =
      ap (λ (t : Bool). choose t (suc (how_many p xs)) (how_many p xs)) (h 0 (omega arith)) ∙ count_none xs (λ i k. h (suc i) (omega arith))

-- ── the one that passes after n others: there is one exactly where more than n pass ──
pub record Stands (p : ℕ → Bool) (n : ℕ) (l : List ℕ) (i : ℕ) : Type 0 where
  pub within : i < length l
  pub passes : p (get_or l i 0) ≡ true
  pub others : how_many p (take i l) ≡ n

module _ (p : ℕ → Bool) where
  stands_on : (x : ℕ) (xs : List ℕ) (n i : ℕ) → p x ≡ true → Stands p n xs i → Stands p (suc n) (x ∷ xs) (suc i)
  stands_on x xs n i e r =
      record { within = omega arith; passes = r.passes; others = ap (λ (t : Bool). choose t (suc (how_many p (take i xs))) (how_many p (take i xs))) e ∙ ap suc r.others }

  stands_off : (x : ℕ) (xs : List ℕ) (n i : ℕ) → p x ≡ false → Stands p n xs i → Stands p n (x ∷ xs) (suc i)
  stands_off x xs n i e r =
      record { within = omega arith; passes = r.passes; others = ap (λ (t : Bool). choose t (suc (how_many p (take i xs))) (how_many p (take i xs))) e ∙ r.others }

  pub nth_found : (n : ℕ) (l : List ℕ) → n < how_many p l → Stands p n l (nth p n l)
  nth_found n [] h = absurd (omega arith)
  nth_found n (x ∷ xs) h = go (p x) refl n (λ m. nth_found m xs) h
    where
      go : (t : Bool) → p x ≡ t → (n : ℕ) → ((m : ℕ) → m < how_many p xs → Stands p m xs (nth p m xs)) → n < choose t (suc (how_many p xs)) (how_many p xs)
          → Stands p n (x ∷ xs) (nth p n (x ∷ xs))
      go true e zero ih k = subst (Stands p zero (x ∷ xs)) (sym (nth_here p x xs e)) (record { within = omega arith; passes = e; others = refl })
      go true e (suc n) ih k = subst (Stands p (suc n) (x ∷ xs)) (sym (nth_counts p x xs n e)) (stands_on x xs n (nth p n xs) e (ih n (omega arith)))
      go false e n ih k = subst (Stands p n (x ∷ xs)) (sym (nth_skips p x xs n e)) (stands_off x xs n (nth p n xs) e (ih n k))

  pub nth_none : (n : ℕ) (l : List ℕ) → how_many p l ≤ n → nth p n l ≡ length l
  nth_none n [] h = refl
  nth_none n (x ∷ xs) h = go (p x) refl n (λ m. nth_none m xs) h
    where
      go : (t : Bool) → p x ≡ t → (n : ℕ) → ((m : ℕ) → how_many p xs ≤ m → nth p m xs ≡ length xs) → choose t (suc (how_many p xs)) (how_many p xs) ≤ n
          → nth p n (x ∷ xs) ≡ suc (length xs)
      go true e zero ih k = absurd (omega arith)
      go true e (suc n) ih k = nth_counts p x xs n e ∙ ap suc (ih n (omega arith))
      go false e n ih k = nth_skips p x xs n e ∙ ap suc (ih n k)

-- ── ascending bytes ──
rises_parts : (lo x : ℕ) (xs : List ℕ) → rises lo (x ∷ xs) ≡ true → (lo ≤ x) × (x ≤ 255) × (rises (x + 1) xs ≡ true)
rises_parts lo x xs e =
    let a = both (leb lo x) (leb x 255 && rises (x + 1) xs) e in
    let b = both (leb x 255) (rises (x + 1) xs) a.1 in
    (leb-true lo x a.0, leb-true x 255 b.0, b.1)

rises_cons : (lo x : ℕ) (xs : List ℕ) → lo ≤ x → x ≤ 255 → rises (x + 1) xs ≡ true → rises lo (x ∷ xs) ≡ true
rises_cons lo x xs h k e = and_both (le-leb lo x h) (and_both (le-leb x 255 k) e)

pub rises_at : (lo : ℕ) (l : List ℕ) → rises lo l ≡ true → (i : ℕ) → i < length l → (lo ≤ get_or l i 0) × (get_or l i 0 ≤ 255)
rises_at lo [] e i h = absurd (omega arith)
rises_at lo (x ∷ xs) e zero h = ((rises_parts lo x xs e).0, (rises_parts lo x xs e).1)
rises_at lo (x ∷ xs) e (suc i) h =
    let a = rises_parts lo x xs e in
    let b = rises_at (x + 1) xs a.2 i (omega arith) in
    (omega arith, b.1)

pub rises_lt : (lo : ℕ) (l : List ℕ) → rises lo l ≡ true → (i j : ℕ) → i < j → j < length l → get_or l i 0 < get_or l j 0
rises_lt lo [] e i j h k = absurd (omega arith)
rises_lt lo (x ∷ xs) e i zero h k = absurd (omega arith)
rises_lt lo (x ∷ xs) e zero (suc j) h k = omega (arith, rises_at (x + 1) xs (rises_parts lo x xs e).2 j (omega arith))
rises_lt lo (x ∷ xs) e (suc i) (suc j) h k = rises_lt (x + 1) xs (rises_parts lo x xs e).2 i j (omega arith) (omega arith)

pub rises_by : (lo : ℕ) (l : List ℕ) → ((i : ℕ) → i < length l → (lo ≤ get_or l i 0) × (get_or l i 0 ≤ 255))
    → ((i j : ℕ) → i < j → j < length l → get_or l i 0 < get_or l j 0) → rises lo l ≡ true
rises_by lo [] h k = refl
rises_by lo (x ∷ xs) h k =
    rises_cons lo x xs (h 0 (omega arith)).0 (h 0 (omega arith)).1
    (rises_by (x + 1) xs (λ i b. (omega (arith, k 0 (suc i) (omega arith) (omega arith)), (h (suc i) (omega arith)).1)) (λ i j b d. k (suc i) (suc j) (omega arith) (omega arith)))
