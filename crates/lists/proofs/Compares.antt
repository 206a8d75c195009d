-- The laws of `Compare`: what `shared`, `same`, `begins` and `less` say of the lists and of each other.
use Prim.Native.Nat.{ℕ, zero, suc, ◌+◌, ◌≤◌, ◌<◌, min}
use mathlib.Core.Path.{◌≡◌, refl, sym, ap, ◌∙◌}
use mathlib.Core.List.{List, [], ◌∷◌, ◌++◌}
use mathlib.Core.Bool.{Bool, true, false, ◌&&◌, ◌||◌, and_assoc, and-true, or-false, true≢false, false≢true}
use native.Mathlib.Decide.{dec_lt}
use native.Mathlib.Omega.{arith}
use borrow.Author.Tests.{eqb-true, eqb-false, eq-eqb, ne_eqb, lt-ltb, le-ltb}
use lib.ListN.{length, get_or, take, drop, length-take, drop_of_length-le}
use lib.Seq.{get_or-take}
use lib.Pointwise.{pointwise}
use lib.Dec.{eqb, ltb, eqb-zero-suc, eqb-suc-suc}
use Rattle.lists.specs.Scan.{choose}
use Rattle.lists.specs.Compare.{shared, same, begins, less}
use Rattle.lists.proofs.Scans.{step}
use Rattle.lists.proofs.Tests.{both, and_both}

pub shared_nil : (s : List ℕ) → shared s [] ≡ 0
shared_nil [] = refl
shared_nil (x ∷ xs) = refl

-- ── what the shared beginning is ──
pub shared_le : (s t : List ℕ) → (shared s t ≤ length s) × (shared s t ≤ length t)
shared_le [] t = (omega arith, omega arith)
shared_le (x ∷ xs) [] = (omega arith, omega arith)
shared_le (x ∷ xs) (y ∷ ys) = go (eqb x y) (shared_le xs ys)
  where
    go : (b : Bool) → (shared xs ys ≤ length xs) × (shared xs ys ≤ length ys)
        → (choose b (suc (shared xs ys)) 0 ≤ suc (length xs)) × (choose b (suc (shared xs ys)) 0 ≤ suc (length ys))
    go true h = (omega arith, omega arith)
    go false h = (omega arith, omega arith)

pub shared_front : (s t : List ℕ) → take (shared s t) s ≡ take (shared s t) t
shared_front [] [] = refl
shared_front [] (y ∷ ys) = refl
shared_front (x ∷ xs) [] = refl
shared_front (x ∷ xs) (y ∷ ys) = go (eqb x y) refl (shared_front xs ys)
  where
    go : (b : Bool) → eqb x y ≡ b → take (shared xs ys) xs ≡ take (shared xs ys) ys
        → take (choose b (suc (shared xs ys)) 0) (x ∷ xs) ≡ take (choose b (suc (shared xs ys)) 0) (y ∷ ys)
    go true e ih = ap (λ (z : ℕ). z ∷ take (shared xs ys) xs) (eqb-true x y e) ∙ ap (λ (l : List ℕ). y ∷ l) ih
    go false e ih = refl

pub shared_at : (s t : List ℕ) (i : ℕ) → i < shared s t → get_or s i 0 ≡ get_or t i 0
shared_at [] t i h = absurd (omega arith)
shared_at (x ∷ xs) [] i h = absurd (omega arith)
shared_at (x ∷ xs) (y ∷ ys) i h = go (eqb x y) refl i (shared_at xs ys) h
  where
    go : (b : Bool) → eqb x y ≡ b → (i : ℕ) → ((j : ℕ) → j < shared xs ys → get_or xs j 0 ≡ get_or ys j 0) → i < choose b (suc (shared xs ys)) 0
        → get_or (x ∷ xs) i 0 ≡ get_or (y ∷ ys) i 0
    go true e zero ih k = eqb-true x y e
    go true e (suc i) ih k = ih i (omega arith)
    go false e i ih k = absurd (omega arith)

pub shared_differ : (s t : List ℕ) → shared s t < length s → shared s t < length t → get_or s (shared s t) 0 ≡ get_or t (shared s t) 0 → ⊥
shared_differ [] t h k = absurd (omega arith)
shared_differ (x ∷ xs) [] h k = absurd (omega arith)
shared_differ (x ∷ xs) (y ∷ ys) h k = go (eqb x y) refl (shared_differ xs ys) h k
  where
    go : (b : Bool) → eqb x y ≡ b → (shared xs ys < length xs → shared xs ys < length ys → get_or xs (shared xs ys) 0 ≡ get_or ys (shared xs ys) 0 → ⊥)
        → choose b (suc (shared xs ys)) 0 < suc (length xs) → choose b (suc (shared xs ys)) 0 < suc (length ys)
        → get_or (x ∷ xs) (choose b (suc (shared xs ys)) 0) 0 ≡ get_or (y ∷ ys) (choose b (suc (shared xs ys)) 0) 0 → ⊥
    go true e ih h k = ih (omega arith) (omega arith)
    go false e ih h k = eqb-false x y e

-- it is the only such length
pub shared_is : (s t : List ℕ) (n : ℕ) → n ≤ length s → n ≤ length t → ((i : ℕ) → i < n → get_or s i 0 ≡ get_or t i 0)
    → (n < length s → n < length t → get_or s n 0 ≡ get_or t n 0 → ⊥) → shared s t ≡ n
shared_is [] t n h k a d = omega arith
shared_is (x ∷ xs) [] n h k a d = omega arith
shared_is (x ∷ xs) (y ∷ ys) zero h k a d =
    ap (λ (b : Bool). choose b (suc (shared xs ys)) 0) (ne_eqb x y (d (omega arith) (omega arith)))
shared_is (x ∷ xs) (y ∷ ys) (suc n) h k a d =
    ap (λ (b : Bool). choose b (suc (shared xs ys)) 0) (eq-eqb x y (a 0 (omega arith)))
    ∙ ap suc (shared_is xs ys n (omega arith) (omega arith) (λ i j. a (suc i) (omega arith)) (λ i j. d (omega arith) (omega arith)))

-- a common beginning is no longer than it
pub shared_more : (s t : List ℕ) (n : ℕ) → n ≤ length s → n ≤ length t → take n s ≡ take n t → n ≤ shared s t
shared_more [] t n h k e = h
shared_more (x ∷ xs) [] n h k e = k
shared_more (x ∷ xs) (y ∷ ys) zero h k e = omega arith
shared_more (x ∷ xs) (y ∷ ys) (suc n) h k e =
    let q : x ≡ y = cc in
    let w : take n xs ≡ take n ys = cc in
    omega (arith, shared_more xs ys n (omega arith) (omega arith) w, ap (λ (b : Bool). choose b (suc (shared xs ys)) 0) (eq-eqb x y q))

pub shared_swap : (s t : List ℕ) → shared s t ≡ shared t s
shared_swap s t =
    shared_is s t (shared t s) (shared_le t s).1 (shared_le t s).0
    (λ i h. sym (shared_at t s i h))
    (λ h k e. shared_differ t s k h (sym e))

-- with the left cut short
pub shared_take : (n : ℕ) (s t : List ℕ) → shared (take n s) t ≡ min n (shared s t)
shared_take n s t = go (shared_le s t) (length-take n s) (dec_lt n (shared s t))
  where
    go : (shared s t ≤ length s) × (shared s t ≤ length t) → length (take n s) ≡ min n (length s) → Dec (n < shared s t) → shared (take n s) t ≡ min n (shared s t)
    go b long (yes h) =
        shared_is (take n s) t n (omega arith) (omega arith) (λ i k. get_or-take n s i 0 k ∙ shared_at s t i (omega arith)) (λ k m d. omega arith)
        ∙ omega arith
    go b long (no h) =
        shared_is (take n s) t (shared s t) (omega arith) (omega arith) (λ i k. get_or-take n s i 0 (omega arith) ∙ shared_at s t i k)
        (λ k m d. shared_differ s t (omega arith) m (sym (get_or-take n s (shared s t) 0 (omega arith)) ∙ d))
        ∙ omega arith

pub shared_self : (s : List ℕ) → shared s s ≡ length s
shared_self [] = refl
shared_self (x ∷ xs) = ap (λ (b : Bool). choose b (suc (shared xs xs)) 0) (eq-eqb x x refl) ∙ ap suc (shared_self xs)

-- ── the same, and what begins ──
-- the left begins the right exactly where they share its whole length
pub begins_shared : (s t : List ℕ) → begins s t ≡ eqb (shared s t) (length s)
begins_shared [] t = refl
begins_shared (x ∷ xs) [] = sym (eqb-zero-suc (length xs))
begins_shared (x ∷ xs) (y ∷ ys) = go (eqb x y) (begins_shared xs ys)
  where
    go : (b : Bool) → begins xs ys ≡ eqb (shared xs ys) (length xs) → b && begins xs ys ≡ eqb (choose b (suc (shared xs ys)) 0) (suc (length xs))
    go true ih = rw (eqb-suc-suc (shared xs ys) (length xs)) ih
    go false ih = sym (eqb-zero-suc (length xs))

-- and by the elements, pair by pair
pub begins_starts : (s t : List ℕ) → begins s t ≡ pointwise eqb s (take (length s) t)
begins_starts [] t = refl
begins_starts (x ∷ xs) [] = refl
begins_starts (x ∷ xs) (y ∷ ys) = ap (λ (b : Bool). eqb x y && b) (begins_starts xs ys)

-- no list begins a shorter one
pub begins_long : (s t : List ℕ) → length t < length s → false ≡ begins s t
begins_long s t h = sym (begins_shared s t ∙ ne_eqb (shared s t) (length s) (omega (arith, shared_le s t)))

-- of two lists of one length that begins the other exactly where they are the same
pub same_begins : (s t : List ℕ) → length s ≡ length t → begins s t ≡ same s t
same_begins [] [] h = refl
same_begins [] (y ∷ ys) h = absurd (omega arith)
same_begins (x ∷ xs) [] h = absurd (omega arith)
same_begins (x ∷ xs) (y ∷ ys) h = ap (λ (b : Bool). eqb x y && b) (same_begins xs ys (omega arith))

-- the left begins the right, which is no shorter: `ok` says whether they agree before i
pub record Begins (s t : List ℕ) (i : ℕ) (ok : Bool) : Type 0 where
  pub within : i ≤ length s
  pub fits : length s ≤ length t
  pub left : begins s t ≡ ok && begins (drop i s) (drop i t)

pub begins_start : {s t : List ℕ} → length s ≤ length t → Begins s t 0 true
begins_start h = record { within = omega arith; fits = h; left = refl }

module _ {s t : List ℕ} {i : ℕ} {ok : Bool} (r : Begins s t i ok) where
  pub begins_on : i < length s → Begins s t (i + 1) (ok && eqb (get_or s i 0) (get_or t i 0))
  begins_on h =
      let x = get_or s i 0 in
      let y = get_or t i 0 in
      let e : begins (drop i s) (drop i t) ≡ eqb x y && begins (drop (i + 1) s) (drop (i + 1) t) =
      ap (λ (l : List ℕ). begins l (drop i t)) (step s i h) ∙ ap (begins (x ∷ drop (i + 1) s)) (step t i (omega (arith, r.fits))) in
      record {
        within = omega arith;
        fits = r.fits;
        left = r.left ∙ ap (λ (b : Bool). ok && b) e ∙ sym (and_assoc ok (eqb x y) (begins (drop (i + 1) s) (drop (i + 1) t)));
      }

  pub begins_end : length s ≤ i → ok ≡ begins s t
  begins_end h = sym (r.left ∙ ap (λ (l : List ℕ). ok && begins l (drop i t)) (drop_of_length-le s h) ∙ and-true ok)

-- and so the right goes on from it, and back
pub begins_rest : (s t : List ℕ) → begins s t ≡ true → (z : List ℕ) × (t ≡ s ++ z)
begins_rest [] t e = (t, refl)
begins_rest (x ∷ xs) [] e = absurd (false≢true e)
begins_rest (x ∷ xs) (y ∷ ys) e =
    let b = both (eqb x y) (begins xs ys) e in
    let r = begins_rest xs ys b.1 in
    (r.0, λ i. sym (eqb-true x y b.0) i ∷ r.1 i)

pub rest_begins : (s z : List ℕ) → begins s (s ++ z) ≡ true
rest_begins [] z = refl
rest_begins (x ∷ xs) z = and_both (eq-eqb x x refl) (rest_begins xs z)

pub same_eq : (s t : List ℕ) → same s t ≡ true → s ≡ t
same_eq [] [] e = refl
same_eq [] (y ∷ ys) e = absurd (false≢true e)
same_eq (x ∷ xs) [] e = absurd (false≢true e)
same_eq (x ∷ xs) (y ∷ ys) e =
    let b = both (eqb x y) (same xs ys) e in
    ap (λ (z : ℕ). z ∷ xs) (eqb-true x y b.0) ∙ ap (λ (l : List ℕ). y ∷ l) (same_eq xs ys b.1)

pub same_self : (s : List ℕ) → same s s ≡ true
same_self [] = refl
same_self (x ∷ xs) = and_both (eq-eqb x x refl) (same_self xs)

pub eq_same : (s t : List ℕ) → s ≡ t → same s t ≡ true
eq_same s t e = ap (same s) (sym e) ∙ same_self s

pub ne_same : (s t : List ℕ) → (s ≡ t → ⊥) → same s t ≡ false
ne_same s t d = go (same s t) refl
  where
    go : (b : Bool) → same s t ≡ b → b ≡ false
    go true e = absurd (d (same_eq s t e))
    go false e = refl

-- ── before, by what both share ──
pub less_out : (s t : List ℕ) → shared s t ≡ length t → less s t ≡ false
less_out s [] h = refl
less_out [] (y ∷ ys) h = absurd (omega arith)
less_out (x ∷ xs) (y ∷ ys) h = go (eqb x y) refl (less_out xs ys) h
  where
    go : (b : Bool) → eqb x y ≡ b → (shared xs ys ≡ length ys → less xs ys ≡ false) → choose b (suc (shared xs ys)) 0 ≡ suc (length ys)
        → ltb x y || (b && less xs ys) ≡ false
    go true e ih k = ap (λ (c : Bool). c || less xs ys) (le-ltb x y (omega (arith, eqb-true x y e))) ∙ ih (omega arith)
    go false e ih k = absurd (omega arith)

pub less_end : (s t : List ℕ) → shared s t ≡ length s → shared s t < length t → less s t ≡ true
less_end s [] h k = absurd (omega arith)
less_end [] (y ∷ ys) h k = refl
less_end (x ∷ xs) (y ∷ ys) h k = go (eqb x y) refl (less_end xs ys) h k
  where
    go : (b : Bool) → eqb x y ≡ b → (shared xs ys ≡ length xs → shared xs ys < length ys → less xs ys ≡ true) → choose b (suc (shared xs ys)) 0 ≡ suc (length xs)
        → choose b (suc (shared xs ys)) 0 < suc (length ys) → ltb x y || (b && less xs ys) ≡ true
    go true e ih h k = ap (λ (c : Bool). c || less xs ys) (le-ltb x y (omega (arith, eqb-true x y e))) ∙ ih (omega arith) (omega arith)
    go false e ih h k = absurd (omega arith)

pub less_at : (s t : List ℕ) → shared s t < length s → shared s t < length t → less s t ≡ ltb (get_or s (shared s t) 0) (get_or t (shared s t) 0)
less_at s [] h k = absurd (omega arith)
less_at [] (y ∷ ys) h k = absurd (omega arith)
less_at (x ∷ xs) (y ∷ ys) h k = go (eqb x y) refl (less_at xs ys) h k
  where
    go : (b : Bool) → eqb x y ≡ b → (shared xs ys < length xs → shared xs ys < length ys → less xs ys ≡ ltb (get_or xs (shared xs ys) 0) (get_or ys (shared xs ys) 0))
        → choose b (suc (shared xs ys)) 0 < suc (length xs) → choose b (suc (shared xs ys)) 0 < suc (length ys)
        → ltb x y || (b && less xs ys) ≡ ltb (get_or (x ∷ xs) (choose b (suc (shared xs ys)) 0) 0) (get_or (y ∷ ys) (choose b (suc (shared xs ys)) 0) 0)
    go true e ih h k = ap (λ (c : Bool). c || less xs ys) (le-ltb x y (omega (arith, eqb-true x y e))) ∙ ih (omega arith) (omega arith)
    go false e ih h k = or-false (ltb x y)

-- ── before, element by element, and as an order ──
module _ (x y : ℕ) (xs ys : List ℕ) where
  pub less_low : x < y → less (x ∷ xs) (y ∷ ys) ≡ true
  less_low h = ap (λ (c : Bool). c || (eqb x y && less xs ys)) (lt-ltb x y h)

  pub less_high : y < x → less (x ∷ xs) (y ∷ ys) ≡ false
  less_high h =
      ap (λ (c : Bool). c || (eqb x y && less xs ys)) (le-ltb x y (omega arith)) ∙ ap (λ (c : Bool). c && less xs ys) (ne_eqb x y (omega arith))

  pub less_level : x ≡ y → less (x ∷ xs) (y ∷ ys) ≡ less xs ys
  less_level h =
      ap (λ (c : Bool). c || (eqb x y && less xs ys)) (le-ltb x y (omega arith)) ∙ ap (λ (c : Bool). c && less xs ys) (eq-eqb x y h)

pub less_self : (s : List ℕ) → less s s ≡ false
less_self s = less_out s s (shared_self s)

pub less_trans : (s t u : List ℕ) → less s t ≡ true → less t u ≡ true → less s u ≡ true
less_trans s t [] e f = absurd (false≢true f)
less_trans s [] (z ∷ zs) e f = absurd (false≢true e)
less_trans [] (y ∷ ys) (z ∷ zs) e f = refl
less_trans (x ∷ xs) (y ∷ ys) (z ∷ zs) e f = go (dec_lt y x) (dec_lt z y) (dec_lt x y) (dec_lt y z) (less_trans xs ys zs)
  where
    go : Dec (y < x) → Dec (z < y) → Dec (x < y) → Dec (y < z) → (less xs ys ≡ true → less ys zs ≡ true → less xs zs ≡ true) → less (x ∷ xs) (z ∷ zs) ≡ true
    go (yes a) b c d ih = absurd (true≢false (sym e ∙ less_high x y xs ys a))
    go (no a) (yes b) c d ih = absurd (true≢false (sym f ∙ less_high y z ys zs b))
    go (no a) (no b) (yes c) d ih = less_low x z xs zs (omega arith)
    go (no a) (no b) (no c) (yes d) ih = less_low x z xs zs (omega arith)
    go (no a) (no b) (no c) (no d) ih =
        less_level x z xs zs (omega arith)
        ∙ ih (sym (less_level x y xs ys (omega arith)) ∙ e) (sym (less_level y z ys zs (omega arith)) ∙ f)

pub less_neither : (s t : List ℕ) → less s t ≡ false → less t s ≡ false → s ≡ t
less_neither [] [] e f = refl
less_neither [] (y ∷ ys) e f = absurd (true≢false e)
less_neither (x ∷ xs) [] e f = absurd (true≢false f)
less_neither (x ∷ xs) (y ∷ ys) e f = go (dec_lt x y) (dec_lt y x) (less_neither xs ys)
  where
    go : Dec (x < y) → Dec (y < x) → (less xs ys ≡ false → less ys xs ≡ false → xs ≡ ys) → x ∷ xs ≡ y ∷ ys
    go (yes a) b ih = absurd (true≢false (sym (less_low x y xs ys a) ∙ e))
    go (no a) (yes b) ih = absurd (true≢false (sym (less_low y x ys xs b) ∙ f))
    go (no a) (no b) ih =
        let q : x ≡ y = omega arith in
        ap (λ (z : ℕ). z ∷ xs) q
        ∙ ap (λ (l : List ℕ). y ∷ l) (ih (sym (less_level x y xs ys q) ∙ e) (sym (less_level y x ys xs (sym q)) ∙ f))
