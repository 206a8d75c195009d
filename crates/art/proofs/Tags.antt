-- The order of tags, and what it is to begin one, to fit one, and to stand below a path.
use mathlib.Core.Path.{◌≡◌, refl, sym, ap, ◌∙◌}
use mathlib.Core.Logic.{inl, inr, ◌≢◌}
use mathlib.Core.List.{[], ◌∷◌, ◌++◌, append_assoc, append-nil, head-eq_of_cons-eq, tail-eq_of_cons-eq, append_cancel_left}
use Prim.Native.Nat.{ℕ}
use native.Mathlib.Omega.{arith}
use lib.ListN.{length}
use Rattle.art.specs.Tags.{Tag, Before, Less, Begins, Aim, exact, begin, Fits}

-- a tag that comes before another is the lesser
pub before_less : (s t : Tag) → Before s t → Less s t
before_less (x ∷ s) [] x4 = elim x4 [ ]
before_less [] t x' = elim x' [ ]
before_less (x ∷ s) (y ∷ t) (inl h) = inl h
before_less (x ∷ s) (y ∷ t) (inr h) = inr (h.0, before_less s t h.1)

-- and comes before it below a path
pub before_under : (p s t : Tag) → Before s t → Before (p ++ s) (p ++ t)
before_under [] s t h = h
before_under (x ∷ p) s t h = inr (refl, before_under p s t h)

-- it does not begin the other
pub before_not_begins : (s t : Tag) → Before s t → ¬ Begins s t
before_not_begins (x ∷ s) [] x6 b = elim x6 [ ]
before_not_begins [] t x'' b = elim x'' [ ]
before_not_begins (x ∷ s) (y ∷ t) (inl h) b = let e = head-eq_of_cons-eq b.1 in omega arith
before_not_begins (x ∷ s) (y ∷ t) (inr h) b = before_not_begins s t h.1 (b.0, tail-eq_of_cons-eq b.1)

-- nor does the other begin it
pub before_not_begun : (s t : Tag) → Before s t → ¬ Begins t s
before_not_begun (x ∷ s) [] x6 b = elim x6 [ ]
before_not_begun [] t x'' b = elim x'' [ ]
before_not_begun (x ∷ s) (y ∷ t) (inl h) b = let e = head-eq_of_cons-eq b.1 in omega arith
before_not_begun (x ∷ s) (y ∷ t) (inr h) b = before_not_begun s t h.1 (b.0, tail-eq_of_cons-eq b.1)

-- and this says it all: the lesser of two tags comes before the other where it does not begin it
pub before_of : (s t : Tag) → Less s t → ¬ Begins s t → Before s t
before_of (x ∷ s) [] h n = elim h [ ]
before_of [] [] h n = elim h [ ]
before_of [] (y ∷ t) h n = n (y ∷ t, refl)
before_of (x ∷ s) (y ∷ t) (inl h) n = inl h
before_of (x ∷ s) (y ∷ t) (inr h) n = inr (h.0, before_of s t h.1 (λ b. n (b.0, λ i. sym h.0 i ∷ b.1 i)))

-- of two tags that part at a byte neither begins the other
pub part_not_begins : (s t c : Tag) (x : ℕ) (u : Tag) (y : ℕ) (v : Tag) → s ≡ c ++ x ∷ u → t ≡ c ++ y ∷ v → x ≢ y → ¬ Begins t s
part_not_begins s t c x u y v i j ne b =
    ne (head-eq_of_cons-eq (append_cancel_left c (x ∷ u) (y ∷ v ++ b.0) (sym i ∙ b.1 ∙ ap (λ (q : Tag). q ++ b.0) j ∙ append_assoc c (y ∷ v) b.0)))

-- tags that are equal, cut after as many bytes, have equal parts
pub cut : (p q : Tag) → length p ≡ length q → (s t : Tag) → p ++ s ≡ q ++ t → (p ≡ q) × (s ≡ t)
cut [] [] h s t e = (refl, e)
cut [] (y ∷ q) h s t e = absurd (omega arith)
cut (x ∷ p) [] h s t e = absurd (omega arith)
cut (x ∷ p) (y ∷ q) h s t e =
    let r = cut p q (omega arith) s t (tail-eq_of_cons-eq e) in
    (λ i. head-eq_of_cons-eq e i ∷ r.0 i, r.1)

-- a held tag that fits the given bytes begins them
pub fits_begins : (m : Aim) (s t : Tag) → Fits m s t → Begins t s
fits_begins exact s t e = ([], e ∙ sym (append-nil t))
fits_begins begin s t b = b

-- what fits fits below a path
pub fits_under : (m : Aim) (p s t : Tag) → Fits m s t → Fits m (p ++ s) (p ++ t)
fits_under exact p s t e = ap (λ (x : Tag). p ++ x) e
fits_under begin p s t b = (b.0, ap (λ (x : Tag). p ++ x) b.1 ∙ sym (append_assoc p t b.0))

-- and the other way round
pub fits_of_under : (m : Aim) (p s t : Tag) → Fits m (p ++ s) (p ++ t) → Fits m s t
fits_of_under exact p s t e = append_cancel_left p s t e
fits_of_under begin p s t b = (b.0, append_cancel_left p s (t ++ b.0) (b.1 ∙ append_assoc p t b.0))
