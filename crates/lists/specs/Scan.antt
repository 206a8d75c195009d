-- What the loops over one slice compute, on lists of numbers: tests of every element, the first and the last place that passes, counts.
use Rattle.std.specs.Prelude.{ℕ, zero, suc, ◌+◌, List, [], ◌∷◌, Bool, true, false, ◌&&◌, eqb, leb, ltb}

-- by cases on a test
abbrev pub choose : {A : Type 0} → Bool → A → A → A
choose true a b = a
choose false a b = b

-- tests of one number: it equals a
abbrev pub is : ℕ → ℕ → Bool
is a x = eqb x a

-- it is b or less
abbrev pub at_most : ℕ → ℕ → Bool
at_most b x = leb x b

-- it is b or more
abbrev pub at_least : ℕ → ℕ → Bool
at_least b x = leb b x

-- it is not 0
abbrev pub nonzero : ℕ → Bool
nonzero x = ltb 0 x

-- each element passes
abbrev pub all_pass : (ℕ → Bool) → List ℕ → Bool
all_pass p [] = true
all_pass p (x ∷ xs) = p x && all_pass p xs

-- the place of the first element that passes, or the length
abbrev pub first : (ℕ → Bool) → List ℕ → ℕ
first p [] = 0
first p (x ∷ xs) = choose (p x) 0 (suc (first p xs))

-- one more, where there is something to count on from
abbrev pub onward : ℕ → ℕ → ℕ
onward here zero = here
onward here (suc n) = suc (suc n)

-- the place after the last element that passes; 0 where none does
abbrev pub past : (ℕ → Bool) → List ℕ → ℕ
past p [] = 0
past p (x ∷ xs) = onward (choose (p x) 1 0) (past p xs)

-- the place of the element that passes after n others that do, or the length
abbrev pub nth : (ℕ → Bool) → ℕ → List ℕ → ℕ
nth p n [] = 0
nth p zero (x ∷ xs) = choose (p x) 0 (suc (nth p zero xs))
nth p (suc n) (x ∷ xs) = choose (p x) (suc (nth p n xs)) (suc (nth p (suc n) xs))

-- how many pass
abbrev pub how_many : (ℕ → Bool) → List ℕ → ℕ
how_many p [] = 0
how_many p (x ∷ xs) = choose (p x) (suc (how_many p xs)) (how_many p xs)

-- strictly ascending bytes, the first of them lo or more
abbrev pub rises : ℕ → List ℕ → Bool
rises lo [] = true
rises lo (x ∷ xs) = leb lo x && (leb x 255 && rises (x + 1) xs)
