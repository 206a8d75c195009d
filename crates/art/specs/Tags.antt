-- Tags are lists of bytes, a byte is a number, and a listing is a list of tags with what each holds.
use Rattle.std.specs.Prelude.{◌≡◌, refl, ◌⊎◌, ℕ, ◌<◌, length, take, drop}
use Rattle.std.proofs.Common.{sym, ap, ◌∙◌, arith, take-append-drop}
use mathlib.Core.List.{List, [], ◌∷◌, ◌++◌, head-eq_of_cons-eq, tail-eq_of_cons-eq, cons-ne-nil}
use Rattle.std.proofs.Math.Decide.{ℕ_discrete, dec_lt}
use Rattle.std.proofs.Math.Seq.{take-append_seam}
use Rattle.art.specs.Decisions.{iff_dec, both_dec}

-- the bytes of a tag
abbrev pub Tag : Type 0
Tag = List ℕ

-- tags, each with what it holds
abbrev pub Listing : Type 0 → Type 0
Listing A = List (Tag × A)

-- ── three ways for two numbers ──
-- below, equal or above
pub data Order (x y : ℕ) : Type 0 where
  below : x < y → Order x y
  equal : x ≡ y → Order x y
  above : y < x → Order x y

-- any two numbers are ordered in one of them
unfoldable pub order : (x y : ℕ) → Order x y
unfolding dec_lt ℕ_discrete
order x y = pick (dec_lt x y) (ℕ_discrete x y)
  where
    pick : Dec (x < y) → Dec (x ≡ y) → Order x y
    pick (yes h) e = below h
    pick (no h) (yes e) = equal e
    pick (no h) (no e) = above (omega arith)

-- ── s comes before t, and neither begins the other: at the first byte where they differ s has the lower ──
-- at the first byte where they differ s has the lower
abbrev pub Before : Tag → Tag → Type 0
Before [] t = ⊥
Before (x ∷ s) [] = ⊥
Before (x ∷ s) (y ∷ t) = (x < y) ⊎ ((x ≡ y) × Before s t)

-- the plain unsigned byte order, in which a tag comes after those that begin it
abbrev pub Less : Tag → Tag → Type 0
Less [] [] = ⊥
Less [] (y ∷ t) = Unit {0}
Less (x ∷ s) [] = ⊥
Less (x ∷ s) (y ∷ t) = (x < y) ⊎ ((x ≡ y) × Less s t)

-- s begins t
abbrev pub Begins : Tag → Tag → Type 0
Begins s t = (z : Tag) × (t ≡ s ++ z)

-- whether two tags are equal
unfoldable pub tag_dec : Discrete Tag
unfolding ℕ_discrete
tag_dec [] [] = yes refl
tag_dec [] (y ∷ t) = no (λ e. cons-ne-nil y t (sym e))
tag_dec (x ∷ s) [] = no (cons-ne-nil x s)
tag_dec (x ∷ s) (y ∷ t) = iff_dec (λ h. λ i. h.0 i ∷ h.1 i) (λ e. (head-eq_of_cons-eq e, tail-eq_of_cons-eq e)) (both_dec (ℕ_discrete x y) (tag_dec s t))

-- ── what a search asks of a held tag t and the given bytes s: to be equal, or that t begins s ──
-- equal, or begun
pub data Aim : Type 0 where
  exact : Aim
  begin : Aim

-- the held tag t fits the given bytes s
abbrev pub Fits : Aim → Tag → Tag → Type 0
Fits exact s t = s ≡ t
Fits begin s t = Begins t s

-- whether s begins t
unfoldable pub begins_dec : (s t : Tag) → Dec (Begins s t)
unfolding tag_dec
begins_dec s t =
    iff_dec (λ e. (drop (length s) t, sym (take-append-drop (length s) t) ∙ ap (λ (p : Tag). p ++ drop (length s) t) e)) (λ b. ap (take (length s)) b.1 ∙ take-append_seam s b.0)
    (tag_dec (take (length s) t) s)

-- whether t fits s
unfoldable pub fits_dec : (m : Aim) (s t : Tag) → Dec (Fits m s t)
unfolding tag_dec begins_dec
fits_dec exact s t = tag_dec s t
fits_dec begin s t = begins_dec t s
