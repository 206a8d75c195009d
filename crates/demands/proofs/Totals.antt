-- A listing with totals alone is changed as the listing with leaf numbers is, since changes go by the tags.
use Prim.Native.Nat.{ℕ, suc, ◌+◌, ◌≤◌}
use mathlib.Core.Path.{◌≡◌, refl, sym, ap, ap₂, subst, ◌∙◌}
use mathlib.Core.Logic.{ite}
use mathlib.Core.List.{[], ◌∷◌, ◌++◌}
use mathlib.Core.Option.{Option, none, some}
use lib.ListN.{length}
use Rattle.records.specs.View.{Held}
use Rattle.art.specs.Tags.{Tag, Listing, Less, Before, tag_dec}
use Rattle.art.specs.Listings.{Every, Sorted, under, lookup}
use Rattle.art.specs.Puts.{less_dec, put, keep, alter}
use Rattle.art.specs.Trees.{Tree, leaf, inner, Row, end, child, contents, row_contents, Good, GoodRow, Above, count}
use Rattle.art.specs.Facts.{forks, row_forks}
use Rattle.reading.specs.Listing.{totals}

-- the total, where something is held
abbrev pub total_of_lem : Option Held → Option ℕ
total_of_lem none = none
total_of_lem (some h) = some h.total

-- ── listings ──
pub totals_length : (l : Listing Held) → length (totals l) ≡ length l
totals_length [] = refl
totals_length (e ∷ l) = ap suc (totals_length l)

pub totals_append : (l m : Listing Held) → totals (l ++ m) ≡ totals l ++ totals m
totals_append [] m = refl
totals_append (e ∷ l) m = ap (λ (r : Listing ℕ). (e.0, e.1.total) ∷ r) (totals_append l m)

pub totals_under : (p : Tag) (l : Listing Held) → totals (under p l) ≡ under p (totals l)
totals_under p [] = refl
totals_under p (e ∷ l) = ap (λ (r : Listing ℕ). (p ++ e.0, e.1.total) ∷ r) (totals_under p l)

pub totals_every : (P : Tag → Type 0) (l : Listing Held) → Every P l → Every P (totals l)
totals_every P [] h = tt
totals_every P (e ∷ l) h = (h.0, totals_every P l h.1)

pub totals_sorted : (l : Listing Held) → Sorted l → Sorted (totals l)
totals_sorted [] h = tt
totals_sorted (e ∷ l) h = (totals_every (Before e.0) l h.0, totals_sorted l h.1)

pub totals_put : (s : Tag) (a : Held) (l : Listing Held) → totals (put s a l) ≡ put s a.total (totals l)
totals_put s a [] = refl
totals_put s a (e ∷ l) = go (less_dec s e.0) (totals_put s a l)
  where
    go : (d : Dec (Less s e.0)) → totals (put s a l) ≡ put s a.total (totals l)
        → totals (ite {C = Listing Held} d ((s, a) ∷ e ∷ l) (e ∷ put s a l)) ≡ ite {C = Listing ℕ} d ((s, a.total) ∷ (e.0, e.1.total) ∷ totals l) ((e.0, e.1.total) ∷ put s a.total (totals l))
    go (yes h) ih = refl
    go (no h) ih = ap (λ (r : Listing ℕ). (e.0, e.1.total) ∷ r) ih

totals_keep : (t : Tag) (o : Option Held) (l : Listing Held) → totals (keep t o l) ≡ keep t (total_of_lem o) (totals l)
totals_keep t none l = refl
totals_keep t (some h) l = refl

pub totals_alter : (g : Held → Option Held) (k : ℕ → Option ℕ) → ((h : Held) → total_of_lem (g h) ≡ k h.total) → (s : Tag) (l : Listing Held) → totals (alter g s l) ≡ alter k s (totals l)
totals_alter g k same s [] = refl
totals_alter g k same s (e ∷ l) = go (tag_dec s e.0) (totals_alter g k same s l)
  where
    go : (d : Dec (s ≡ e.0)) → totals (alter g s l) ≡ alter k s (totals l)
        → totals (ite {C = Listing Held} d (keep e.0 (g e.1) (alter g s l)) (e ∷ alter g s l)) ≡ ite {C = Listing ℕ} d (keep e.0 (k e.1.total) (alter k s (totals l))) ((e.0, e.1.total) ∷ alter k s (totals l))
    go (yes h) ih = totals_keep e.0 (g e.1) (alter g s l) ∙ ap₂ (keep e.0) (same e.1) ih
    go (no h) ih = ap (λ (r : Listing ℕ). (e.0, e.1.total) ∷ r) ih

pub totals_lookup : (s : Tag) (l : Listing Held) → lookup s (totals l) ≡ total_of_lem (lookup s l)
totals_lookup s [] = refl
totals_lookup s (e ∷ l) = go (tag_dec s e.0) (totals_lookup s l)
  where
    go : (d : Dec (s ≡ e.0)) → lookup s (totals l) ≡ total_of_lem (lookup s l) → ite {C = Option ℕ} d (some e.1.total) (lookup s (totals l)) ≡ total_of_lem (ite {C = Option Held} d (some e.1) (lookup s l))
    go (yes h) ih = refl
    go (no h) ih = ih

-- ── trees ──
-- with the totals alone at the leaves
abbrev mutual
  pub plain : Tree Held → Tree ℕ
  plain (leaf n s a) = leaf n s a.total
  plain (inner k n run r) = inner k n run (plain_row r)

  pub plain_row : Row Held → Row ℕ
  plain_row end = end
  plain_row (child b t r) = child b (plain t) (plain_row r)

mutual
  pub plain_contents : (t : Tree Held) → contents (plain t) ≡ totals (contents t)
  plain_contents (leaf n s a) = refl
  plain_contents (inner k n run r) = ap (under run) (plain_row_contents r) ∙ sym (totals_under run (row_contents r))

  pub plain_row_contents : (r : Row Held) → row_contents (plain_row r) ≡ totals (row_contents r)
  plain_row_contents end = refl
  plain_row_contents (child b t r) =
      ap₂ (λ (l m : Listing ℕ). under (b ∷ []) l ++ m) (plain_contents t) (plain_row_contents r)
      ∙ ap (λ (l : Listing ℕ). l ++ totals (row_contents r)) (sym (totals_under (b ∷ []) (contents t)))
      ∙ sym (totals_append (under (b ∷ []) (contents t)) (row_contents r))

plain_count : (r : Row Held) → count (plain_row r) ≡ count r
plain_count end = refl
plain_count (child b t r) = ap suc (plain_count r)

plain_above : (b : ℕ) (r : Row Held) → Above b r → Above b (plain_row r)
plain_above b end h = tt
plain_above b (child c t r) h = (h.0, plain_above b r h.1)

mutual
  pub plain_good : (t : Tree Held) → Good t → Good (plain t)
  plain_good (leaf n s a) g = tt
  plain_good (inner k n run r) g = (subst (λ (n : ℕ). 2 ≤ n) (sym (plain_count r)) g.0, plain_row_good r g.1)

  pub plain_row_good : (r : Row Held) → GoodRow r → GoodRow (plain_row r)
  plain_row_good end g = tt
  plain_row_good (child b t r) g = (plain_good t g.0, plain_above b r g.1, plain_row_good r g.2)

mutual
  pub plain_forks : (t : Tree Held) → forks (plain t) ≡ forks t
  plain_forks (leaf n s a) = refl
  plain_forks (inner k n run r) = ap suc (plain_row_forks r)

  pub plain_row_forks : (r : Row Held) → row_forks (plain_row r) ≡ row_forks r
  plain_row_forks end = refl
  plain_row_forks (child b t r) = ap₂ ◌+◌ (plain_forks t) (plain_row_forks r)
