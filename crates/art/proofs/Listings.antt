-- What holds of every entry of a listing, sorted listings, listings below a path, and the first entry that fits, piece by piece.
use mathlib.Core.Path.{◌≡◌, refl, sym, ap, ◌∙◌}
use mathlib.Core.Logic.{ite, if_pos, if_neg}
use mathlib.Core.Option.{Option, none, some}
use mathlib.Core.List.{[], ◌∷◌, ◌++◌, append_assoc}
use lib.ListN.{length}
use lib.Seq.{drop-append_seam}
use Rattle.art.proofs.Tags.{before_under}
use Rattle.art.specs.Tags.{Tag, Listing, Before, Aim, exact, begin, Fits, tag_dec, begins_dec, fits_dec}
use Rattle.art.specs.Listings.{Every, Sorted, under, strip, find, lookup, lookup_begun}

module _ {A : Type 0} where
  -- what holds of all entries of two listings holds of both in a row
  pub every_append : (P : Tag → Type 0) (l m : Listing A) → Every P l → Every P m → Every P (l ++ m)
  every_append P [] m h k = k
  every_append P (e ∷ l) m h k = (h.0, every_append P l m h.1 k)

  -- what holds of two listings in a row holds of the first
  pub every_left : (P : Tag → Type 0) (l m : Listing A) → Every P (l ++ m) → Every P l
  every_left P [] m h = tt
  every_left P (e ∷ l) m h = (h.0, every_left P l m h.1)

  -- and of the second
  pub every_right : (P : Tag → Type 0) (l m : Listing A) → Every P (l ++ m) → Every P m
  every_right P [] m h = h
  every_right P (e ∷ l) m h = every_right P l m h.1

  -- what follows from what holds of every entry holds of every entry
  pub every_imp : (P Q : Tag → Type 0) → ((s : Tag) → P s → Q s) → (l : Listing A) → Every P l → Every Q l
  every_imp P Q f [] h = tt
  every_imp P Q f (e ∷ l) h = (f e.0 h.0, every_imp P Q f l h.1)

  -- what holds of all tags holds of every entry
  pub every_all : (P : Tag → Type 0) → ((s : Tag) → P s) → (l : Listing A) → Every P l
  every_all P f [] = tt
  every_all P f (e ∷ l) = (f e.0, every_all P f l)

  -- what holds of the path with each tag holds of the listing below the path
  pub every_under : (P : Tag → Type 0) (p : Tag) (l : Listing A) → Every (λ s. P (p ++ s)) l → Every P (under p l)
  every_under P p [] h = tt
  every_under P p (e ∷ l) h = (h.0, every_under P p l h.1)

  -- and the other way round
  pub every_of_under : (P : Tag → Type 0) (p : Tag) (l : Listing A) → Every P (under p l) → Every (λ s. P (p ++ s)) l
  every_of_under P p [] h = tt
  every_of_under P p (e ∷ l) h = (h.0, every_of_under P p l h.1)

  -- two sorted listings in a row are sorted where every tag of the first comes before every tag of the second
  pub sorted_append : (l m : Listing A) → Sorted l → Sorted m → Every (λ s. Every (Before s) m) l → Sorted (l ++ m)
  sorted_append [] m h k b = k
  sorted_append (e ∷ l) m h k b = (every_append (Before e.0) l m h.0 b.0, sorted_append l m h.1 k b.1)

  -- a sorted listing is sorted below a path
  pub sorted_under : (p : Tag) (l : Listing A) → Sorted l → Sorted (under p l)
  sorted_under p [] h = tt
  sorted_under p (e ∷ l) h = (every_under (Before (p ++ e.0)) p l (every_imp (Before e.0) _ (before_under p e.0) l h.0), sorted_under p l h.1)

  -- two listings in a row, below a path, are each below it
  pub under_append : (p : Tag) (l m : Listing A) → under p (l ++ m) ≡ under p l ++ under p m
  under_append p [] m = refl
  under_append p (e ∷ l) m = ap (λ (r : Listing A). (p ++ e.0, e.1) ∷ r) (under_append p l m)

  -- below two paths is below both in a row
  pub under_under : (p q : Tag) (l : Listing A) → under p (under q l) ≡ under (p ++ q) l
  under_under p q [] = refl
  under_under p q (e ∷ l) = rw (under_under p q l, append_assoc p q e.0)

  -- below the empty path nothing changes
  pub under_nil : (l : Listing A) → under [] l ≡ l
  under_nil [] = refl
  under_nil (e ∷ l) = ap (λ (r : Listing A). e ∷ r) (under_nil l)

  -- a listing below a path, with the path left off, is what it was
  pub strip_under : (p : Tag) (l : Listing A) → strip (length p) (under p l) ≡ l
  strip_under p [] = refl
  strip_under p (e ∷ l) = rw (strip_under p l, drop-append_seam p e.0)

  -- nothing is found where no tag fits
  pub find_none : (m : Aim) (s : Tag) (l : Listing A) → Every (λ t. ¬ Fits m s t) l → find m s l ≡ none
  find_none m s [] h = refl
  find_none m s (e ∷ l) h = if_neg (fits_dec m s e.0) h.0 (some e.1) (find m s l) ∙ find_none m s l h.1

  -- what is found is in the second listing where no tag of the first fits
  pub find_right : (m : Aim) (s : Tag) (k l : Listing A) → Every (λ t. ¬ Fits m s t) k → find m s (k ++ l) ≡ find m s l
  find_right m s [] l h = refl
  find_right m s (e ∷ k) l h = if_neg (fits_dec m s e.0) h.0 (some e.1) (find m s (k ++ l)) ∙ find_right m s k l h.1

  -- and in the first where none of the second does
  pub find_left : (m : Aim) (s : Tag) (k l : Listing A) → Every (λ t. ¬ Fits m s t) l → find m s (k ++ l) ≡ find m s k
  find_left m s [] l h = find_none m s l h
  find_left m s (e ∷ k) l h = ap (λ (o : Option A). ite (fits_dec m s e.0) (some e.1) o) (find_left m s k l h)

  -- what is found exactly is what is held for the tag
  pub find_exact : (s : Tag) (l : Listing A) → find exact s l ≡ lookup s l
  unfolding fits_dec
  find_exact s [] = refl
  find_exact s (e ∷ l) = ap (ite (tag_dec s e.0) (some e.1)) (find_exact s l)

  -- and what is found to begin the bytes what the first tag holds that begins them
  pub find_begin : (s : Tag) (l : Listing A) → find begin s l ≡ lookup_begun s l
  unfolding fits_dec
  find_begin s [] = refl
  find_begin s (e ∷ l) = ap (ite (begins_dec e.0 s) (some e.1)) (find_begin s l)

-- two tests that hold together choose the same
pub ite_iff : {P Q C : Type 0} (d : Dec P) (k : Dec Q) → (P → Q) → (Q → P) → (x y : C) → ite d x y ≡ ite k x y
ite_iff (yes p) k f g x y = sym (if_pos k (f p) x y)
ite_iff (no n) k f g x y = sym (if_neg k (λ q. n (g q)) x y)
