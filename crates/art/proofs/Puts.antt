-- Where a tag goes into a sorted listing, and what leaving one out does, piece by piece and below a path.
use mathlib.Core.Path.{◌≡◌, refl, ap, ◌∙◌}
use mathlib.Core.Logic.{inl, inr, ◌≢◌, ite, if_pos, if_neg}
use mathlib.Core.Option.{Option, none, some}
use mathlib.Core.List.{[], ◌∷◌, ◌++◌, append_cancel_left}
use native.Mathlib.Omega.{arith}
use Rattle.art.proofs.Tags.{before_less, before_not_begins, before_not_begun}
use Rattle.art.specs.Tags.{Tag, Listing, Before, Less, Begins, tag_dec}
use Rattle.art.proofs.Listings.{every_imp, every_of_under, ite_iff}
use Rattle.art.specs.Listings.{Every, under}
use Rattle.art.specs.Puts.{less_dec, Apart, put, keep, alter}

-- a tag that comes before another does not come after it
pub before_not_less : (t s : Tag) → Before t s → ¬ Less s t
before_not_less (y ∷ t) [] x5 _ = elim x5 [ ]
before_not_less [] s x'' _ = elim x'' [ ]
before_not_less (y ∷ t) (x ∷ s) (inl h) (inl k) = omega arith
before_not_less (y ∷ t) (x ∷ s) (inl h) (inr k) = omega arith
before_not_less (y ∷ t) (x ∷ s) (inr h) (inl k) = omega arith
before_not_less (y ∷ t) (x ∷ s) (inr h) (inr k) = before_not_less t s h.1 k.1

-- the order of two tags is their order below a path
pub less_under : (p s t : Tag) → Less s t → Less (p ++ s) (p ++ t)
less_under [] s t h = h
less_under (x ∷ p) s t h = inr (refl, less_under p s t h)

-- and the other way round
pub less_of_under : (p s t : Tag) → Less (p ++ s) (p ++ t) → Less s t
less_of_under [] s t h = h
less_of_under (x ∷ p) s t (inl h) = absurd (omega arith)
less_of_under (x ∷ p) s t (inr h) = less_of_under p s t h.1

-- a tag that comes before another below a path comes before it
pub before_of_under : (p s t : Tag) → Before (p ++ s) (p ++ t) → Before s t
before_of_under [] s t h = h
before_of_under (x ∷ p) s t (inl h) = absurd (omega arith)
before_of_under (x ∷ p) s t (inr h) = before_of_under p s t h.1

-- tags that are apart below a path are apart
pub apart_of_under : (p s t : Tag) → Apart (p ++ s) (p ++ t) → Apart s t
apart_of_under p s t (inl h) = inl (before_of_under p s t h)
apart_of_under p s t (inr h) = inr (before_of_under p t s h)

-- of two tags that are apart the first does not begin the second
pub apart_not_begins : (s t : Tag) → Apart s t → ¬ Begins s t
apart_not_begins s t (inl h) = before_not_begins s t h
apart_not_begins s t (inr h) = before_not_begun t s h

-- nor the second the first
pub apart_not_begun : (s t : Tag) → Apart s t → ¬ Begins t s
apart_not_begun s t (inl h) = before_not_begun s t h
apart_not_begun s t (inr h) = before_not_begins t s h

module _ {A : Type 0} where
  -- a tag that comes before all goes in at the front
  pub put_front : (s : Tag) (a : A) (l : Listing A) → Every (Before s) l → put s a l ≡ (s, a) ∷ l
  put_front s a [] h = refl
  put_front s a (e ∷ l) h = if_pos (less_dec s e.0) (before_less s e.0 h.0) _ _

  -- a tag that comes after all of the first listing goes into the second
  pub put_right : (s : Tag) (a : A) (l m : Listing A) → Every (λ t. Before t s) l → put s a (l ++ m) ≡ l ++ put s a m
  put_right s a [] m h = refl
  put_right s a (e ∷ l) m h = if_neg (less_dec s e.0) (before_not_less e.0 s h.0) _ _ ∙ ap (λ (r : Listing A). e ∷ r) (put_right s a l m h.1)

  -- a tag that comes before all of the second listing goes into the first
  pub put_left : (s : Tag) (a : A) (l m : Listing A) → Every (Before s) m → put s a (l ++ m) ≡ put s a l ++ m
  put_left s a [] m h = put_front s a m h
  put_left s a (e ∷ l) m h = go (less_dec s e.0) (put_left s a l m h)
    where
      go : (d : Dec (Less s e.0)) → put s a (l ++ m) ≡ put s a l ++ m
          → ite {C = Listing A} d ((s, a) ∷ e ∷ (l ++ m)) (e ∷ put s a (l ++ m)) ≡ ite {C = Listing A} d ((s, a) ∷ e ∷ l) (e ∷ put s a l) ++ m
      go (yes k) ih = refl
      go (no k) ih = ap (λ (r : Listing A). e ∷ r) ih

  -- putting in below a path is putting in, below the path
  pub put_under : (p s : Tag) (a : A) (l : Listing A) → put (p ++ s) a (under p l) ≡ under p (put s a l)
  put_under p s a [] = refl
  put_under p s a (e ∷ l) = ite_iff (less_dec (p ++ s) (p ++ e.0)) (less_dec s e.0) (less_of_under p s e.0) (less_under p s e.0) _ _ ∙ go (less_dec s e.0) (put_under p s a l)
    where
      go : (d : Dec (Less s e.0)) → put (p ++ s) a (under p l) ≡ under p (put s a l)
          → ite {C = Listing A} d ((p ++ s, a) ∷ (p ++ e.0, e.1) ∷ under p l) ((p ++ e.0, e.1) ∷ put (p ++ s) a (under p l)) ≡ under p (ite {C = Listing A} d ((s, a) ∷ e ∷ l) (e ∷ put s a l))
      go (yes k) ih = refl
      go (no k) ih = ap (λ (r : Listing A). (p ++ e.0, e.1) ∷ r) ih

  -- a tag that is apart from every tag, below a path, is apart from every tag
  pub apart_every_of_under : (p s : Tag) (l : Listing A) → Every (Apart (p ++ s)) (under p l) → Every (Apart s) l
  apart_every_of_under p s l h = every_imp _ _ (λ t k. apart_of_under p s t k) l (every_of_under (Apart (p ++ s)) p l h)

  keep_append : (t : Tag) (o : Option A) (l m : Listing A) → keep t o (l ++ m) ≡ keep t o l ++ m
  keep_append t none l m = refl
  keep_append t (some a) l m = refl

  keep_under : (p t : Tag) (o : Option A) (l : Listing A) → keep (p ++ t) o (under p l) ≡ under p (keep t o l)
  keep_under p t none l = refl
  keep_under p t (some a) l = refl

  -- a change for a tag that is not held changes nothing
  pub alter_none : (g : A → Option A) (s : Tag) (l : Listing A) → Every (λ t. s ≢ t) l → alter g s l ≡ l
  alter_none g s [] h = refl
  alter_none g s (e ∷ l) h = if_neg (tag_dec s e.0) h.0 _ _ ∙ ap (λ (r : Listing A). e ∷ r) (alter_none g s l h.1)

  -- a change in two listings in a row is the change in each
  pub alter_append : (g : A → Option A) (s : Tag) (l m : Listing A) → alter g s (l ++ m) ≡ alter g s l ++ alter g s m
  alter_append g s [] m = refl
  alter_append g s (e ∷ l) m = go (tag_dec s e.0) (alter_append g s l m)
    where
      go : (d : Dec (s ≡ e.0)) → alter g s (l ++ m) ≡ alter g s l ++ alter g s m
          → ite {C = Listing A} d (keep e.0 (g e.1) (alter g s (l ++ m))) (e ∷ alter g s (l ++ m)) ≡ ite {C = Listing A} d (keep e.0 (g e.1) (alter g s l)) (e ∷ alter g s l) ++ alter g s m
      go (yes k) ih = ap (keep e.0 (g e.1)) ih ∙ keep_append e.0 (g e.1) (alter g s l) (alter g s m)
      go (no k) ih = ap (λ (r : Listing A). e ∷ r) ih

  -- a change below a path is the change, below the path
  pub alter_under : (g : A → Option A) (p s : Tag) (l : Listing A) → alter g (p ++ s) (under p l) ≡ under p (alter g s l)
  alter_under g p s [] = refl
  alter_under g p s (e ∷ l) = ite_iff (tag_dec (p ++ s) (p ++ e.0)) (tag_dec s e.0) (append_cancel_left p s e.0) (ap (λ (x : Tag). p ++ x)) _ _ ∙ go (tag_dec s e.0) (alter_under g p s l)
    where
      go : (d : Dec (s ≡ e.0)) → alter g (p ++ s) (under p l) ≡ under p (alter g s l)
          → ite {C = Listing A} d (keep (p ++ e.0) (g e.1) (alter g (p ++ s) (under p l))) ((p ++ e.0, e.1) ∷ alter g (p ++ s) (under p l)) ≡ under p (ite {C = Listing A} d (keep e.0 (g e.1) (alter g s l)) (e ∷ alter g s l))
      go (yes k) ih = ap (keep (p ++ e.0) (g e.1)) ih ∙ keep_under p e.0 (g e.1) (alter g s l)
      go (no k) ih = ap (λ (r : Listing A). (p ++ e.0, e.1) ∷ r) ih
