-- The first, the last, and the first at or after a tag, found by a walk over the tree, are those of the listing.
use mathlib.Core.Path.{◌≡◌, refl, sym, ap, ap₂, ◌∙◌}
use mathlib.Core.Logic.{inl, inr, ◌≢◌, ite, if_pos, if_neg}
use mathlib.Core.Option.{Option, none, some}
use mathlib.Core.List.{[], ◌∷◌, ◌++◌, append_assoc}
use Prim.Native.Nat.{ℕ, ◌<◌}
use native.Mathlib.Omega.{arith}
use Rattle.art.proofs.Tags.{before_less, before_under}
use Rattle.art.specs.Tags.{Tag, Listing, Before, Less, Order, order, below, equal, above}
use Rattle.art.proofs.Listings.{every_append, every_all, every_imp, every_under, ite_iff}
use Rattle.art.specs.Listings.{Every, under}
use Rattle.art.specs.Trees.{Tree, leaf, inner, Row, end, child, contents, row_contents, Good, GoodRow}
use Rattle.art.proofs.Drawings.{filled, filled_under}
use Rattle.art.specs.Drawings.{Filled}
use Rattle.art.proofs.Puts.{less_under, less_of_under, before_not_less}
use Rattle.art.specs.Puts.{less_dec}
use Rattle.art.proofs.Changes.{before_head, after_head, above_trans, row_before}
use Rattle.art.specs.Changes.{Meet, same, short, long, part, meet}
use Rattle.art.specs.Orders.{or_else, first_of, last_of, least, least_row, greatest, greatest_row, after, from_fork, from_inner, from_child, from, from_row}

-- no tag comes before one that begins it
pub not_less_self : (s z : Tag) → ¬ Less (s ++ z) s
not_less_self [] [] h = h
not_less_self [] (x ∷ z) h = h
not_less_self (x ∷ s) z (inl h) = omega arith
not_less_self (x ∷ s) z (inr h) = not_less_self s z h.1

module _ {A : Type 0} where
  first_under : (p : Tag) (l : Listing A) → first_of (under p l) ≡ first_of l
  first_under p [] = refl
  first_under p (e ∷ l) = refl

  first_append : (l m : Listing A) → Filled l → first_of (l ++ m) ≡ first_of l
  first_append [] m f = elim f [ ]
  first_append (e ∷ l) m f = refl

  last_under : (p : Tag) (l : Listing A) → last_of (under p l) ≡ last_of l
  last_under p [] = refl
  last_under p (e ∷ l) = ap (λ (o : Option A). or_else o (some e.1)) (last_under p l)

  or_else_assoc : (x y z : Option A) → or_else (or_else x y) z ≡ or_else x (or_else y z)
  or_else_assoc none y z = refl
  or_else_assoc (some a) y z = refl

  or_else_none : (x : Option A) → or_else x none ≡ x
  or_else_none none = refl
  or_else_none (some a) = refl

  last_append : (l m : Listing A) → last_of (l ++ m) ≡ or_else (last_of m) (last_of l)
  last_append [] m = sym (or_else_none (last_of m))
  last_append (e ∷ l) m = ap (λ (o : Option A). or_else o (some e.1)) (last_append l m) ∙ or_else_assoc (last_of m) (last_of l) (some e.1)

  mutual
    -- the minimum is the first of the listing
    pub least_first : (t : Tree A) → Good t → least t ≡ first_of (contents t)
    least_first (leaf n s a) g = refl
    least_first (inner k n run r) g = least_row_first r g.1 ∙ sym (first_under run (row_contents r))

    -- and so for a row
    pub least_row_first : (r : Row A) → GoodRow r → least_row r ≡ first_of (row_contents r)
    least_row_first end g = refl
    least_row_first (child b t r) g =
        least_first t g.0 ∙ sym (first_append (under (b ∷ []) (contents t)) (row_contents r) (filled_under (b ∷ []) (contents t) (filled t g.0)) ∙ first_under (b ∷ []) (contents t))

  mutual
    -- the maximum is the last of the listing
    pub greatest_last : (t : Tree A) → greatest t ≡ last_of (contents t)
    greatest_last (leaf n s a) = refl
    greatest_last (inner k n run r) = greatest_row_last r ∙ sym (last_under run (row_contents r))

    -- and so for a row
    pub greatest_row_last : (r : Row A) → greatest_row r ≡ last_of (row_contents r)
    greatest_row_last end = refl
    greatest_row_last (child b t r) = ap₂ or_else (greatest_row_last r) (greatest_last t ∙ sym (last_under (b ∷ []) (contents t))) ∙ sym (last_append (under (b ∷ []) (contents t)) (row_contents r))

  after_append : (s : Tag) (l m : Listing A) → after s (l ++ m) ≡ or_else (after s l) (after s m)
  after_append s [] m = refl
  after_append s (e ∷ l) m = go (less_dec e.0 s) (after_append s l m)
    where
      go : (d : Dec (Less e.0 s)) → after s (l ++ m) ≡ or_else (after s l) (after s m)
          → ite {C = Option A} d (after s (l ++ m)) (some e.1) ≡ or_else (ite {C = Option A} d (after s l) (some e.1)) (after s m)
      go (yes h) ih = ih
      go (no h) ih = refl

  after_under : (p s : Tag) (l : Listing A) → after (p ++ s) (under p l) ≡ after s l
  after_under p s [] = refl
  after_under p s (e ∷ l) = ite_iff (less_dec (p ++ e.0) (p ++ s)) (less_dec e.0 s) (less_of_under p e.0 s) (less_under p e.0 s) _ _ ∙ ap (λ (o : Option A). ite (less_dec e.0 s) o (some e.1)) (after_under p s l)

  after_none : (s : Tag) (l : Listing A) → Every (λ t. Less t s) l → after s l ≡ none
  after_none s [] h = refl
  after_none s (e ∷ l) h = if_pos (less_dec e.0 s) h.0 _ _ ∙ after_none s l h.1

  after_first : (s : Tag) (l : Listing A) → Every (λ t. ¬ Less t s) l → after s l ≡ first_of l
  after_first s [] h = refl
  after_first s (e ∷ l) h = if_neg (less_dec e.0 s) h.0 _ _

  after_before : (s : Tag) (l : Listing A) → Every (Before s) l → after s l ≡ first_of l
  after_before s l h = after_first s l (every_imp _ _ (λ t k. before_not_less s t k) l h)

  from_inner_after : (s run : Tag) (m : Meet s run) (r : Row A) (rec : ℕ → Tag → Option A) → GoodRow r → ((x : ℕ) (u : Tag) → rec x u ≡ after (x ∷ u) (row_contents r))
      → from_inner s run m (least_row r) rec ≡ after s (under run (row_contents r))
  from_inner_after s run m r rec g ih = go m
    where
      whole : Listing A
      whole = under run (row_contents r)

      all : ((z : Tag) → ¬ Less (run ++ z) s) → least_row r ≡ after s whole
      all f = least_row_first r g ∙ sym (after_first s whole (every_under (λ t. ¬ Less t s) run (row_contents r) (every_all _ f (row_contents r))) ∙ first_under run (row_contents r))

      sooner : (c : Tag) (x y : ℕ) (u v z : Tag) → s ≡ c ++ x ∷ u → run ≡ c ++ y ∷ v → x < y → Before s (run ++ z)
      sooner c x y u v z i j h = rw (i, j, append_assoc) (before_under c (x ∷ u) (y ∷ v ++ z) (inl h))

      later : (c : Tag) (x y : ℕ) (u v z : Tag) → s ≡ c ++ x ∷ u → run ≡ c ++ y ∷ v → y < x → Before (run ++ z) s
      later c x y u v z i j h = rw (i, j, append_assoc) (before_under c (y ∷ v ++ z) (x ∷ u) (inl h))

      fork : (c : Tag) (x y : ℕ) (u v : Tag) → s ≡ c ++ x ∷ u → run ≡ c ++ y ∷ v → x ≢ y → (o : Order x y) → from_fork x y o (least_row r) ≡ after s whole
      fork c x y u v i j ne (below h) = all (λ z. before_not_less s (run ++ z) (sooner c x y u v z i j h))
      fork c x y u v i j ne (equal e) = absurd (ne e)
      fork c x y u v i j ne (above h) = sym (after_none s whole (every_under (λ t. Less t s) run (row_contents r) (every_all _ (λ z. before_less (run ++ z) s (later c x y u v z i j h)) (row_contents r))))

      go : (m : Meet s run) → from_inner s run m (least_row r) rec ≡ after s whole
      go (same e) = all (λ z. rw e (not_less_self run z))
      go (short y v e) = all (λ z. rw (e, append_assoc) (not_less_self s (y ∷ v ++ z)))
      go (long x u e) = ih x u ∙ sym (after_under run (x ∷ u) (row_contents r)) ∙ ap (λ (q : Tag). after q whole) (sym e)
      go (part c x u y v i j ne) = fork c x y u v i j ne (order x y)

  from_child_after : (x c : ℕ) (u : Tag) (t : Tree A) (r : Row A) (o : Order x c) (f : Option A) → GoodRow (child c t r) → f ≡ after u (contents t) → (more : Option A)
      → more ≡ after (x ∷ u) (row_contents r)
      → from_child x c o (least t) f (least_row r) more ≡ after (x ∷ u) (under (c ∷ []) (contents t) ++ row_contents r)
  from_child_after x c u t r (below h) f g i more j =
      least_row_first (child c t r) g
      ∙ sym (after_before (x ∷ u) (under (c ∷ []) (contents t) ++ row_contents r) (every_append (Before (x ∷ u)) (under (c ∷ []) (contents t)) (row_contents r) (before_head x c u (contents t) h) (row_before x u r (above_trans x c r h g.1))))
  from_child_after x c u t r (equal e) f g i more j =
      ap₂ or_else (i ∙ sym (after_under (c ∷ []) u (contents t)) ∙ ap (λ (b : ℕ). after (b ∷ u) (under (c ∷ []) (contents t))) (sym e))
      (least_row_first r g.2 ∙ sym (after_before (c ∷ u) (row_contents r) (row_before c u r g.1)) ∙ ap (λ (b : ℕ). after (b ∷ u) (row_contents r)) (sym e))
      ∙ sym (after_append (x ∷ u) (under (c ∷ []) (contents t)) (row_contents r))
  from_child_after x c u t r (above h) f g i more j =
      j ∙ sym (after_append (x ∷ u) (under (c ∷ []) (contents t)) (row_contents r)
      ∙ ap (λ (o : Option A). or_else o (after (x ∷ u) (row_contents r))) (after_none (x ∷ u) (under (c ∷ []) (contents t)) (every_imp _ _ (λ t k. before_less t (x ∷ u) k) (under (c ∷ []) (contents t)) (after_head x c u (contents t) h))))

  mutual
    -- the first at or after a tag that the walk finds is that of the listing
    pub from_after : (t : Tree A) → Good t → (s : Tag) → from t s ≡ after s (contents t)
    from_after (leaf n rest a) g s = refl
    from_after (inner k n run r) g s = from_inner_after s run (meet s run) r (λ x u. from_row r x u) g.1 (λ x u. from_row_after r g.1 x u)

    -- and so for a row
    pub from_row_after : (r : Row A) → GoodRow r → (x : ℕ) (u : Tag) → from_row r x u ≡ after (x ∷ u) (row_contents r)
    from_row_after end g x u = refl
    from_row_after (child c t r) g x u = from_child_after x c u t r (order x c) (from t u) g (from_after t g.0 u) (from_row r x u) (from_row_after r g.2 x u)
