-- The walk over a tree judges a tag as the listing does: held, in a clash with a held one, or free to go in.
use mathlib.Core.Path.{◌≡◌, refl, sym, ap, ap₂, ◌∙◌}
use mathlib.Core.Logic.{inl, inr, ◌≢◌, ite}
use mathlib.Core.List.{[], ◌∷◌, ◌++◌, append_assoc, append-nil}
use Prim.Native.Nat.{ℕ, ◌<◌}
use native.Mathlib.Decide.{ℕ_discrete}
use native.Mathlib.Omega.{arith}
use lib.ListN.{length, length-append}
use Rattle.art.proofs.Tags.{before_under, part_not_begins}
use Rattle.art.specs.Tags.{Tag, Listing, Order, order, below, equal, above}
use Rattle.art.proofs.Listings.{every_all, every_imp, every_under}
use Rattle.art.specs.Listings.{Every, under}
use Rattle.art.proofs.Trees.{row_filled}
use Rattle.art.specs.Trees.{Tree, leaf, inner, Row, end, child, contents, row_contents, Good, GoodRow, Above, Many}
use Rattle.art.proofs.Drawings.{filled_under, some_filled, many_some}
use Rattle.art.specs.Drawings.{Filled}
use Rattle.art.proofs.Puts.{apart_not_begins, apart_not_begun}
use Rattle.art.specs.Puts.{Apart}
use Rattle.art.proofs.Changes.{before_head, after_head, row_before}
use Rattle.art.specs.Changes.{Meet, same, short, long, part, meet, meet_cons}
use Rattle.art.specs.Verdicts.{Verdict, known, clash, free, verdict, graver, judge_inner, judge, judge_tree, judge_row}

graver_free : (v : Verdict) → graver v free ≡ v
graver_free known = refl
graver_free clash = refl
graver_free free = refl

graver_assoc : (u v w : Verdict) → graver (graver u v) w ≡ graver u (graver v w)
graver_assoc known v w = refl
graver_assoc clash known w = refl
graver_assoc clash clash known = refl
graver_assoc clash clash clash = refl
graver_assoc clash clash free = refl
graver_assoc clash free w = refl
graver_assoc free v w = refl

-- ── the verdict on two tags is one, however they were met ──
verdict_apart : (s t : Tag) (m : Meet s t) → Apart s t → verdict m ≡ free
verdict_apart s t (same e) h = absurd (apart_not_begins s t h ([], sym e ∙ sym (append-nil s)))
verdict_apart s t (short y v e) h = absurd (apart_not_begins s t h (y ∷ v, e))
verdict_apart s t (long x u e) h = absurd (apart_not_begun s t h (x ∷ u, e))
verdict_apart s t (part c x u y v i j ne) h = refl

verdict_clash : (s z t : Tag) (m : Meet s t) → 0 < length z → t ≡ s ++ z → verdict m ≡ clash
verdict_clash s z t (same e) h i = absurd (omega (arith, simp length-append at (ap length (e ∙ i))))
verdict_clash s z t (short y v e) h i = refl
verdict_clash s z t (long x u e) h i = absurd (omega (arith, simp length-append at (ap length e), simp length-append at (ap length i)))
verdict_clash s z t (part c x u y v i j ne) h k = absurd (part_not_begins t s c y v x u j i (λ e. ne (sym e)) (z, k))

verdict_cons : (x : ℕ) (s t : Tag) (d : Dec (x ≡ x)) (m : Meet s t) → verdict (meet_cons x x s t d m) ≡ verdict m
verdict_cons x s t (no n) m = absurd (n refl)
verdict_cons x s t (yes e) (same i) = refl
verdict_cons x s t (yes e) (short y v i) = refl
verdict_cons x s t (yes e) (long y u i) = refl
verdict_cons x s t (yes e) (part c y u z v i j ne) = refl

verdict_under : (p s t : Tag) → verdict (meet (p ++ s) (p ++ t)) ≡ verdict (meet s t)
unfolding meet
verdict_under [] s t = refl
verdict_under (x ∷ p) s t = verdict_cons x (p ++ s) (p ++ t) (ℕ_discrete x x) (meet (p ++ s) (p ++ t)) ∙ verdict_under p s t

verdict_free : (s t : Tag) (m : Meet s t) → verdict m ≡ free → Apart s t
verdict_free s t (same e) h = let z : ◌≡◌ {A = ℕ} 0 1 = cc in absurd (omega arith)
verdict_free s t (short y v e) h = let z : ◌≡◌ {A = ℕ} 0 1 = cc in absurd (omega arith)
verdict_free s t (long x u e) h = let z : ◌≡◌ {A = ℕ} 0 1 = cc in absurd (omega arith)
verdict_free s t (part c x u y v i j ne) h = rw (i, j) (go (order x y))
  where
    go : Order x y → Apart (c ++ x ∷ u) (c ++ y ∷ v)
    go (below k) = inl (before_under c (x ∷ u) (y ∷ v) (inl k))
    go (equal e) = absurd (ne e)
    go (above k) = inr (before_under c (y ∷ v) (x ∷ u) (inl k))

module _ {A : Type 0} where
  judge_append : (s : Tag) (l m : Listing A) → judge s (l ++ m) ≡ graver (judge s l) (judge s m)
  judge_append s [] m = refl
  judge_append s (e ∷ l) m = ap (graver (verdict (meet s e.0))) (judge_append s l m) ∙ sym (graver_assoc (verdict (meet s e.0)) (judge s l) (judge s m))

  judge_under : (p s : Tag) (l : Listing A) → judge (p ++ s) (under p l) ≡ judge s l
  judge_under p s [] = refl
  judge_under p s (e ∷ l) = ap₂ graver (verdict_under p s e.0) (judge_under p s l)

  -- a tag that is apart from all is free to go in
  pub judge_apart : (s : Tag) (l : Listing A) → Every (Apart s) l → judge s l ≡ free
  judge_apart s [] h = refl
  judge_apart s (e ∷ l) h = ap₂ graver (verdict_apart s e.0 (meet s e.0) h.0) (judge_apart s l h.1)

  judge_clash : (s : Tag) (l : Listing A) → Filled l → Every (λ t. (z : Tag) × (0 < length z) × (t ≡ s ++ z)) l → judge s l ≡ clash
  judge_clash s [] f h = elim f [ ]
  judge_clash s (e ∷ []) f h = ap (λ (v : Verdict). graver v free) (verdict_clash s h.0.0 e.0 (meet s e.0) h.0.1 h.0.2)
  judge_clash s (e ∷ e' ∷ l) f h = ap₂ graver (verdict_clash s h.0.0 e.0 (meet s e.0) h.0.1 h.0.2) (judge_clash s (e' ∷ l) tt h.1)

  -- and only such a tag is
  pub free_apart : (s : Tag) (l : Listing A) → judge s l ≡ free → Every (Apart s) l
  free_apart s [] h = tt
  free_apart s (e ∷ l) h = (verdict_free s e.0 (meet s e.0) (both (verdict (meet s e.0)) (judge s l) h).0, free_apart s l (both (verdict (meet s e.0)) (judge s l) h).1)
    where
      both : (v w : Verdict) → graver v w ≡ free → (v ≡ free) × (w ≡ free)
      both known w i = (i, let z : ◌≡◌ {A = ℕ} 0 1 = cc in absurd (omega arith))
      both clash known i = (let z : ◌≡◌ {A = ℕ} 0 1 = cc in absurd (omega arith), i)
      both clash clash i = (i, i)
      both clash free i = (i, refl)
      both free w i = (refl, i)

  judge_inner_is : (s run : Tag) (m : Meet s run) (r : Row A) (rec : ℕ → Tag → Verdict) → Many r → GoodRow r → ((x : ℕ) (u : Tag) → rec x u ≡ judge (x ∷ u) (row_contents r))
      → judge_inner m rec ≡ judge s (under run (row_contents r))
  judge_inner_is s run m r rec mn g ih = go m
    where
      whole : Listing A
      whole = under run (row_contents r)

      some : Filled whole
      some = filled_under run (row_contents r) (some_filled r g (many_some r mn))

      go : (m : Meet s run) → judge_inner m rec ≡ judge s whole
      go (same e) = sym (judge_clash s whole some (every_under _ run (row_contents r) (every_imp _ _ (λ z h. (z, h, ap (λ (q : Tag). q ++ z) (sym e))) (row_contents r) (row_filled r))))
      go (short y v e) = sym (judge_clash s whole some (every_under _ run (row_contents r) (every_all _ (λ z. (y ∷ v ++ z, omega arith, ap (λ (q : Tag). q ++ z) e ∙ append_assoc s (y ∷ v) z)) (row_contents r))))
      go (long x u e) = ih x u ∙ sym (judge_under run (x ∷ u) (row_contents r)) ∙ ap (λ (q : Tag). judge q whole) (sym e)
      go (part c x u y v i j ne) = sym (judge_apart s whole (every_under _ run (row_contents r) (every_all _ (λ z. rw (i, j, append_assoc) (fork (order x y) z)) (row_contents r))))
        where
          fork : Order x y → (z : Tag) → Apart (c ++ x ∷ u) (c ++ (y ∷ v ++ z))
          fork (below k) z = inl (before_under c (x ∷ u) (y ∷ v ++ z) (inl k))
          fork (equal e) z = absurd (ne e)
          fork (above k) z = inr (before_under c (y ∷ v ++ z) (x ∷ u) (inl k))

  judge_child : (c : ℕ) (t : Tree A) (r : Row A) (x : ℕ) (u : Tag) (v w : Verdict) → Above c r → v ≡ judge u (contents t) → w ≡ judge (x ∷ u) (row_contents r)
      → ite (ℕ_discrete x c) v w ≡ judge (x ∷ u) (under (c ∷ []) (contents t) ++ row_contents r)
  judge_child c t r x u v w ab i j = go (ℕ_discrete x c) ∙ sym (judge_append (x ∷ u) kids (row_contents r))
    where
      kids : Listing A
      kids = under (c ∷ []) (contents t)

      off : x ≢ c → Order x c → Every (Apart (x ∷ u)) kids
      off n (below h) = every_imp _ _ (λ t k. inl k) kids (before_head x c u (contents t) h)
      off n (equal e) = absurd (n e)
      off n (above h) = every_imp _ _ (λ t k. inr k) kids (after_head x c u (contents t) h)

      go : (d : Dec (x ≡ c)) → ite d v w ≡ graver (judge (x ∷ u) kids) (judge (x ∷ u) (row_contents r))
      go (yes e) =
          i ∙ sym (judge_under (c ∷ []) u (contents t)) ∙ ap (λ (b : ℕ). judge (b ∷ u) kids) (sym e)
          ∙ sym (graver_free (judge (x ∷ u) kids))
          ∙ ap (graver (judge (x ∷ u) kids)) (sym (judge_apart (x ∷ u) (row_contents r) (rw e (every_imp _ _ (λ t k. inl k) (row_contents r) (row_before c u r ab)))))
      go (no n) = j ∙ ap (λ (q : Verdict). graver q (judge (x ∷ u) (row_contents r))) (sym (judge_apart (x ∷ u) kids (off n (order x c))))

  mutual
    -- the tree judges a tag as its listing does
    pub judge_is : (t : Tree A) → Good t → (s : Tag) → judge_tree t s ≡ judge s (contents t)
    judge_is (leaf n rest a) g s = sym (graver_free (verdict (meet s rest)))
    judge_is (inner k n run r) g s = judge_inner_is s run (meet s run) r (λ x u. judge_row r x u) g.0 g.1 (λ x u. judge_row_is r g.1 x u)

    -- and so does a row
    pub judge_row_is : (r : Row A) → GoodRow r → (x : ℕ) (u : Tag) → judge_row r x u ≡ judge (x ∷ u) (row_contents r)
    judge_row_is end g x u = refl
    judge_row_is (child c t r) g x u = judge_child c t r x u (judge_tree t u) (judge_row r x u) g.1 (judge_is t g.0 u) (judge_row_is r g.2 x u)
