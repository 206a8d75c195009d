-- A tree changed at a tag holds what it held, with what is held for the tag changed or left out, and is good again.
use mathlib.Core.Path.{◌≡◌, refl, sym, ap, ap₂, ◌∙◌}
use mathlib.Core.Logic.{◌≢◌, ite}
use mathlib.Core.Bool.{Bool, true, false}
use mathlib.Core.Option.{Option, none, some}
use mathlib.Core.List.{[], ◌∷◌, ◌++◌, append-nil, head-eq_of_cons-eq}
use Prim.Native.Nat.{ℕ, suc, ◌<◌}
use native.Mathlib.Decide.{ℕ_discrete}
use native.Mathlib.Omega.{arith}
use lib.ListN.{length, length-append}
use Rattle.art.specs.Tags.{Tag, Listing, tag_dec}
use Rattle.art.proofs.Tags.{part_not_begins}
use Rattle.art.proofs.Listings.{every_all, every_imp, every_under, under_under}
use Rattle.art.specs.Listings.{under}
use Rattle.art.proofs.Trees.{row_above, row_filled}
use Rattle.art.specs.Trees.{Tree, leaf, inner, Row, end, child, contents, row_contents, Good, GoodRow, Above, Many, count, HeadAbove}
use Rattle.art.proofs.Puts.{alter_none, alter_append, alter_under}
use Rattle.art.specs.Puts.{keep, alter}
use Rattle.art.specs.Changes.{Meet, same, short, long, part, meet}
use Rattle.art.specs.Deletes.{Home, is_none, lost, lost_row, cut_row, graft, settle, re_leaf, prune_child, prune_inner, prune, prune_row, drop_whole, change, held, Sane}
use Rattle.art.proofs.Changes.{good_child}

-- false is not true
pub false_true : {X : Type 0} → ◌≡◌ {A = Bool} false true → X
false_true e = let z : ◌≡◌ {A = ℕ} 0 1 = cc in absurd (omega arith)

module _ {A : Type 0} where
  -- ── what is left ──
  -- a tree moved up by a path holds its tags below the path
  pub graft_contents : (p : Tag) (t : Tree A) → contents (graft p t) ≡ under p (contents t)
  graft_contents p (leaf n s a) = refl
  graft_contents p (inner k n run r) = sym (under_under p run (row_contents r))

  -- and is good again
  pub graft_good : (p : Tag) (t : Tree A) → Good t → Good (graft p t)
  graft_good p (leaf n s a) g = g
  graft_good p (inner k n run r) g = g

  settle_contents : (hm : Home) (k n : ℕ) (run : Tag) (r : Row A) → contents (settle hm k n run r) ≡ under run (row_contents r)
  settle_contents hm k n run end = refl
  settle_contents hm k n run (child b t end) = graft_contents (run ++ b ∷ []) t ∙ sym (under_under run (b ∷ []) (contents t)) ∙ ap (under run) (sym (append-nil (under (b ∷ []) (contents t))))
  settle_contents hm k n run (child b t (child c u r)) = refl

  -- a tree that is lost whole holds nothing else
  pub lost_empty : (f : A → Option A) (t : Tree A) (s : Tag) → lost f t s ≡ true → alter f s (contents t) ≡ []
  lost_empty f (leaf n rest a) s h = go (tag_dec s rest) (f a) h
    where
      go : (d : Dec (s ≡ rest)) (o : Option A) → ite {C = Bool} d (is_none o) false ≡ true → ite {C = Listing A} d (keep rest o []) ((rest, a) ∷ []) ≡ []
      go (yes e) none h = refl
      go (yes e) (some b) h = false_true h
      go (no n) o h = false_true h
  lost_empty f (inner k n run r) s h = false_true h

  prune_leaf : (f : A → Option A) (n : ℕ) (rest : Tag) (a : A) (s : Tag) (d : Dec (s ≡ rest)) (o : Option A) → ite {C = Bool} d (is_none o) false ≡ false
      → contents (ite d (re_leaf n rest a o) (leaf n rest a)) ≡ ite {C = Listing A} d (keep rest o []) ((rest, a) ∷ [])
  prune_leaf f n rest a s (yes e) none h = false_true (sym h)
  prune_leaf f n rest a s (yes e) (some b) h = refl
  prune_leaf f n rest a s (no e) o h = refl

  -- the rest of a row, after the child for x
  rest_stays : (f : A → Option A) (c x : ℕ) (u : Tag) (r : Row A) → x ≡ c → Above c r → alter f (x ∷ u) (row_contents r) ≡ row_contents r
  rest_stays f c x u r i ab = alter_none f (x ∷ u) (row_contents r) (every_imp _ _ (λ z h. other z h) (row_contents r) (row_above c r ab))
    where
      other : (z : Tag) → HeadAbove c z → x ∷ u ≢ z
      other [] h e = elim h [ ]
      other (d ∷ z) h e = let j = head-eq_of_cons-eq e in omega arith

  kids_stay : (f : A → Option A) (c x : ℕ) (u : Tag) (t : Tree A) → x ≢ c → alter f (x ∷ u) (under (c ∷ []) (contents t)) ≡ under (c ∷ []) (contents t)
  kids_stay f c x u t n = alter_none f (x ∷ u) (under (c ∷ []) (contents t)) (every_under (λ t. x ∷ u ≢ t) (c ∷ []) (contents t) (every_all _ (λ z e. n (head-eq_of_cons-eq e)) (contents t)))

  kids_alter : (f : A → Option A) (c x : ℕ) (u : Tag) (t : Tree A) → x ≡ c → alter f (x ∷ u) (under (c ∷ []) (contents t)) ≡ under (c ∷ []) (alter f u (contents t))
  kids_alter f c x u t i = ap (λ (b : ℕ). alter f (b ∷ u) (under (c ∷ []) (contents t))) i ∙ alter_under f (c ∷ []) u (contents t)

  cut_contents : (f : A → Option A) (r : Row A) → GoodRow r → (x : ℕ) (u : Tag) → lost_row f r x u ≡ true → row_contents (cut_row x r) ≡ alter f (x ∷ u) (row_contents r)
  cut_contents f end g x u h = false_true h
  cut_contents f (child c t r) g x u h = go (ℕ_discrete x c) h (cut_contents f r g.2 x u) ∙ sym (alter_append f (x ∷ u) kids (row_contents r))
    where
      kids : Listing A
      kids = under (c ∷ []) (contents t)

      go : (d : Dec (x ≡ c)) → ite {C = Bool} d (lost f t u) (lost_row f r x u) ≡ true → (lost_row f r x u ≡ true → row_contents (cut_row x r) ≡ alter f (x ∷ u) (row_contents r))
          → row_contents (ite d r (child c t (cut_row x r))) ≡ alter f (x ∷ u) kids ++ alter f (x ∷ u) (row_contents r)
      go (yes i) k ih = ap₂ (λ (l m : Listing A). l ++ m) (sym (kids_alter f c x u t i ∙ ap (under (c ∷ [])) (lost_empty f t u k))) (sym (rest_stays f c x u r i g.1))
      go (no n) k ih = ap₂ (λ (l m : Listing A). l ++ m) (sym (kids_stay f c x u t n)) (ih k)

  -- a tag that does not go on past the run is none of those below
  prune_inner_contents : (f : A → Option A) (hm : Home) (s : Tag) (k n : ℕ) (run : Tag) (r : Row A) (m : Meet s run) (rec : ℕ → Tag → Row A) → GoodRow r
      → ((x : ℕ) (u : Tag) → lost_row f r x u ≡ false → row_contents (rec x u) ≡ alter f (x ∷ u) (row_contents r))
      → contents (prune_inner f hm s k n run r m rec) ≡ alter f s (under run (row_contents r))
  prune_inner_contents f hm s k n run r m rec g ih = go m
    where
      stays : ((z : Tag) → 0 < length z → s ≢ run ++ z) → under run (row_contents r) ≡ alter f s (under run (row_contents r))
      stays k = sym (alter_none f s (under run (row_contents r)) (every_under (λ t. s ≢ t) run (row_contents r) (every_imp _ _ k (row_contents r) (row_filled r))))

      child_law : (x : ℕ) (u : Tag) (b : Bool) → lost_row f r x u ≡ b → contents (prune_child hm k n run r x b (rec x u)) ≡ under run (alter f (x ∷ u) (row_contents r))
      child_law x u true i = settle_contents hm k n run (cut_row x r) ∙ ap (under run) (cut_contents f r g x u i)
      child_law x u false i = ap (under run) (ih x u i)

      go : (m : Meet s run) → contents (prune_inner f hm s k n run r m rec) ≡ alter f s (under run (row_contents r))
      go (same e) = stays (λ z h i. omega (arith, simp length-append at (ap length (sym e ∙ i))))
      go (short y v e) = stays (λ z h i. omega (arith, simp length-append at (ap length i), simp length-append at (ap length e)))
      go (long x u e) = child_law x u (lost_row f r x u) refl ∙ sym (alter_under f run (x ∷ u) (row_contents r)) ∙ ap (λ (z : Tag). alter f z (under run (row_contents r))) (sym e)
      go (part c x u y v i j ne) = stays (λ z h k. part_not_begins s run c x u y v i j ne (z, k))

  prune_row_child : (f : A → Option A) (c : ℕ) (t t' : Tree A) (r r' : Row A) (x : ℕ) (u : Tag) → Above c r → lost_row f (child c t r) x u ≡ false
      → (lost f t u ≡ false → contents t' ≡ alter f u (contents t)) → (lost_row f r x u ≡ false → row_contents r' ≡ alter f (x ∷ u) (row_contents r))
      → row_contents (ite (ℕ_discrete x c) (child c t' r) (child c t r')) ≡ alter f (x ∷ u) (row_contents (child c t r))
  prune_row_child f c t t' r r' x u ab h iht ihr = go (ℕ_discrete x c) h ∙ sym (alter_append f (x ∷ u) kids (row_contents r))
    where
      kids : Listing A
      kids = under (c ∷ []) (contents t)

      go : (d : Dec (x ≡ c)) → ite {C = Bool} d (lost f t u) (lost_row f r x u) ≡ false
          → row_contents (ite d (child c t' r) (child c t r')) ≡ alter f (x ∷ u) kids ++ alter f (x ∷ u) (row_contents r)
      go (yes i) k = ap₂ (λ (l m : Listing A). l ++ m) (ap (under (c ∷ [])) (iht k) ∙ sym (kids_alter f c x u t i)) (sym (rest_stays f c x u r i ab))
      go (no n) k = ap₂ (λ (l m : Listing A). l ++ m) (sym (kids_stay f c x u t n)) (ihr k)

  mutual
    -- a tree that is not lost whole holds what it held, with the change made at the tag
    pub prune_contents : (t : Tree A) → Good t → (f : A → Option A) (hm : Home) (s : Tag) → lost f t s ≡ false → contents (prune t f hm s) ≡ alter f s (contents t)
    prune_contents (leaf n rest a) g f hm s h = prune_leaf f n rest a s (tag_dec s rest) (f a) h
    prune_contents (inner k n run r) g f hm s h = prune_inner_contents f hm s k n run r (meet s run) (λ x u. prune_row r f hm x u) g.1 (λ x u i. prune_row_contents r g.1 f hm x u i)

    -- and so for a row
    pub prune_row_contents : (r : Row A) → GoodRow r → (f : A → Option A) (hm : Home) (x : ℕ) (u : Tag) → lost_row f r x u ≡ false
        → row_contents (prune_row r f hm x u) ≡ alter f (x ∷ u) (row_contents r)
    prune_row_contents end g f hm x u h = refl
    prune_row_contents (child c t r) g f hm x u h =
        prune_row_child f c t (prune t f hm u) r (prune_row r f hm x u) x u g.1 h (λ i. prune_contents t g.0 f hm u i) (λ i. prune_row_contents r g.2 f hm x u i)

  -- ── good again ──
  count_cut : (f : A → Option A) (r : Row A) (x : ℕ) (u : Tag) → lost_row f r x u ≡ true → suc (count (cut_row x r)) ≡ count r
  count_cut f end x u h = false_true h
  count_cut f (child c t r) x u h = go (ℕ_discrete x c) h (count_cut f r x u)
    where
      go : (d : Dec (x ≡ c)) → ite {C = Bool} d (lost f t u) (lost_row f r x u) ≡ true → (lost_row f r x u ≡ true → suc (count (cut_row x r)) ≡ count r)
          → suc (count (ite d r (child c t (cut_row x r)))) ≡ suc (count r)
      go (yes i) k ih = refl
      go (no n) k ih = ap suc (ih k)

  above_cut : (b x : ℕ) (r : Row A) → Above b r → Above b (cut_row x r)
  above_cut b x end h = h
  above_cut b x (child c t r) h = go (ℕ_discrete x c) (above_cut b x r h.1)
    where
      go : (d : Dec (x ≡ c)) → Above b (cut_row x r) → Above b (ite d r (child c t (cut_row x r)))
      go (yes i) ih = h.1
      go (no n) ih = (h.0, ih)

  cut_good : (x : ℕ) (r : Row A) → GoodRow r → GoodRow (cut_row x r)
  cut_good x end g = g
  cut_good x (child c t r) g = go (ℕ_discrete x c) (cut_good x r g.2)
    where
      go : (d : Dec (x ≡ c)) → GoodRow (cut_row x r) → GoodRow (ite d r (child c t (cut_row x r)))
      go (yes i) ih = g.2
      go (no n) ih = (g.0, above_cut c x r g.1, ih)

  settle_good : (hm : Home) (k n : ℕ) (run : Tag) (r : Row A) → 0 < count r → GoodRow r → Good (settle hm k n run r)
  settle_good hm k n run end h g = absurd (omega arith)
  settle_good hm k n run (child b t end) h g = graft_good (run ++ b ∷ []) t g.0
  settle_good hm k n run (child b t (child c u r)) h g = (omega arith, g)

  above_prune : (b : ℕ) (r : Row A) (f : A → Option A) (hm : Home) (x : ℕ) (u : Tag) → Above b r → Above b (prune_row r f hm x u)
  above_prune b end f hm x u h = h
  above_prune b (child c t r) f hm x u h = go (ℕ_discrete x c) (above_prune b r f hm x u h.1)
    where
      go : (d : Dec (x ≡ c)) → Above b (prune_row r f hm x u) → Above b (ite d (child c (prune t f hm u) r) (child c t (prune_row r f hm x u)))
      go (yes i) ih = h
      go (no n) ih = (h.0, ih)

  count_prune : (r : Row A) (f : A → Option A) (hm : Home) (x : ℕ) (u : Tag) → count (prune_row r f hm x u) ≡ count r
  count_prune end f hm x u = refl
  count_prune (child c t r) f hm x u = go (ℕ_discrete x c) (count_prune r f hm x u)
    where
      go : (d : Dec (x ≡ c)) → count (prune_row r f hm x u) ≡ count r → count (ite d (child c (prune t f hm u) r) (child c t (prune_row r f hm x u))) ≡ suc (count r)
      go (yes i) ih = refl
      go (no n) ih = ap suc ih

  prune_inner_good : (f : A → Option A) (hm : Home) (s : Tag) (k n : ℕ) (run : Tag) (r : Row A) (m : Meet s run) (rec : ℕ → Tag → Row A) → Good (inner k n run r)
      → ((x : ℕ) (u : Tag) → Many (rec x u) × GoodRow (rec x u)) → Good (prune_inner f hm s k n run r m rec)
  prune_inner_good f hm s k n run r (same e) rec g ih = g
  prune_inner_good f hm s k n run r (short y v e) rec g ih = g
  prune_inner_good f hm s k n run r (long x u e) rec g ih = go (lost_row f r x u) refl
    where
      go : (b : Bool) → lost_row f r x u ≡ b → Good (prune_child hm k n run r x b (rec x u))
      go true i = settle_good hm k n run (cut_row x r) (omega (arith, count_cut f r x u i, g.0)) (cut_good x r g.1)
      go false i = ih x u
  prune_inner_good f hm s k n run r (part c x u y v i j ne) rec g ih = g

  leaf_good : (n : ℕ) (rest : Tag) (a : A) (o : Option A) (s : Tag) (d : Dec (s ≡ rest)) → Good (ite d (re_leaf n rest a o) (leaf n rest a))
  leaf_good n rest a none s (yes e) = tt
  leaf_good n rest a (some b) s (yes e) = tt
  leaf_good n rest a o s (no e) = tt

  mutual
    -- the changed tree is good again
    pub prune_good : (t : Tree A) → Good t → (f : A → Option A) (hm : Home) (s : Tag) → Good (prune t f hm s)
    prune_good (leaf n rest a) g f hm s = leaf_good n rest a (f a) s (tag_dec s rest)
    prune_good (inner k n run r) g f hm s =
        prune_inner_good f hm s k n run r (meet s run) (λ x u. prune_row r f hm x u) g (λ x u. (omega (arith, count_prune r f hm x u, g.0), prune_row_good r g.1 f hm x u))

    -- and so is a row
    pub prune_row_good : (r : Row A) → GoodRow r → (f : A → Option A) (hm : Home) (x : ℕ) (u : Tag) → GoodRow (prune_row r f hm x u)
    prune_row_good end g f hm x u = g
    prune_row_good (child c t r) g f hm x u =
        good_child c t (prune t f hm u) r (prune_row r f hm x u) (ℕ_discrete x c) g (prune_good t g.0 f hm u) (above_prune c r f hm x u g.1) (prune_row_good r g.2 f hm x u)

  -- a changed directory holds what it held, with the change made at the tag
  pub change_held : (t : Tree A) → Good t → (f : A → Option A) (hm : Home) (s : Tag) → held (change t f hm s) ≡ alter f s (contents t)
  change_held t g f hm s = go (lost f t s) refl
    where
      go : (b : Bool) → lost f t s ≡ b → held (drop_whole b (prune t f hm s)) ≡ alter f s (contents t)
      go true i = sym (lost_empty f t s i)
      go false i = prune_contents t g f hm s i

  -- and its tree, where one is left, is good
  pub change_sane : (t : Tree A) → Good t → (f : A → Option A) (hm : Home) (s : Tag) → Sane (change t f hm s)
  change_sane t g f hm s = go (lost f t s)
    where
      go : (b : Bool) → Sane (drop_whole b (prune t f hm s))
      go true = tt
      go false = prune_good t g f hm s
