-- A tree grown by a tag that is apart from all of its tags holds that tag besides, and is good again.
use mathlib.Core.Path.{◌≡◌, refl, sym, ap, ap₂, ◌∙◌}
use mathlib.Core.Logic.{inl, inr, ◌≢◌, ite}
use mathlib.Core.List.{[], ◌∷◌, ◌++◌, append_assoc, append-nil}
use Prim.Native.Nat.{ℕ, suc, ◌≤◌, ◌<◌}
use native.Mathlib.Decide.{ℕ_discrete}
use native.Mathlib.Omega.{arith}
use Rattle.art.specs.Tags.{Tag, Listing, Before, Order, order, below, equal, above}
use Rattle.art.proofs.Listings.{every_append, every_all, every_imp, every_under, every_left, every_right, under_under}
use Rattle.art.specs.Listings.{Every, under}
use Rattle.art.proofs.Trees.{row_above, above_before}
use Rattle.art.specs.Trees.{Tree, leaf, inner, Row, end, child, contents, row_contents, Good, GoodRow, Above, Many, count, HeadAbove}
use Rattle.art.proofs.Drawings.{some_filled, many_some}
use Rattle.art.specs.Drawings.{Filled}
use Rattle.art.proofs.Puts.{apart_not_begins, apart_not_begun, apart_every_of_under, put_front, put_left, put_right, put_under}
use Rattle.art.specs.Puts.{Apart, put}
use Rattle.art.specs.Changes.{Meet, same, short, long, part, meet, Has, has, pair_by, pair, add_by, add_child, Plan, grow_leaf, grow_child, grow_inner, grow, grow_row}

module _ {A : Type 0} where
  -- ── rows of two, and a child added ──
  -- a tag comes before those that begin with a higher byte
  pub before_head : (x y : ℕ) (u : Tag) (l : Listing A) → x < y → Every (Before (x ∷ u)) (under (y ∷ []) l)
  before_head x y u l h = every_under (Before (x ∷ u)) (y ∷ []) l (every_all _ (λ s. inl h) l)

  -- and after those that begin with a lower one
  pub after_head : (x y : ℕ) (u : Tag) (l : Listing A) → y < x → Every (λ t. Before t (x ∷ u)) (under (y ∷ []) l)
  after_head x y u l h = every_under (λ t. Before t (x ∷ u)) (y ∷ []) l (every_all _ (λ s. inl h) l)

  pair_contents : (x n : ℕ) (u : Tag) (a : A) (y : ℕ) (t : Tree A) → x ≢ y → row_contents (pair x (leaf n u a) y t) ≡ put (x ∷ u) a (under (y ∷ []) (contents t))
  pair_contents x n u a y t ne = go (order x y)
    where
      l : Listing A
      l = under (y ∷ []) (contents t)

      go : (o : Order x y) → row_contents (pair_by x y o (leaf n u a) t) ≡ put (x ∷ u) a l
      go (below h) = rw (append-nil l) (sym (put_front (x ∷ u) a l (before_head x y u (contents t) h)))
      go (equal e) = absurd (ne e)
      go (above h) = sym (put_right (x ∷ u) a l [] (after_head x y u (contents t) h)) ∙ ap (put (x ∷ u) a) (append-nil l)

  pair_good : (x n : ℕ) (u : Tag) (a : A) (y : ℕ) (t : Tree A) → x ≢ y → Good t → Many (pair x (leaf n u a) y t) × GoodRow (pair x (leaf n u a) y t)
  pair_good x n u a y t ne g = go (order x y)
    where
      go : (o : Order x y) → Many (pair_by x y o (leaf n u a) t) × GoodRow (pair_by x y o (leaf n u a) t)
      go (below h) = (omega arith, (tt, (h, tt), (g, tt, tt)))
      go (equal e) = absurd (ne e)
      go (above h) = (omega arith, (g, (h, tt), (tt, tt, tt)))

  fork_contents : (c : Tag) (x n : ℕ) (u : Tag) (a : A) (y : ℕ) (t : Tree A) → x ≢ y
      → under c (row_contents (pair x (leaf n u a) y t)) ≡ put (c ++ x ∷ u) a (under c (under (y ∷ []) (contents t)))
  fork_contents c x n u a y t ne = ap (under c) (pair_contents x n u a y t ne) ∙ sym (put_under c (x ∷ u) a (under (y ∷ []) (contents t)))

  -- bytes above a byte are above every lower one
  pub above_trans : (b c : ℕ) (r : Row A) → b < c → Above c r → Above b r
  above_trans b c end h k = tt
  above_trans b c (child d t r) h k = (omega arith, above_trans b c r h k.1)

  has_above : (b x : ℕ) (r : Row A) → Above b r → Has x r → b < x
  has_above b x end h x3 = elim x3 [ ]
  has_above b x (child c t r) h (inl e) = omega arith
  has_above b x (child c t r) h (inr k) = has_above b x r h.1 k

  -- a tag comes before those of a row whose bytes are all above its first
  pub row_before : (b : ℕ) (u : Tag) (r : Row A) → Above b r → Every (Before (b ∷ u)) (row_contents r)
  row_before b u r h = every_imp (HeadAbove b) _ (above_before b u) (row_contents r) (row_above b r h)

  add_contents : (b n : ℕ) (u : Tag) (a : A) (r : Row A) → GoodRow r → ¬ Has b r → row_contents (add_child b (leaf n u a) r) ≡ put (b ∷ u) a (row_contents r)
  add_contents b n u a end g h = refl
  add_contents b n u a (child c t r) g h = go (order b c) (add_contents b n u a r g.2 (λ k. h (inr k)))
    where
      kids : Listing A
      kids = under (c ∷ []) (contents t)

      go : (o : Order b c) → row_contents (add_child b (leaf n u a) r) ≡ put (b ∷ u) a (row_contents r)
          → row_contents (add_by b c o (leaf n u a) t r (add_child b (leaf n u a) r)) ≡ put (b ∷ u) a (kids ++ row_contents r)
      go (below k) ih = sym (put_front (b ∷ u) a (kids ++ row_contents r) (every_append (Before (b ∷ u)) kids (row_contents r) (before_head b c u (contents t) k) (row_before b u r (above_trans b c r k g.1))))
      go (equal e) ih = absurd (h (inl e))
      go (above k) ih = ap (λ (l : Listing A). kids ++ l) ih ∙ sym (put_right (b ∷ u) a kids (row_contents r) (after_head b c u (contents t) k))

  above_add : (d b : ℕ) (t : Tree A) (r : Row A) → d < b → Above d r → Above d (add_child b t r)
  above_add d b t end h k = (h, tt)
  above_add d b t (child c u r) h k = go (order b c) (above_add d b t r h k.1)
    where
      go : (o : Order b c) → Above d (add_child b t r) → Above d (add_by b c o t u r (add_child b t r))
      go (below l) ih = (h, k)
      go (equal e) ih = k
      go (above l) ih = (k.0, ih)

  add_good : (b : ℕ) (t : Tree A) (r : Row A) → Good t → GoodRow r → GoodRow (add_child b t r)
  add_good b t end h g = (h, tt, tt)
  add_good b t (child c u r) h g = go (order b c) (add_good b t r h g.2)
    where
      go : (o : Order b c) → GoodRow (add_child b t r) → GoodRow (add_by b c o t u r (add_child b t r))
      go (below l) ih = (h, (l, above_trans b c r l g.1), g)
      go (equal e) ih = g
      go (above l) ih = (g.0, above_add c b t r l g.1, ih)

  add_count : (b : ℕ) (t : Tree A) (r : Row A) → count r ≤ count (add_child b t r)
  add_count b t end = omega arith
  add_count b t (child c u r) = go (order b c) (add_count b t r)
    where
      go : (o : Order b c) → count r ≤ count (add_child b t r) → suc (count r) ≤ count (add_by b c o t u r (add_child b t r))
      go (below l) ih = omega arith
      go (equal e) ih = omega arith
      go (above l) ih = omega arith

  -- ── theorem I: contents ──
  first_apart : (P : Tag → Type 0) (p : Tag) (l : Listing A) → Filled l → Every P (under p l) → (x : Tag) × P (p ++ x)
  first_apart P p [] f h = elim f [ ]
  first_apart P p (e ∷ l) f h = (e.0, h.0)

  grow_leaf_contents : (pl : Plan) (s : Tag) (a : A) (n : ℕ) (rest : Tag) (v : A) (m : Meet s rest) → Apart s rest → contents (grow_leaf pl s a n rest v m) ≡ put s a ((rest, v) ∷ [])
  grow_leaf_contents pl s a n rest v (same e) h = absurd (apart_not_begins s rest h ([], sym e ∙ sym (append-nil s)))
  grow_leaf_contents pl s a n rest v (short y w e) h = absurd (apart_not_begins s rest h (y ∷ w, e))
  grow_leaf_contents pl s a n rest v (long x u e) h = absurd (apart_not_begun s rest h (x ∷ u, e))
  grow_leaf_contents pl s a n rest v (part c x u y w i j ne) h =
      fork_contents c x pl.leaf_number u a y (leaf n w v) ne ∙ ap₂ (λ (p q : Tag). put p a ((q, v) ∷ [])) (sym i) (sym j)

  grow_inner_contents : (pl : Plan) (s : Tag) (a : A) (k n : ℕ) (run : Tag) (r : Row A) (m : Meet s run) (rec : ℕ → Tag → Row A) → Many r → GoodRow r
      → Every (Apart s) (under run (row_contents r))
      → ((x : ℕ) (u : Tag) → Has x r → Every (Apart (x ∷ u)) (row_contents r) → row_contents (rec x u) ≡ put (x ∷ u) a (row_contents r))
      → contents (grow_inner pl s a k n run r m rec) ≡ put s a (under run (row_contents r))
  grow_inner_contents pl s a k n run r (same e) rec mn g h ih =
      let f = first_apart (Apart s) run (row_contents r) (some_filled r g (many_some r mn)) h in
      absurd (apart_not_begins s (run ++ f.0) f.1 (f.0, ap (λ (z : Tag). z ++ f.0) (sym e)))
  grow_inner_contents pl s a k n run r (short y v e) rec mn g h ih =
      let f = first_apart (Apart s) run (row_contents r) (some_filled r g (many_some r mn)) h in
      absurd (apart_not_begins s (run ++ f.0) f.1 (y ∷ v ++ f.0, ap (λ (z : Tag). z ++ f.0) e ∙ append_assoc s (y ∷ v) f.0))
  grow_inner_contents pl s a k n run r (long x u e) rec mn g h ih =
      go (has x r) ∙ ap (λ (z : Tag). put z a (under run (row_contents r))) (sym e)
    where
      free : Every (Apart (x ∷ u)) (row_contents r)
      free = apart_every_of_under run (x ∷ u) (row_contents r) (rw e at h)

      go : (d : Dec (Has x r)) → contents (grow_child pl k n run r x u a d (rec x u)) ≡ put (run ++ x ∷ u) a (under run (row_contents r))
      go (yes i) = ap (under run) (ih x u i free) ∙ sym (put_under run (x ∷ u) a (row_contents r))
      go (no i) = ap (under run) (add_contents x pl.leaf_number u a r g i) ∙ sym (put_under run (x ∷ u) a (row_contents r))
  grow_inner_contents pl s a k n run r (part c x u y v i j ne) rec mn g h ih =
      fork_contents c x pl.leaf_number u a y (inner k n v r) ne
      ∙ ap₂ (λ (p : Tag) (l : Listing A). put p a l) (sym i)
      (ap (under c) (under_under (y ∷ []) v (row_contents r)) ∙ under_under c (y ∷ v) (row_contents r) ∙ ap (λ (z : Tag). under z (row_contents r)) (sym j))

  grow_row_child : (c : ℕ) (t t' : Tree A) (r r' : Row A) (x : ℕ) (u : Tag) (a : A) → Above c r → Has x (child c t r) → Every (Apart (x ∷ u)) (row_contents (child c t r))
      → (Every (Apart u) (contents t) → contents t' ≡ put u a (contents t))
      → (Has x r → Every (Apart (x ∷ u)) (row_contents r) → row_contents r' ≡ put (x ∷ u) a (row_contents r))
      → row_contents (ite (ℕ_discrete x c) (child c t' r) (child c t r')) ≡ put (x ∷ u) a (row_contents (child c t r))
  grow_row_child c t t' r r' x u a ab hx h iht ihr = go (ℕ_discrete x c)
    where
      kids : Listing A
      kids = under (c ∷ []) (contents t)

      there : x ≢ c → Has x (child c t r) → Has x r
      there n (inl e) = absurd (n e)
      there n (inr k) = k

      go : (d : Dec (x ≡ c)) → row_contents (ite d (child c t' r) (child c t r')) ≡ put (x ∷ u) a (kids ++ row_contents r)
      go (yes i) =
          let free : Every (Apart u) (contents t) = apart_every_of_under (c ∷ []) u (contents t) (rw i at (every_left (Apart (x ∷ u)) kids (row_contents r) h)) in
          ap (λ (l : Listing A). under (c ∷ []) l ++ row_contents r) (iht free)
          ∙ ap (λ (l : Listing A). l ++ row_contents r) (sym (put_under (c ∷ []) u a (contents t)))
          ∙ sym (put_left (c ∷ u) a kids (row_contents r) (row_before c u r ab))
          ∙ ap (λ (b : ℕ). put (b ∷ u) a (kids ++ row_contents r)) (sym i)
      go (no n) =
          let k : Has x r = there n hx in
          ap (λ (l : Listing A). kids ++ l) (ihr k (every_right (Apart (x ∷ u)) kids (row_contents r) h))
          ∙ sym (put_right (x ∷ u) a kids (row_contents r) (after_head x c u (contents t) (has_above c x r ab k)))

  mutual
    -- a tree grown by a tag holds what it held, with the tag put in
    pub grow_contents : (t : Tree A) → Good t → (pl : Plan) (s : Tag) (a : A) → Every (Apart s) (contents t) → contents (grow t pl s a) ≡ put s a (contents t)
    grow_contents (leaf n rest v) g pl s a h = grow_leaf_contents pl s a n rest v (meet s rest) h.0
    grow_contents (inner k n run r) g pl s a h =
        grow_inner_contents pl s a k n run r (meet s run) (λ x u. grow_row r pl x u a) g.0 g.1 h (λ x u i f. grow_row_contents r g.1 pl x u a i f)

    -- and so for the row that has the child for its first byte
    pub grow_row_contents : (r : Row A) → GoodRow r → (pl : Plan) (x : ℕ) (u : Tag) (a : A) → Has x r → Every (Apart (x ∷ u)) (row_contents r)
        → row_contents (grow_row r pl x u a) ≡ put (x ∷ u) a (row_contents r)
    grow_row_contents end g pl x u a hx h = elim hx [ ]
    grow_row_contents (child c t r) g pl x u a hx h =
        grow_row_child c t (grow t pl u a) r (grow_row r pl x u a) x u a g.1 hx h (λ f. grow_contents t g.0 pl u a f) (λ i f. grow_row_contents r g.2 pl x u a i f)

  -- ── theorem I: the tree is good again ──
  above_grow : (b : ℕ) (r : Row A) (pl : Plan) (x : ℕ) (u : Tag) (a : A) → Above b r → Above b (grow_row r pl x u a)
  above_grow b end pl x u a h = h
  above_grow b (child c t r) pl x u a h = go (ℕ_discrete x c) (above_grow b r pl x u a h.1)
    where
      go : (d : Dec (x ≡ c)) → Above b (grow_row r pl x u a) → Above b (ite d (child c (grow t pl u a) r) (child c t (grow_row r pl x u a)))
      go (yes i) ih = h
      go (no n) ih = (h.0, ih)

  count_grow : (r : Row A) (pl : Plan) (x : ℕ) (u : Tag) (a : A) → count (grow_row r pl x u a) ≡ count r
  count_grow end pl x u a = refl
  count_grow (child c t r) pl x u a = go (ℕ_discrete x c) (count_grow r pl x u a)
    where
      go : (d : Dec (x ≡ c)) → count (grow_row r pl x u a) ≡ count r → count (ite d (child c (grow t pl u a) r) (child c t (grow_row r pl x u a))) ≡ suc (count r)
      go (yes i) ih = refl
      go (no n) ih = ap suc ih

  grow_leaf_good : (pl : Plan) (s : Tag) (a : A) (n : ℕ) (rest : Tag) (v : A) (m : Meet s rest) → Good (grow_leaf pl s a n rest v m)
  grow_leaf_good pl s a n rest v (same e) = tt
  grow_leaf_good pl s a n rest v (short y w e) = tt
  grow_leaf_good pl s a n rest v (long x u e) = tt
  grow_leaf_good pl s a n rest v (part c x u y w i j ne) = pair_good x pl.leaf_number u a y (leaf n w v) ne tt

  grow_inner_good : (pl : Plan) (s : Tag) (a : A) (k n : ℕ) (run : Tag) (r : Row A) (m : Meet s run) (rec : ℕ → Tag → Row A) → Good (inner k n run r)
      → ((x : ℕ) (u : Tag) → Many (rec x u) × GoodRow (rec x u)) → Good (grow_inner pl s a k n run r m rec)
  grow_inner_good pl s a k n run r (same e) rec g ih = g
  grow_inner_good pl s a k n run r (short y v e) rec g ih = g
  grow_inner_good pl s a k n run r (long x u e) rec g ih = go (has x r)
    where
      go : (d : Dec (Has x r)) → Good (grow_child pl k n run r x u a d (rec x u))
      go (yes i) = ih x u
      go (no i) = (omega (arith, add_count x (leaf pl.leaf_number u a) r, g.0), add_good x (leaf pl.leaf_number u a) r tt g.1)
  grow_inner_good pl s a k n run r (part c x u y v i j ne) rec g ih = pair_good x pl.leaf_number u a y (inner k n v r) ne g

  -- a row with one child changed, or with the change further on, is good again
  pub good_child : {P : Type 0} (c : ℕ) (t t' : Tree A) (r r' : Row A) (d : Dec P) → GoodRow (child c t r) → Good t' → Above c r' → GoodRow r' → GoodRow (ite d (child c t' r) (child c t r'))
  good_child c t t' r r' (yes i) g gt ab gr = (gt, g.1, g.2)
  good_child c t t' r r' (no i) g gt ab gr = (g.0, ab, gr)

  mutual
    -- a tree grown by a tag is good again
    pub grow_good : (t : Tree A) → Good t → (pl : Plan) (s : Tag) (a : A) → Good (grow t pl s a)
    grow_good (leaf n rest v) g pl s a = grow_leaf_good pl s a n rest v (meet s rest)
    grow_good (inner k n run r) g pl s a =
        grow_inner_good pl s a k n run r (meet s run) (λ x u. grow_row r pl x u a) g (λ x u. (omega (arith, count_grow r pl x u a, g.0), grow_row_good r g.1 pl x u a))

    -- and so is a row
    pub grow_row_good : (r : Row A) → GoodRow r → (pl : Plan) (x : ℕ) (u : Tag) (a : A) → GoodRow (grow_row r pl x u a)
    grow_row_good end g pl x u a = g
    grow_row_good (child c t r) g pl x u a = good_child c t (grow t pl u a) r (grow_row r pl x u a) (ℕ_discrete x c) g (grow_good t g.0 pl u a) (above_grow c r pl x u a g.1) (grow_row_good r g.2 pl x u a)
