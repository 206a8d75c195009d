-- The writes of an insert make the store of the grown tree, in its own or fresh places, and no place stands twice in it.
use mathlib.Core.Path.{◌≡◌, refl, sym, ap, ap₂, ◌∙◌, subst, fun_ext}
use mathlib.Core.Logic.{◌⊎◌, inl, inr, ◌≢◌, ite, if_pos, if_neg}
use mathlib.Core.List.{[], ◌∷◌, ◌++◌, append_assoc}
use Prim.Native.Nat.{ℕ}
use native.Mathlib.Decide.{ℕ_discrete}
use native.Mathlib.Omega.{arith}
use lib.ListN.{length, take}
use Rattle.art.specs.Tags.{Tag, Order, order, below, equal, above}
use Rattle.art.specs.Trees.{Tree, leaf, inner, Row, end, child}
use Rattle.art.specs.Changes.{Plan, Meet, same, short, long, part, meet, Has, has, pair, pair_by, add_child, add_by, grow, grow_row, grow_leaf, grow_inner, grow_child}
use Rattle.art.specs.Stores.{Place, leaf_place, inner_place, place_dec, home_place, Cell, unused, leaf_cell, inner_cell, Store, Edits, empty, or_cell, combined, write, apply, root, refs, store, store_row, Used, Clear, Separate, Once, OnceRow, Fresh, edits_leaf, edits_child, edits_inner, edits, edits_row}

-- a leaf and an inner record have different places
pub leaf_inner : (n k m : ℕ) → leaf_place n ≢ inner_place k m
leaf_inner n k m e = let z : ◌≡◌ {A = ℕ} 0 1 = cc in omega arith

-- the path over a fork leads to the same tag as the path did
pub path_eq : (p c : Tag) (y : ℕ) (w t : Tag) → t ≡ c ++ y ∷ w → p ++ c ++ y ∷ [] ++ w ≡ p ++ t
path_eq p c y w t e = rw e (simp append_assoc)

module _ {A : Type 0} where
  -- a used cell stands before what it is joined with
  pub or_used : (c d : Cell A) → Used c → or_cell c d ≡ c
  or_used unused d u = elim u [ ]
  or_used (leaf_cell t a) d u = refl
  or_used (inner_cell n st rs) d u = refl

  -- an unused one adds nothing
  pub or_unused : (c : Cell A) → or_cell c unused ≡ c
  or_unused unused = refl
  or_unused (leaf_cell t a) = refl
  or_unused (inner_cell n st rs) = refl

  -- a written place has the cell
  pub write_same : (σ : Store A) (x : Place) (c : Cell A) → write σ x c x ≡ c
  write_same σ x c = if_pos (place_dec x x) refl _ _

  -- every other place has what it had
  pub write_other : (σ : Store A) (x : Place) (c : Cell A) (q : Place) → q ≢ x → write σ x c q ≡ σ q
  write_other σ x c q n = if_neg (place_dec q x) n _ _

  -- of two writes to a place the later stands
  pub write_write : (σ : Store A) (x : Place) (c d : Cell A) → write (write σ x c) x d ≡ write σ x d
  write_write σ x c d = fun_ext (λ q. go q (place_dec q x))
    where
      go : (q : Place) (b : Dec (q ≡ x)) → ite {C = Cell A} b d (ite {C = Cell A} b c (σ q)) ≡ ite {C = Cell A} b d (σ q)
      go q (yes e) = refl
      go q (no n) = refl

  -- a write to one part of a join is a write to the join
  pub combined_write_left : (σ τ : Store A) (x : Place) (c : Cell A) → (Used c ⊎ (τ x ≡ unused)) → combined (write σ x c) τ ≡ write (combined σ τ) x c
  combined_write_left σ τ x c h = fun_ext (λ q. go q (place_dec q x) h)
    where
      go : (q : Place) (b : Dec (q ≡ x)) → (Used c ⊎ (τ x ≡ unused)) → or_cell (ite {C = Cell A} b c (σ q)) (τ q) ≡ ite {C = Cell A} b c (or_cell (σ q) (τ q))
      go q (yes e) (inl u) = or_used c (τ q) u
      go q (yes e) (inr u) = ap (or_cell c) (ap τ e ∙ u) ∙ or_unused c
      go q (no n) k = refl

  -- and so for the other part, where the first has nothing at the place
  pub combined_write_right : (σ τ : Store A) (x : Place) (c : Cell A) → σ x ≡ unused → combined σ (write τ x c) ≡ write (combined σ τ) x c
  combined_write_right σ τ x c h = fun_ext (λ q. go q (place_dec q x))
    where
      go : (q : Place) (b : Dec (q ≡ x)) → or_cell (σ q) (ite {C = Cell A} b c (τ q)) ≡ ite {C = Cell A} b c (or_cell (σ q) (τ q))
      go q (yes e) = ap (λ (d : Cell A). or_cell d c) (ap σ e ∙ h)
      go q (no n) = refl

  -- the empty store adds nothing
  pub combined_empty : (σ : Store A) → combined σ empty ≡ σ
  combined_empty σ = fun_ext (λ q. or_unused (σ q))

  -- writes to one part of a join, free in the other, are writes to the join
  pub combined_apply_left : (σ τ : Store A) (es : Edits A) → Clear τ es → combined (apply σ es) τ ≡ apply (combined σ τ) es
  combined_apply_left σ τ [] h = refl
  combined_apply_left σ τ (e ∷ es) h = combined_apply_left (write σ e.0 e.1) τ es h.1 ∙ ap (λ (ρ : Store A). apply ρ es) (combined_write_left σ τ e.0 e.1 (inr h.0))

  -- and so for the other part
  pub combined_apply_right : (σ τ : Store A) (es : Edits A) → Clear σ es → combined σ (apply τ es) ≡ apply (combined σ τ) es
  combined_apply_right σ τ [] h = refl
  combined_apply_right σ τ (e ∷ es) h = combined_apply_right σ (write τ e.0 e.1) es h.1 ∙ ap (λ (ρ : Store A). apply ρ es) (combined_write_right σ τ e.0 e.1 h.0)

  -- writes to two places go in either order
  pub write_comm : (σ : Store A) (x y : Place) (c d : Cell A) → y ≢ x → write (write σ x c) y d ≡ write (write σ y d) x c
  write_comm σ x y c d n = fun_ext (λ q. go q (place_dec q x) (place_dec q y))
    where
      go : (q : Place) (b : Dec (q ≡ x)) (k : Dec (q ≡ y)) → ite {C = Cell A} k d (ite {C = Cell A} b c (σ q)) ≡ ite {C = Cell A} b c (ite {C = Cell A} k d (σ q))
      go q (yes e) (yes i) = absurd (n (sym i ∙ e))
      go q (yes e) (no i) = refl
      go q (no e) (yes i) = refl
      go q (no e) (no i) = refl

  -- stores that differ at one place at most differ there at most after the same writes
  pub apply_off : (x : Place) (es : Edits A) (σ τ : Store A) → ((q : Place) → q ≢ x → σ q ≡ τ q) → (q : Place) → q ≢ x → apply σ es q ≡ apply τ es q
  apply_off x [] σ τ h q n = h q n
  apply_off x (e ∷ es) σ τ h q n = apply_off x es (write σ e.0 e.1) (write τ e.0 e.1) (λ p m. ap (λ (c : Cell A). ite (place_dec p e.0) e.1 c) (h p m)) q n

  -- two lists of writes in a row are made one after the other
  pub apply_append : (σ : Store A) (es fs : Edits A) → apply σ (es ++ fs) ≡ apply (apply σ es) fs
  apply_append σ [] fs = refl
  apply_append σ (e ∷ es) fs = apply_append (write σ e.0 e.1) es fs

  -- a place that is written last takes that cell, whatever it held before
  pub write_last : (σ : Store A) (x : Place) (c d : Cell A) (es : Edits A) → apply (write σ x c) (es ++ (x, d) ∷ []) ≡ write (apply σ es) x d
  write_last σ x c d es = apply_append (write σ x c) es ((x, d) ∷ []) ∙ fun_ext (λ q. go q (place_dec q x))
    where
      go : (q : Place) (b : Dec (q ≡ x)) → ite {C = Cell A} b d (apply (write σ x c) es q) ≡ ite {C = Cell A} b d (apply σ es q)
      go q (yes e) = refl
      go q (no n) = apply_off x es (write σ x c) σ (λ p m. write_other σ x c p m) q n

  -- ── rows ──
  -- where nothing stands in a join nothing stands in its parts
  pub or_parts : (c d : Cell A) → or_cell c d ≡ unused → (c ≡ unused) × (d ≡ unused)
  or_parts unused d e = (refl, e)
  or_parts (leaf_cell t a) d e = (e, let z : ◌≡◌ {A = ℕ} 0 1 = cc in absurd (omega arith))
  or_parts (inner_cell n st rs) d e = (e, let z : ◌≡◌ {A = ℕ} 0 1 = cc in absurd (omega arith))

  -- a row of a new leaf and a tree is the tree's store with the leaf written
  pub store_pair : (x n : ℕ) (u : Tag) (a : A) (y : ℕ) (t : Tree A) (q : Tag) → x ≢ y → store t (q ++ y ∷ []) (leaf_place n) ≡ unused
      → store_row (pair x (leaf n u a) y t) q ≡ write (store t (q ++ y ∷ [])) (leaf_place n) (leaf_cell (q ++ x ∷ [] ++ u) a)
  store_pair x n u a y t q ne h = go (order x y)
    where
      σ : Store A
      σ = store t (q ++ y ∷ [])

      c : Cell A
      c = leaf_cell (q ++ x ∷ [] ++ u) a

      go : (o : Order x y) → store_row (pair_by x y o (leaf n u a) t) q ≡ write σ (leaf_place n) c
      go (below k) = ap (combined (write empty (leaf_place n) c)) (combined_empty σ) ∙ combined_write_left empty σ (leaf_place n) c (inl tt)
      go (equal e) = absurd (ne e)
      go (above k) = ap (combined σ) (combined_empty (write empty (leaf_place n) c)) ∙ combined_write_right σ empty (leaf_place n) c h ∙ ap (λ (ρ : Store A). write ρ (leaf_place n) c) (combined_empty σ)

  -- a row with a new leaf is the row's store with the leaf written
  pub store_add : (b n : ℕ) (u : Tag) (a : A) (r : Row A) (q : Tag) → ¬ Has b r → store_row r q (leaf_place n) ≡ unused
      → store_row (add_child b (leaf n u a) r) q ≡ write (store_row r q) (leaf_place n) (leaf_cell (q ++ b ∷ [] ++ u) a)
  store_add b n u a end q nh h = combined_empty (write empty (leaf_place n) (leaf_cell (q ++ b ∷ [] ++ u) a))
  store_add b n u a (child c t r) q nh h = go (order b c) (store_add b n u a r q (λ k. nh (inr k)) (or_parts (store t (q ++ c ∷ []) (leaf_place n)) (store_row r q (leaf_place n)) h).1)
    where
      d : Cell A
      d = leaf_cell (q ++ b ∷ [] ++ u) a

      go : (o : Order b c) → store_row (add_child b (leaf n u a) r) q ≡ write (store_row r q) (leaf_place n) d
          → store_row (add_by b c o (leaf n u a) t r (add_child b (leaf n u a) r)) q ≡ write (store_row (child c t r) q) (leaf_place n) d
      go (below k) ih = combined_write_left empty (store_row (child c t r) q) (leaf_place n) d (inl tt)
      go (equal e) ih = absurd (nh (inl e))
      go (above k) ih = ap (combined (store t (q ++ c ∷ []))) ih ∙ combined_write_right (store t (q ++ c ∷ [])) (store_row r q) (leaf_place n) d (or_parts (store t (q ++ c ∷ []) (leaf_place n)) (store_row r q (leaf_place n)) h).0

  -- writing what is there changes nothing
  pub write_id : (σ : Store A) (x : Place) (c : Cell A) → σ x ≡ c → write σ x c ≡ σ
  write_id σ x c h = fun_ext (λ q. go q (place_dec q x))
    where
      go : (q : Place) (b : Dec (q ≡ x)) → ite {C = Cell A} b c (σ q) ≡ σ q
      go q (yes e) = sym (ap σ e ∙ h)
      go q (no n) = refl

  -- ── only own and fresh places are written ──
  -- the root's place is used in the store of a tree
  pub own : (t : Tree A) (p : Tag) → Used (store t p (root t))
  own (leaf n s a) p = rw (write_same empty (leaf_place n) (leaf_cell (p ++ s) a)) tt
  own (inner k n run r) p = rw (write_same (store_row r (p ++ run)) (inner_place k n) (inner_cell (length run) (take 8 run) (refs r))) tt

  -- and free in every store that shares no place with it
  pub own_clear : (t : Tree A) (p : Tag) (τ : Store A) → Separate (store t p) τ → τ (root t) ≡ unused
  own_clear t p τ d = go (own t p) (d (root t))
    where
      go : Used (store t p (root t)) → (store t p (root t) ≡ unused) ⊎ (τ (root t) ≡ unused) → τ (root t) ≡ unused
      go u (inl e) = absurd (rw e at u)
      go u (inr e) = e

  -- two lists of writes to free places in a row are writes to free places
  pub clear_append : (τ : Store A) (es fs : Edits A) → Clear τ es → Clear τ fs → Clear τ (es ++ fs)
  clear_append τ [] fs h k = k
  clear_append τ (e ∷ es) fs h k = (h.0, clear_append τ es fs h.1 k)

  -- where a record goes is free where the record's own place is
  pub home_clear : (pl : Plan) (τ : Store A) (k n : ℕ) → (home_place pl k n ≡ inner_place k n) ⊎ (τ (home_place pl k n) ≡ unused) → τ (inner_place k n) ≡ unused
      → τ (home_place pl k n) ≡ unused
  home_clear pl τ k n (inl e) h = ap τ e ∙ h
  home_clear pl τ k n (inr e) h = e

  -- an insert at a leaf writes fresh places only
  pub edits_leaf_clear : (pl : Plan) (p s : Tag) (a : A) (n : ℕ) (rest : Tag) (v : A) (m : Meet s rest) (τ : Store A) → Fresh pl τ → Clear τ (edits_leaf pl p s a n rest v m)
  edits_leaf_clear pl p s a n rest v (same e) τ f = tt
  edits_leaf_clear pl p s a n rest v (short y w e) τ f = tt
  edits_leaf_clear pl p s a n rest v (long x u e) τ f = tt
  edits_leaf_clear pl p s a n rest v (part c x u y w i j ne) τ f = (f.0, (f.1, tt))

  -- an insert at a record writes its own place, and fresh ones
  pub edits_inner_clear : (pl : Plan) (p s : Tag) (a : A) (k n : ℕ) (run : Tag) (r : Row A) (m : Meet s run) (rec : ℕ → Tag → Row A) (es : ℕ → Tag → Edits A) (τ : Store A)
      → τ (inner_place k n) ≡ unused → Fresh pl τ → ((x : ℕ) (u : Tag) → Clear τ (es x u)) → Clear τ (edits_inner pl p s a k n run r m rec es)
  edits_inner_clear pl p s a k n run r (same e) rec es τ o f ih = tt
  edits_inner_clear pl p s a k n run r (short y v e) rec es τ o f ih = tt
  edits_inner_clear pl p s a k n run r (long x u e) rec es τ o f ih = go (has x r)
    where
      go : (d : Dec (Has x r)) → Clear τ (edits_child pl p s a k n run r x u d (rec x u) (es x u))
      go (yes h) = clear_append τ (es x u) _ (ih x u) (o, tt)
      go (no h) = (f.0, (o, (home_clear pl τ k n (f.2 k n) o, tt)))
  edits_inner_clear pl p s a k n run r (part c x u y v i j ne) rec es τ o f ih = (o, (f.0, (f.1, tt)))

  -- what shares no place with a join shares none with its first part
  pub separate_left : (σ ρ τ : Store A) → Separate (combined σ ρ) τ → Separate σ τ
  separate_left σ ρ τ d q = go (d q)
    where
      go : (combined σ ρ q ≡ unused) ⊎ (τ q ≡ unused) → (σ q ≡ unused) ⊎ (τ q ≡ unused)
      go (inl e) = inl (or_parts (σ q) (ρ q) e).0
      go (inr e) = inr e

  -- nor with its second
  pub separate_right : (σ ρ τ : Store A) → Separate (combined σ ρ) τ → Separate ρ τ
  separate_right σ ρ τ d q = go (d q)
    where
      go : (combined σ ρ q ≡ unused) ⊎ (τ q ≡ unused) → (ρ q ≡ unused) ⊎ (τ q ≡ unused)
      go (inl e) = inl (or_parts (σ q) (ρ q) e).1
      go (inr e) = inr e

  -- nor with the store before a write to an unused place
  pub separate_write : (σ τ : Store A) (x : Place) (c : Cell A) → σ x ≡ unused → Separate (write σ x c) τ → Separate σ τ
  separate_write σ τ x c h d q = go (place_dec q x) (d q)
    where
      go : (b : Dec (q ≡ x)) → (ite {C = Cell A} b c (σ q) ≡ unused) ⊎ (τ q ≡ unused) → (σ q ≡ unused) ⊎ (τ q ≡ unused)
      go (yes e) k = inl (ap σ e ∙ h)
      go (no n) k = k

  -- two stores share no place either way round
  pub separate_sym : (σ τ : Store A) → Separate σ τ → Separate τ σ
  separate_sym σ τ d q = go (d q)
    where
      go : (σ q ≡ unused) ⊎ (τ q ≡ unused) → (τ q ≡ unused) ⊎ (σ q ≡ unused)
      go (inl e) = inr e
      go (inr e) = inl e

  -- of two lists of writes to free places either is one
  pub pick_clear : {P : Type 0} (τ : Store A) (d : Dec P) (es fs : Edits A) → Clear τ es → Clear τ fs → Clear τ (ite d es fs)
  pick_clear τ (yes p) es fs h k = h
  pick_clear τ (no n) es fs h k = k

  mutual
    -- the writes of an insert are free in every store that shares no place with the tree and has the fresh places free
    pub edits_clear : (t : Tree A) (pl : Plan) (p s : Tag) (a : A) (τ : Store A) → Once t p → Separate (store t p) τ → Fresh pl τ → Clear τ (edits t pl p s a)
    edits_clear (leaf n rest v) pl p s a τ o d f = edits_leaf_clear pl p s a n rest v (meet s rest) τ f
    edits_clear (inner k n run r) pl p s a τ o d f =
        edits_inner_clear pl p s a k n run r (meet s run) (λ x u. grow_row r pl x u a) (λ x u. edits_row r pl (p ++ run) x u a) τ (own_clear (inner k n run r) p τ d) f
        (λ x u. edits_row_clear r pl (p ++ run) x u a τ o.1 (separate_write (store_row r (p ++ run)) τ (inner_place k n) (inner_cell (length run) (take 8 run) (refs r)) o.0 d) f)

    -- and so for a row
    pub edits_row_clear : (r : Row A) (pl : Plan) (q : Tag) (x : ℕ) (u : Tag) (a : A) (τ : Store A) → OnceRow r q → Separate (store_row r q) τ → Fresh pl τ → Clear τ (edits_row r pl q x u a)
    edits_row_clear end pl q x u a τ o d f = tt
    edits_row_clear (child c t r) pl q x u a τ o d f =
        pick_clear τ (ℕ_discrete x c) (edits t pl (q ++ c ∷ []) u a) (edits_row r pl q x u a)
        (edits_clear t pl (q ++ c ∷ []) u a τ o.0 (separate_left (store t (q ++ c ∷ [])) (store_row r q) τ d) f)
        (edits_row_clear r pl q x u a τ o.2 (separate_right (store t (q ++ c ∷ [])) (store_row r q) τ d) f)

  -- ── the writes make the store of the grown tree ──
  -- an insert at a leaf makes the store of the grown leaf
  pub store_grow_leaf : (pl : Plan) (p s : Tag) (a : A) (n : ℕ) (rest : Tag) (v : A) (m : Meet s rest) → Fresh pl (store (leaf n rest v) p)
      → store (grow_leaf pl s a n rest v m) p ≡ apply (store (leaf n rest v) p) (edits_leaf pl p s a n rest v m)
  store_grow_leaf pl p s a n rest v (same e) f = refl
  store_grow_leaf pl p s a n rest v (short y w e) f = refl
  store_grow_leaf pl p s a n rest v (long x u e) f = refl
  store_grow_leaf pl p s a n rest v (part c x u y w i j ne) f =
      let old : store (leaf n w v) (p ++ c ++ y ∷ []) ≡ store (leaf n rest v) p = ap (λ (t : Tag). write empty (leaf_place n) (leaf_cell t v)) (path_eq p c y w rest j) in
      let two = store_pair x pl.leaf_number u a y (leaf n w v) (p ++ c) ne (ap (λ (σ : Store A). σ (leaf_place pl.leaf_number)) old ∙ f.0) in
      let both = two ∙ ap₂ (λ (σ : Store A) (t : Tag). write σ (leaf_place pl.leaf_number) (leaf_cell t a)) old (path_eq p c x u s i) in
      ap (λ (σ : Store A). write σ (inner_place pl.fork_kind pl.fork_number) (inner_cell (length c) (take 8 c) (refs (pair x (leaf pl.leaf_number u a) y (leaf n w v))))) both

  -- an insert at a record makes the store of the grown record, where the one below makes that of the grown row
  pub store_grow_inner : (pl : Plan) (p s : Tag) (a : A) (k n : ℕ) (run : Tag) (r : Row A) (m : Meet s run) (rec : ℕ → Tag → Row A) (es : ℕ → Tag → Edits A)
      → store_row r (p ++ run) (inner_place k n) ≡ unused → Fresh pl (store (inner k n run r) p)
      → ((x : ℕ) (u : Tag) → store_row (rec x u) (p ++ run) ≡ apply (store_row r (p ++ run)) (es x u))
      → store (grow_inner pl s a k n run r m rec) p ≡ apply (store (inner k n run r) p) (edits_inner pl p s a k n run r m rec es)
  store_grow_inner pl p s a k n run r (same e) rec es o f ih = refl
  store_grow_inner pl p s a k n run r (short y v e) rec es o f ih = refl
  store_grow_inner pl p s a k n run r (long x u e) rec es o f ih = go (has x r)
    where
      ρ : Store A
      ρ = store_row r (p ++ run)

      here : Place
      here = inner_place k n

      N : Place
      N = leaf_place pl.leaf_number

      cl : Cell A
      cl = leaf_cell (p ++ s) a

      old : Cell A
      old = inner_cell (length run) (take 8 run) (refs r)

      below_free : ρ N ≡ unused
      below_free = sym (write_other ρ here old N (leaf_inner pl.leaf_number k n)) ∙ f.0

      cleared : write (write (write ρ here old) N cl) here unused ≡ write ρ N cl
      cleared =
          ap (λ (σ : Store A). write σ here unused) (write_comm ρ here N old cl (leaf_inner pl.leaf_number k n))
          ∙ write_write (write ρ N cl) here old unused
          ∙ write_id (write ρ N cl) here unused (write_other ρ N cl here (λ i. leaf_inner pl.leaf_number k n (sym i)) ∙ o)

      go : (d : Dec (Has x r)) → store (grow_child pl k n run r x u a d (rec x u)) p ≡ apply (store (inner k n run r) p) (edits_child pl p s a k n run r x u d (rec x u) (es x u))
      go (yes h) = ap (λ (σ : Store A). write σ here (inner_cell (length run) (take 8 run) (refs (rec x u)))) (ih x u) ∙ sym (write_last ρ here old (inner_cell (length run) (take 8 run) (refs (rec x u))) (es x u))
      go (no h) =
          ap (λ (σ : Store A). write σ (home_place pl k n) (inner_cell (length run) (take 8 run) (refs (add_child x (leaf pl.leaf_number u a) r))))
          (store_add x pl.leaf_number u a r (p ++ run) h below_free ∙ ap (λ (t : Tag). write ρ N (leaf_cell t a)) (path_eq p run x u s e) ∙ sym cleared)
  store_grow_inner pl p s a k n run r (part c x u y v i j ne) rec es o f ih =
      let short_cell : Cell A = inner_cell (length v) (take 8 v) (refs r) in
      let old_cell : Cell A = inner_cell (length run) (take 8 run) (refs r) in
      let ρ : Store A = store_row r (p ++ run) in
      let old : store (inner k n v r) (p ++ c ++ y ∷ []) ≡ write (store (inner k n run r) p) (inner_place k n) short_cell =
      ap (λ (t : Tag). write (store_row r t) (inner_place k n) short_cell) (path_eq p c y v run j) ∙ sym (write_write ρ (inner_place k n) old_cell short_cell) in
      let free : store (inner k n v r) (p ++ c ++ y ∷ []) (leaf_place pl.leaf_number) ≡ unused =
      ap (λ (σ : Store A). σ (leaf_place pl.leaf_number)) old ∙ write_other (store (inner k n run r) p) (inner_place k n) short_cell (leaf_place pl.leaf_number) (leaf_inner pl.leaf_number k n) ∙ f.0 in
      let two = store_pair x pl.leaf_number u a y (inner k n v r) (p ++ c) ne free in
      let both = two ∙ ap₂ (λ (σ : Store A) (t : Tag). write σ (leaf_place pl.leaf_number) (leaf_cell t a)) old (path_eq p c x u s i) in
      ap (λ (σ : Store A). write σ (inner_place pl.fork_kind pl.fork_number) (inner_cell (length c) (take 8 c) (refs (pair x (leaf pl.leaf_number u a) y (inner k n v r))))) both

  -- places that are fresh in a join are fresh in its first part
  pub fresh_left : (pl : Plan) (σ τ : Store A) → Fresh pl (combined σ τ) → Fresh pl σ
  fresh_left pl σ τ f = ((or_parts (σ N) (τ N) f.0).0, (or_parts (σ F) (τ F) f.1).0, λ k n. go k n (f.2 k n))
    where
      N : Place
      N = leaf_place pl.leaf_number

      F : Place
      F = inner_place pl.fork_kind pl.fork_number

      go : (k n : ℕ) → (home_place pl k n ≡ inner_place k n) ⊎ (combined σ τ (home_place pl k n) ≡ unused) → (home_place pl k n ≡ inner_place k n) ⊎ (σ (home_place pl k n) ≡ unused)
      go k n (inl e) = inl e
      go k n (inr e) = inr (or_parts (σ (home_place pl k n)) (τ (home_place pl k n)) e).0

  -- and in its second
  pub fresh_right : (pl : Plan) (σ τ : Store A) → Fresh pl (combined σ τ) → Fresh pl τ
  fresh_right pl σ τ f = ((or_parts (σ N) (τ N) f.0).1, (or_parts (σ F) (τ F) f.1).1, λ k n. go k n (f.2 k n))
    where
      N : Place
      N = leaf_place pl.leaf_number

      F : Place
      F = inner_place pl.fork_kind pl.fork_number

      go : (k n : ℕ) → (home_place pl k n ≡ inner_place k n) ⊎ (combined σ τ (home_place pl k n) ≡ unused) → (home_place pl k n ≡ inner_place k n) ⊎ (τ (home_place pl k n) ≡ unused)
      go k n (inl e) = inl e
      go k n (inr e) = inr (or_parts (σ (home_place pl k n)) (τ (home_place pl k n)) e).1

  -- a place that is unused after a write of a used cell was unused before
  pub write_used : (σ : Store A) (x : Place) (c : Cell A) → Used c → (q : Place) → write σ x c q ≡ unused → σ q ≡ unused
  write_used σ x c u q = go (place_dec q x) u
    where
      go : (b : Dec (q ≡ x)) → Used c → ite {C = Cell A} b c (σ q) ≡ unused → σ q ≡ unused
      go (yes e) v h = absurd (rw h at v)
      go (no n) v h = h

  -- places that are fresh after such a write were fresh before
  pub fresh_under : (pl : Plan) (σ : Store A) (x : Place) (c : Cell A) → Used c → Fresh pl (write σ x c) → Fresh pl σ
  fresh_under pl σ x c u f = (write_used σ x c u _ f.0, write_used σ x c u _ f.1, λ k n. go k n (f.2 k n))
    where
      go : (k n : ℕ) → (home_place pl k n ≡ inner_place k n) ⊎ (write σ x c (home_place pl k n) ≡ unused) → (home_place pl k n ≡ inner_place k n) ⊎ (σ (home_place pl k n) ≡ unused)
      go k n (inl e) = inl e
      go k n (inr e) = inr (write_used σ x c u (home_place pl k n) e)

  -- a row with one child, or its rest, changed by writes is the row's store with these writes
  pub store_grow_child : (c : ℕ) (t t' : Tree A) (r r' : Row A) (q : Tag) (x : ℕ) (es fs : Edits A)
      → Clear (store_row r q) es → Clear (store t (q ++ c ∷ [])) fs
      → store t' (q ++ c ∷ []) ≡ apply (store t (q ++ c ∷ [])) es → store_row r' q ≡ apply (store_row r q) fs
      → store_row (ite (ℕ_discrete x c) (child c t' r) (child c t r')) q ≡ apply (store_row (child c t r) q) (ite (ℕ_discrete x c) es fs)
  store_grow_child c t t' r r' q x es fs ce cf iht ihr = go (ℕ_discrete x c)
    where
      go : (d : Dec (x ≡ c)) → store_row (ite d (child c t' r) (child c t r')) q ≡ apply (store_row (child c t r) q) (ite d es fs)
      go (yes e) = ap (λ (σ : Store A). combined σ (store_row r q)) iht ∙ combined_apply_left (store t (q ++ c ∷ [])) (store_row r q) es ce
      go (no n) = ap (combined (store t (q ++ c ∷ []))) ihr ∙ combined_apply_right (store t (q ++ c ∷ [])) (store_row r q) fs cf

  mutual
    -- the writes of an insert make the store of the grown tree
    pub store_grow : (t : Tree A) (pl : Plan) (p s : Tag) (a : A) → Once t p → Fresh pl (store t p) → store (grow t pl s a) p ≡ apply (store t p) (edits t pl p s a)
    store_grow (leaf n rest v) pl p s a o f = store_grow_leaf pl p s a n rest v (meet s rest) f
    store_grow (inner k n run r) pl p s a o f =
        store_grow_inner pl p s a k n run r (meet s run) (λ x u. grow_row r pl x u a) (λ x u. edits_row r pl (p ++ run) x u a) o.0 f
        (λ x u. store_grow_row r pl (p ++ run) x u a o.1 (fresh_under pl (store_row r (p ++ run)) (inner_place k n) (inner_cell (length run) (take 8 run) (refs r)) tt f))

    -- and so for a row
    pub store_grow_row : (r : Row A) (pl : Plan) (q : Tag) (x : ℕ) (u : Tag) (a : A) → OnceRow r q → Fresh pl (store_row r q)
        → store_row (grow_row r pl x u a) q ≡ apply (store_row r q) (edits_row r pl q x u a)
    store_grow_row end pl q x u a o f = refl
    store_grow_row (child c t r) pl q x u a o f =
        let σ : Store A = store t (q ++ c ∷ []) in
        let τ : Store A = store_row r q in
        store_grow_child c t (grow t pl u a) r (grow_row r pl x u a) q x (edits t pl (q ++ c ∷ []) u a) (edits_row r pl q x u a)
        (edits_clear t pl (q ++ c ∷ []) u a τ o.0 o.1 (fresh_right pl σ τ f))
        (edits_row_clear r pl q x u a σ o.2 (separate_sym σ τ o.1) (fresh_left pl σ τ f))
        (store_grow t pl (q ++ c ∷ []) u a o.0 (fresh_left pl σ τ f))
        (store_grow_row r pl q x u a o.2 (fresh_right pl σ τ f))

  -- ── and no place stands twice in it ──
  -- a store that shares no place with another shares none after writes to places that are free in the other
  pub separate_apply : (σ τ : Store A) (es : Edits A) → Clear τ es → Separate σ τ → Separate (apply σ es) τ
  separate_apply σ τ [] h d = d
  separate_apply σ τ (e ∷ es) h d = separate_apply (write σ e.0 e.1) τ es h.1 (λ q. go q (place_dec q e.0))
    where
      go : (q : Place) (b : Dec (q ≡ e.0)) → (ite {C = Cell A} b e.1 (σ q) ≡ unused) ⊎ (τ q ≡ unused)
      go q (yes i) = inr (ap τ i ∙ h.0)
      go q (no n) = d q

  -- one written place shares nothing with a store that has it free
  pub single_separate : (σ : Store A) (x : Place) (c : Cell A) → σ x ≡ unused → Separate (write empty x c) σ
  single_separate σ x c h = separate_apply empty σ ((x, c) ∷ []) (h, tt) (λ q. inl refl)

  -- a row of a new leaf and a tree has no place twice
  pub once_pair : (x n : ℕ) (u : Tag) (a : A) (y : ℕ) (t : Tree A) (q : Tag) → x ≢ y → Once t (q ++ y ∷ []) → store t (q ++ y ∷ []) (leaf_place n) ≡ unused
      → OnceRow (pair x (leaf n u a) y t) q
  once_pair x n u a y t q ne o h = go (order x y)
    where
      σ : Store A
      σ = store t (q ++ y ∷ [])

      c : Cell A
      c = leaf_cell (q ++ x ∷ [] ++ u) a

      go : (k : Order x y) → OnceRow (pair_by x y k (leaf n u a) t) q
      go (below k) = (tt, single_separate (combined σ empty) (leaf_place n) c (or_unused (σ (leaf_place n)) ∙ h), (o, (λ p. inr refl), tt))
      go (equal e) = absurd (ne e)
      go (above k) = (o, subst (λ (τ : Store A). Separate σ τ) (sym (combined_empty (write empty (leaf_place n) c))) (separate_sym (write empty (leaf_place n) c) σ (single_separate σ (leaf_place n) c h)), (tt, (λ p. inr refl), tt))

  -- nor has a row with a new leaf
  pub once_add : (b n : ℕ) (u : Tag) (a : A) (r : Row A) (q : Tag) → ¬ Has b r → OnceRow r q → store_row r q (leaf_place n) ≡ unused → OnceRow (add_child b (leaf n u a) r) q
  once_add b n u a end q nh o h = (tt, (λ p. inr refl), tt)
  once_add b n u a (child c t r) q nh o h = go (order b c) (once_add b n u a r q (λ k. nh (inr k)) o.2 parts.1)
    where
      σ : Store A
      σ = store t (q ++ c ∷ [])

      parts : (σ (leaf_place n) ≡ unused) × (store_row r q (leaf_place n) ≡ unused)
      parts = or_parts (σ (leaf_place n)) (store_row r q (leaf_place n)) h

      d : Cell A
      d = leaf_cell (q ++ b ∷ [] ++ u) a

      go : (k : Order b c) → OnceRow (add_child b (leaf n u a) r) q → OnceRow (add_by b c k (leaf n u a) t r (add_child b (leaf n u a) r)) q
      go (below k) ih = (tt, single_separate (store_row (child c t r) q) (leaf_place n) d h, o)
      go (equal e) ih = o
      go (above k) ih = (
        o.0,
        rw (store_add b n u a r q (λ k. nh (inr k)) parts.1) (separate_sym (write (store_row r q) (leaf_place n) d) σ (separate_apply (store_row r q) σ ((leaf_place n, d) ∷ []) (parts.0, tt) (separate_sym σ (store_row r q) o.1))),
        ih,
      )

  -- a used place is not among writes that are free beside it
  pub apply_clear : (x : Place) (c : Cell A) → Used c → (es : Edits A) (σ : Store A) → Clear (write empty x c) es → apply σ es x ≡ σ x
  apply_clear x c u [] σ h = refl
  apply_clear x c u (e ∷ es) σ h = apply_clear x c u es (write σ e.0 e.1) h.1 ∙ write_other σ e.0 e.1 x (λ i. off (ap (write empty x c) i ∙ h.0))
    where
      off : write empty x c x ≡ unused → ⊥
      off k = go c u (sym (write_same empty x c) ∙ k)
        where
          go : (c : Cell A) → Used c → c ≡ unused → ⊥
          go c v i = rw i at v

  -- places that are fresh in a store are fresh beside each of its places
  pub fresh_single : (pl : Plan) (σ : Store A) (x : Place) (c : Cell A) → Fresh pl (write σ x c) → Fresh pl (write empty x c)
  fresh_single pl σ x c f = (alone (leaf_place pl.leaf_number) f.0, alone (inner_place pl.fork_kind pl.fork_number) f.1, λ k n. go k n (f.2 k n))
    where
      alone : (q : Place) → write σ x c q ≡ unused → write empty x c q ≡ unused
      alone q = pick (place_dec q x)
        where
          pick : (b : Dec (q ≡ x)) → ite {C = Cell A} b c (σ q) ≡ unused → ite {C = Cell A} b c unused ≡ unused
          pick (yes e) h = h
          pick (no n) h = refl

      go : (k n : ℕ) → (home_place pl k n ≡ inner_place k n) ⊎ (write σ x c (home_place pl k n) ≡ unused)
          → (home_place pl k n ≡ inner_place k n) ⊎ (write empty x c (home_place pl k n) ≡ unused)
      go k n (inl e) = inl e
      go k n (inr e) = inr (alone (home_place pl k n) e)

  -- a used cell is not unused
  pub used_not : (c : Cell A) → Used c → c ≡ unused → ⊥
  used_not c v i = rw i at v

  -- a leaf grown with fresh places has no place twice
  pub once_grow_leaf : (pl : Plan) (p s : Tag) (a : A) (n : ℕ) (rest : Tag) (v : A) (m : Meet s rest) → Fresh pl (store (leaf n rest v) p) → Once (grow_leaf pl s a n rest v m) p
  once_grow_leaf pl p s a n rest v (same e) f = tt
  once_grow_leaf pl p s a n rest v (short y w e) f = tt
  once_grow_leaf pl p s a n rest v (long x u e) f = tt
  once_grow_leaf pl p s a n rest v (part c x u y w i j ne) f =
      let N : Place = leaf_place pl.leaf_number in
      let F : Place = inner_place pl.fork_kind pl.fork_number in
      let σ : Store A = store (leaf n w v) (p ++ c ++ y ∷ []) in
      let old : σ ≡ store (leaf n rest v) p = ap (λ (t : Tag). write empty (leaf_place n) (leaf_cell t v)) (path_eq p c y w rest j) in
      let free : σ N ≡ unused = ap (λ (τ : Store A). τ N) old ∙ f.0 in
      let two = store_pair x pl.leaf_number u a y (leaf n w v) (p ++ c) ne free in (
        ap (λ (τ : Store A). τ F) two ∙ write_other σ N (leaf_cell (p ++ c ++ x ∷ [] ++ u) a) F (λ i. leaf_inner pl.leaf_number pl.fork_kind pl.fork_number (sym i)) ∙ ap (λ (τ : Store A). τ F) old ∙ f.1,
        once_pair x pl.leaf_number u a y (leaf n w v) (p ++ c) ne tt free,
      )

  -- nor has a grown record, where the grown row below it has none
  pub once_grow_inner : (pl : Plan) (p s : Tag) (a : A) (k n : ℕ) (run : Tag) (r : Row A) (m : Meet s run) (rec : ℕ → Tag → Row A)
      → Once (inner k n run r) p → Fresh pl (store (inner k n run r) p)
      → ((x : ℕ) (u : Tag) → (store_row (rec x u) (p ++ run) (inner_place k n) ≡ unused) × OnceRow (rec x u) (p ++ run))
      → Once (grow_inner pl s a k n run r m rec) p
  once_grow_inner pl p s a k n run r (same e) rec o f ih = o
  once_grow_inner pl p s a k n run r (short y v e) rec o f ih = o
  once_grow_inner pl p s a k n run r (long x u e) rec o f ih = go (has x r)
    where
      ρ : Store A
      ρ = store_row r (p ++ run)

      N : Place
      N = leaf_place pl.leaf_number

      old : Cell A
      old = inner_cell (length run) (take 8 run) (refs r)

      free : ρ N ≡ unused
      free = write_used ρ (inner_place k n) old tt N f.0

      at_home : (home_place pl k n ≡ inner_place k n) ⊎ (write ρ (inner_place k n) old (home_place pl k n) ≡ unused) → ρ (home_place pl k n) ≡ unused
      at_home (inl i) = ap ρ i ∙ o.0
      at_home (inr i) = write_used ρ (inner_place k n) old tt (home_place pl k n) i

      go : (d : Dec (Has x r)) → Once (grow_child pl k n run r x u a d (rec x u)) p
      go (yes h) = ih x u
      go (no h) = (
        ap (λ (τ : Store A). τ (home_place pl k n)) (store_add x pl.leaf_number u a r (p ++ run) h free)
            ∙ write_other ρ N (leaf_cell (p ++ run ++ x ∷ [] ++ u) a) (home_place pl k n) (λ i. leaf_inner pl.leaf_number _ _ (sym i)) ∙ at_home (f.2 k n),
        once_add x pl.leaf_number u a r (p ++ run) h o.1 free,
      )
  once_grow_inner pl p s a k n run r (part c x u y v i j ne) rec o f ih =
      let N : Place = leaf_place pl.leaf_number in
      let F : Place = inner_place pl.fork_kind pl.fork_number in
      let here : Place = inner_place k n in
      let short_cell : Cell A = inner_cell (length v) (take 8 v) (refs r) in
      let old_cell : Cell A = inner_cell (length run) (take 8 run) (refs r) in
      let t : Tree A = inner k n v r in
      let q : Tag = p ++ c ++ y ∷ [] in
      let old : store t q ≡ write (store (inner k n run r) p) here short_cell =
      ap (λ (t : Tag). write (store_row r t) here short_cell) (path_eq p c y v run j) ∙ sym (write_write (store_row r (p ++ run)) here old_cell short_cell) in
      let free : store t q N ≡ unused = ap (λ (σ : Store A). σ N) old ∙ write_other (store (inner k n run r) p) here short_cell N (leaf_inner pl.leaf_number k n) ∙ f.0 in
      let off : F ≢ here = λ e. used_not (store (inner k n run r) p here) (own (inner k n run r) p) (ap (store (inner k n run r) p) (sym e) ∙ f.1) in
      let once : Once t q = (ap (λ (z : Tag). store_row r z here) (path_eq p c y v run j) ∙ o.0, rw (path_eq p c y v run j) o.1) in (
        ap (λ (τ : Store A). τ F) (store_pair x pl.leaf_number u a y t (p ++ c) ne free)
            ∙ write_other (store t q) N (leaf_cell (p ++ c ++ x ∷ [] ++ u) a) F (λ i. leaf_inner pl.leaf_number pl.fork_kind pl.fork_number (sym i))
            ∙ ap (λ (σ : Store A). σ F) old ∙ write_other (store (inner k n run r) p) here short_cell F off ∙ f.1,
        once_pair x pl.leaf_number u a y t (p ++ c) ne once free,
      )

  -- nor has a row with one child, or its rest, changed
  pub once_grow_child : (c : ℕ) (t t' : Tree A) (r r' : Row A) (q : Tag) (x : ℕ) → OnceRow (child c t r) q → Once t' (q ++ c ∷ []) → OnceRow r' q
      → Separate (store t' (q ++ c ∷ [])) (store_row r q) → Separate (store t (q ++ c ∷ [])) (store_row r' q) → OnceRow (ite (ℕ_discrete x c) (child c t' r) (child c t r')) q
  once_grow_child c t t' r r' q x o ot or d e = go (ℕ_discrete x c)
    where
      go : (b : Dec (x ≡ c)) → OnceRow (ite b (child c t' r) (child c t r')) q
      go (yes i) = (ot, d, o.2)
      go (no n) = (o.0, e, or)

  mutual
    -- a tree grown with fresh places has no place twice
    pub once_grow : (t : Tree A) (pl : Plan) (p s : Tag) (a : A) → Once t p → Fresh pl (store t p) → Once (grow t pl s a) p
    once_grow (leaf n rest v) pl p s a o f = once_grow_leaf pl p s a n rest v (meet s rest) f
    once_grow (inner k n run r) pl p s a o f =
        let ρ : Store A = store_row r (p ++ run) in
        let here : Place = inner_place k n in
        let old : Cell A = inner_cell (length run) (take 8 run) (refs r) in
        let fr : Fresh pl ρ = fresh_under pl ρ here old tt f in
        once_grow_inner pl p s a k n run r (meet s run) (λ x u. grow_row r pl x u a) o f
        (λ x u. (
          ap (λ (σ : Store A). σ here) (store_grow_row r pl (p ++ run) x u a o.1 fr)
              ∙ apply_clear here old tt (edits_row r pl (p ++ run) x u a) ρ (edits_row_clear r pl (p ++ run) x u a (write empty here old) o.1 (separate_sym (write empty here old) ρ (single_separate ρ here old o.0)) (fresh_single pl ρ here old f))
              ∙ o.0,
          once_grow_row r pl (p ++ run) x u a o.1 fr,
        ))

    -- and so for a row
    pub once_grow_row : (r : Row A) (pl : Plan) (q : Tag) (x : ℕ) (u : Tag) (a : A) → OnceRow r q → Fresh pl (store_row r q) → OnceRow (grow_row r pl x u a) q
    once_grow_row end pl q x u a o f = tt
    once_grow_row (child c t r) pl q x u a o f =
        let σ : Store A = store t (q ++ c ∷ []) in
        let τ : Store A = store_row r q in
        once_grow_child c t (grow t pl u a) r (grow_row r pl x u a) q x o
        (once_grow t pl (q ++ c ∷ []) u a o.0 (fresh_left pl σ τ f))
        (once_grow_row r pl q x u a o.2 (fresh_right pl σ τ f))
        (rw (store_grow t pl (q ++ c ∷ []) u a o.0 (fresh_left pl σ τ f))
        (separate_apply σ τ (edits t pl (q ++ c ∷ []) u a) (edits_clear t pl (q ++ c ∷ []) u a τ o.0 o.1 (fresh_right pl σ τ f)) o.1))
        (rw (store_grow_row r pl q x u a o.2 (fresh_right pl σ τ f))
        (separate_sym (apply τ (edits_row r pl q x u a)) σ (separate_apply τ σ (edits_row r pl q x u a) (edits_row_clear r pl q x u a σ o.2 (separate_sym σ τ o.1) (fresh_left pl σ τ f)) (separate_sym σ τ o.1))))
