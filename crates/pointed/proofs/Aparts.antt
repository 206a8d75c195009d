-- A record is not its own child, nor its child's child: going down a tree that has no place twice, the height falls.
use mathlib.Core.Path.{◌≡◌, refl, sym, ap, subst, ◌∙◌}
use mathlib.Core.Logic.{◌⊎◌, inl, inr, ◌≢◌, ite, if_pos, if_neg}
use mathlib.Core.Option.{some}
use mathlib.Core.List.{List, [], ◌∷◌, ◌++◌}
use Prim.Native.Nat.{ℕ, suc, ◌≤◌, ◌<◌, max}
use native.Mathlib.Decide.{ℕ_discrete}
use native.Mathlib.Omega.{arith}
use lib.ListN.{length, take}
use Rattle.art.specs.Tags.{Tag}
use Rattle.art.specs.Trees.{Tree, leaf, inner, Row, end, child}
use Rattle.art.specs.Facts.{height, row_height}
use Rattle.art.specs.Stores.{Place, leaf_place, inner_place, place_dec, Cell, unused, leaf_cell, inner_cell, Store, empty, or_cell, root, refs, store, store_row, Used, Separate, Once, OnceRow}
use Rattle.art.specs.Refs.{Refs, find_ref}
use Rattle.art.specs.Points.{ChildAt}
use Rattle.art.proofs.Stores.{leaf_inner, or_used, write_other, or_parts, own, used_not}
use Rattle.art.proofs.Checks.{used_or_free}
use Rattle.art.proofs.ReadBack.{some_inj}

module _ {A : Type 0} where
  -- ── the height of the tree at a place ──
  -- 0 where the tree has no such place
  abbrev mutual
    rank : Tree A → Place → ℕ
    rank (leaf n s a) x = 0
    rank (inner k n run r) x = ite (place_dec x (inner_place k n)) (suc (row_height r)) (row_rank r x)

    row_rank : Row A → Place → ℕ
    row_rank end x = 0
    row_rank (child b t r) x = max (rank t x) (row_rank r x)

  mutual
    rank_low : (t : Tree A) (x : Place) → rank t x ≤ height t
    rank_low (leaf n s a) x = omega arith
    rank_low (inner k n run r) x = go (place_dec x (inner_place k n)) (row_rank_low r x)
      where
        go : (d : Dec (x ≡ inner_place k n)) → row_rank r x ≤ row_height r → ite d (suc (row_height r)) (row_rank r x) ≤ suc (row_height r)
        go (yes e) h = omega arith
        go (no e) h = omega arith

    row_rank_low : (r : Row A) (x : Place) → row_rank r x ≤ row_height r
    row_rank_low end x = omega arith
    row_rank_low (child b t r) x = omega (arith, rank_low t x, row_rank_low r x)

  mutual
    rank_off : (t : Tree A) (p : Tag) (x : Place) → store t p x ≡ unused → rank t x ≡ 0
    rank_off (leaf n s a) p x e = refl
    rank_off (inner k n run r) p x e = go (place_dec x (inner_place k n)) e (λ i. row_rank_off r (p ++ run) x i)
      where
        go : (d : Dec (x ≡ inner_place k n)) → ite d (inner_cell (length run) (take 8 run) (refs r)) (store_row r (p ++ run) x) ≡ unused → (store_row r (p ++ run) x ≡ unused → row_rank r x ≡ 0) → ite d (suc (row_height r)) (row_rank r x) ≡ 0
        go (yes j) i h = absurd (used_not _ tt i)
        go (no j) i h = h i

    row_rank_off : (r : Row A) (q : Tag) (x : Place) → store_row r q x ≡ unused → row_rank r x ≡ 0
    row_rank_off end q x e = refl
    row_rank_off (child b t r) q x e =
        let p = or_parts (store t (q ++ b ∷ []) x) (store_row r q x) e in
        omega (arith, rank_off t (q ++ b ∷ []) x p.0, row_rank_off r q x p.1)

  -- ── a child's height is less ──
  used_left : (c d : Cell A) → Used c → Used (or_cell c d)
  used_left c d u = subst Used (sym (or_used c d u)) u

  used_right : (c d : Cell A) → Used d → Used (or_cell c d)
  used_right unused d u = u
  used_right (leaf_cell t a) d u = tt
  used_right (inner_cell len st rs) d u = tt

  -- the place of a child is a used one of the row
  kid_used : (r : Row A) (q : Tag) (b : ℕ) (y : Place) → find_ref (refs r) b ≡ some y → Used (store_row r q y)
  kid_used end q b y e = let z : ◌≡◌ {A = ℕ} 0 1 = cc in absurd (omega arith)
  kid_used (child c t r) q b y e = go (ℕ_discrete b c) e (λ i. kid_used r q b y i)
    where
      go : (d : Dec (b ≡ c)) → ite d (some (root t)) (find_ref (refs r) b) ≡ some y → (find_ref (refs r) b ≡ some y → Used (store_row r q y)) → Used (or_cell (store t (q ++ c ∷ []) y) (store_row r q y))
      go (yes j) i h = used_left (store t (q ++ c ∷ []) y) (store_row r q y) (subst (λ (x : Place). Used (store t (q ++ c ∷ []) x)) (some_inj i) (own t (q ++ c ∷ [])))
      go (no j) i h = used_right (store t (q ++ c ∷ []) y) (store_row r q y) (h i)

  record Falls (σ : Store A) (height-at : Place → ℕ) (x y : Place) : Type 0 where
    there : Used (σ y)
    falls : height-at y < height-at x

  -- the row's place of a child is not the record's own
  not_own : (k n : ℕ) (run : Tag) (r : Row A) (p : Tag) (y : Place) → store_row r (p ++ run) (inner_place k n) ≡ unused → Used (store_row r (p ++ run) y) → y ≢ inner_place k n
  not_own k n run r p y o u e = used_not _ u (ap (store_row r (p ++ run)) e ∙ o)

  -- at a record: its child stands in its row; below it: both do
  inner_falls : (i m : ℕ) (run : Tag) (r : Row A) (p : Tag) → store_row r (p ++ run) (inner_place i m) ≡ unused → (k n len : ℕ) (st : List ℕ) (rs : Refs) (b : ℕ) (y : Place)
      → (store_row r (p ++ run) (inner_place k n) ≡ inner_cell len st rs → Falls (store_row r (p ++ run)) (row_rank r) (inner_place k n) y)
      → store (inner i m run r) p (inner_place k n) ≡ inner_cell len st rs → find_ref rs b ≡ some y → Falls (store (inner i m run r) p) (rank (inner i m run r)) (inner_place k n) y
  inner_falls i m run r p o k n len st rs b y rec e c = go (place_dec (inner_place k n) (inner_place i m)) e
    where
      here : Place
      here = inner_place i m

      q : Tag
      q = p ++ run

      in_row : Used (store_row r q y) → row_rank r y < rank (inner i m run r) (inner_place k n) → Falls (store (inner i m run r) p) (rank (inner i m run r)) (inner_place k n) y
      in_row u l =
          let ne = not_own i m run r p y o u in
          record {
            there = subst Used (sym (write_other (store_row r q) here (inner_cell (length run) (take 8 run) (refs r)) y ne)) u;
            falls = omega (arith, l, if_neg (place_dec y here) ne (suc (row_height r)) (row_rank r y));
          }

      go : (d : Dec (inner_place k n ≡ here)) → ite d (inner_cell (length run) (take 8 run) (refs r)) (store_row r q (inner_place k n)) ≡ inner_cell len st rs
          → Falls (store (inner i m run r) p) (rank (inner i m run r)) (inner_place k n) y
      go (yes j) h =
          let same : refs r ≡ rs = cc in
          in_row (kid_used r q b y (ap (λ (l : Refs). find_ref l b) same ∙ c))
          (omega (arith, row_rank_low r y, if_pos (place_dec (inner_place k n) here) j (suc (row_height r)) (row_rank r (inner_place k n))))
      go (no j) h =
          let f = rec h in
          in_row f.there (omega (arith, f.falls, if_neg (place_dec (inner_place k n) here) j (suc (row_height r)) (row_rank r (inner_place k n))))

  -- in a row: the child's tree has both, or the rest has
  row_falls : (c : ℕ) (t : Tree A) (r : Row A) (q : Tag) → Separate (store t (q ++ c ∷ [])) (store_row r q) → (x : Place) (len : ℕ) (st : List ℕ) (rs : Refs) (y : Place)
      → (store t (q ++ c ∷ []) x ≡ inner_cell len st rs → Falls (store t (q ++ c ∷ [])) (rank t) x y) → (store_row r q x ≡ inner_cell len st rs → Falls (store_row r q) (row_rank r) x y)
      → store_row (child c t r) q x ≡ inner_cell len st rs → Falls (store_row (child c t r) q) (row_rank (child c t r)) x y
  row_falls c t r q o x len st rs y first rest e = go (used_or_free (σ x))
    where
      σ : Store A
      σ = store t (q ++ c ∷ [])

      τ : Store A
      τ = store_row r q

      off_row : Used (σ y) → τ y ≡ unused
      off_row u = elim (o y) [ inl i ↦ absurd (used_not (σ y) u i) | inr i ↦ i ]

      off_tree : Used (τ y) → σ y ≡ unused
      off_tree u = elim (o y) [ inl i ↦ i | inr i ↦ absurd (used_not (τ y) u i) ]

      go : Used (σ x) ⊎ (σ x ≡ unused) → Falls (store_row (child c t r) q) (row_rank (child c t r)) x y
      go (inl u) =
          let f = first (sym (or_used (σ x) (τ x) u) ∙ e) in
          record { there = used_left (σ y) (τ y) f.there; falls = omega (arith, f.falls, row_rank_off r q y (off_row f.there)) }
      go (inr i) =
          let f = rest (ap (λ (d : Cell A). or_cell d (τ x)) (sym i) ∙ e) in
          record { there = used_right (σ y) (τ y) f.there; falls = omega (arith, f.falls, rank_off t (q ++ c ∷ []) y (off_tree f.there)) }

  mutual
    tree_falls : (t : Tree A) (p : Tag) → Once t p → (k n len : ℕ) (st : List ℕ) (rs : Refs) (b : ℕ) (y : Place) → store t p (inner_place k n) ≡ inner_cell len st rs → find_ref rs b ≡ some y
        → Falls (store t p) (rank t) (inner_place k n) y
    tree_falls (leaf m s a) p o k n len st rs b y e c =
        let i = write_other (empty {A = A}) (leaf_place m) (leaf_cell (p ++ s) a) (inner_place k n) (λ j. leaf_inner m k n (sym j)) in
        absurd (used_not (inner_cell len st rs) tt (sym e ∙ i))
    tree_falls (inner i m run r) p o k n len st rs b y e c =
        inner_falls i m run r p o.0 k n len st rs b y (λ h. row_tree_falls r (p ++ run) o.1 k n len st rs b y h c) e c

    row_tree_falls : (r : Row A) (q : Tag) → OnceRow r q → (k n len : ℕ) (st : List ℕ) (rs : Refs) (b : ℕ) (y : Place) → store_row r q (inner_place k n) ≡ inner_cell len st rs → find_ref rs b ≡ some y
        → Falls (store_row r q) (row_rank r) (inner_place k n) y
    row_tree_falls end q o k n len st rs b y e c = absurd (used_not (inner_cell len st rs) tt (sym e))
    row_tree_falls (child d t r) q o k n len st rs b y e c =
        row_falls d t r q o.1 (inner_place k n) len st rs y (λ h. tree_falls t (q ++ d ∷ []) o.0 k n len st rs b y h c) (λ h. row_tree_falls r q o.2 k n len st rs b y h c) e

  child_falls : (t : Tree A) → Once t [] → (k n b : ℕ) (y : Place) → ChildAt (store t []) k n b y → rank t y < rank t (inner_place k n)
  child_falls t o k n b y c = (tree_falls t [] o k n c.len c.parent.stored c.rs b y c.parent.shown c.child).falls

  -- ── so no record is its own child ──
  pub up_apart : (t : Tree A) → Once t [] → (k n b : ℕ) (y : Place) → ChildAt (store t []) k n b y → inner_place k n ≢ y
  up_apart t o k n b y c e = omega (arith, child_falls t o k n b y c, ap (rank t) e)

  -- nor its child's child
  pub upper_apart : (t : Tree A) → Once t [] → (k n b j m d : ℕ) (y : Place) → ChildAt (store t []) k n b (inner_place j m) → ChildAt (store t []) j m d y → inner_place k n ≢ y
  upper_apart t o k n b j m d y c c' e = omega (arith, child_falls t o k n b (inner_place j m) c, child_falls t o j m d y c', ap (rank t) e)
