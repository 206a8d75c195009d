-- How two tags meet, and insert on trees.
use Rattle.std.specs.Prelude.{◌≡◌, refl, ◌⊎◌, ◌≢◌, [], ◌∷◌, ◌++◌, ℕ}
use Rattle.std.proofs.Common.{sym}
use Rattle.std.proofs.Math.Logic.{ite}
use Rattle.std.proofs.Math.Decide.{ℕ_discrete}
use Rattle.art.specs.Decisions.{either_dec}
use Rattle.art.specs.Tags.{Tag, Order, order, below, equal, above}
use Rattle.art.specs.Trees.{Tree, leaf, inner, Row, end, child}

-- how two tags meet: equal, one goes on past the other, or they part at a byte
pub data Meet (s t : Tag) : Type 0 where
  same : s ≡ t → Meet s t
  short : (y : ℕ) (v : Tag) → t ≡ s ++ y ∷ v → Meet s t
  long : (x : ℕ) (u : Tag) → s ≡ t ++ x ∷ u → Meet s t
  part : (c : Tag) (x : ℕ) (u : Tag) (y : ℕ) (v : Tag) → s ≡ c ++ x ∷ u → t ≡ c ++ y ∷ v → x ≢ y → Meet s t

-- one byte before each of two tags that meet
abbrev pub meet_cons : (x y : ℕ) (s t : Tag) → Dec (x ≡ y) → Meet s t → Meet (x ∷ s) (y ∷ t)
meet_cons x y s t (no n) m = part [] x s y t refl refl n
meet_cons x y s t (yes e) (same i) = same (λ k. e k ∷ i k)
meet_cons x y s t (yes e) (short z v i) = short z v (λ k. sym e k ∷ i k)
meet_cons x y s t (yes e) (long z u i) = long z u (λ k. e k ∷ i k)
meet_cons x y s t (yes e) (part c z u w v i j n) = part (x ∷ c) z u w v (λ k. x ∷ i k) (λ k. sym e k ∷ j k) n

-- any two tags meet in one of the four ways
unfoldable pub meet : (s t : Tag) → Meet s t
unfolding ℕ_discrete
meet [] [] = same refl
meet [] (y ∷ t) = short y t refl
meet (x ∷ s) [] = long x s refl
meet (x ∷ s) (y ∷ t) = meet_cons x y s t (ℕ_discrete x y) (meet s t)

module _ {A : Type 0} where
  -- is there a child for the byte
  abbrev pub Has : ℕ → Row A → Type 0
  Has b end = ⊥
  Has b (child c t r) = (b ≡ c) ⊎ Has b r

  -- whether there is
  unfoldable pub has : (b : ℕ) (r : Row A) → Dec (Has b r)
  unfolding ℕ_discrete
  has b end = no (λ h. h)
  has b (child c t r) = either_dec (ℕ_discrete b c) (has b r)

  -- a row of two, in byte order
  abbrev pub pair_by : (x y : ℕ) → Order x y → Tree A → Tree A → Row A
  pair_by x y (below h) t u = child x t (child y u end)
  pair_by x y (equal e) t u = child x t end
  pair_by x y (above h) t u = child y u (child x t end)

  -- the two children x and y, by the order of their bytes
  abbrev pub pair : ℕ → Tree A → ℕ → Tree A → Row A
  pair x t y u = pair_by x y (order x y) t u

  -- a child where there was none, in byte order
  abbrev pub add_by : (b c : ℕ) → Order b c → Tree A → Tree A → Row A → Row A → Row A
  add_by b c (below h) t u r rest = child b t (child c u r)
  add_by b c (equal e) t u r rest = child c u r
  add_by b c (above h) t u r rest = child c u rest

  -- by the order of its byte and the first
  abbrev pub add_child : ℕ → Tree A → Row A → Row A
  add_child b t end = child b t end
  add_child b t (child c u r) = add_by b c (order b c) t u r (add_child b t r)

-- the addresses of a new tag: the leaf's number, the kind and number of a new branching, and where a record goes that takes one more child
pub record Plan : Type 0 where
  pub leaf_number : ℕ
  pub fork_kind : ℕ
  pub fork_number : ℕ
  pub home : ℕ → ℕ → ℕ × ℕ

module _ {A : Type 0} where
  -- at a leaf: where the tags part, a branching over the new leaf and the old
  abbrev pub grow_leaf : Plan → (s : Tag) → A → (n : ℕ) (rest : Tag) → A → Meet s rest → Tree A
  grow_leaf pl s a n rest v (same e) = leaf n rest v
  grow_leaf pl s a n rest v (short y w e) = leaf n rest v
  grow_leaf pl s a n rest v (long x u e) = leaf n rest v
  grow_leaf pl s a n rest v (part c x u y w i j ne) = inner pl.fork_kind pl.fork_number c (pair x (leaf pl.leaf_number u a) y (leaf n w v))

  -- at a record whose run is met whole: in the child for the byte, or a new child
  abbrev pub grow_child : Plan → (k n : ℕ) (run : Tag) (r : Row A) (x : ℕ) (u : Tag) → A → Dec (Has x r) → Row A → Tree A
  grow_child pl k n run r x u a (yes h) r' = inner k n run r'
  grow_child pl k n run r x u a (no h) r' = inner (pl.home k n).0 (pl.home k n).1 run (add_child x (leaf pl.leaf_number u a) r)

  -- at a record: where the tag parts from the run, a branching over the new leaf and the record
  abbrev pub grow_inner : Plan → (s : Tag) → A → (k n : ℕ) (run : Tag) (r : Row A) → Meet s run → (ℕ → Tag → Row A) → Tree A
  grow_inner pl s a k n run r (same e) rec = inner k n run r
  grow_inner pl s a k n run r (short y v e) rec = inner k n run r
  grow_inner pl s a k n run r (long x u e) rec = grow_child pl k n run r x u a (has x r) (rec x u)
  grow_inner pl s a k n run r (part c x u y v i j ne) rec = inner pl.fork_kind pl.fork_number c (pair x (leaf pl.leaf_number u a) y (inner k n v r))

  -- the tree with one tag more; it stays as it is where the tag is held or clashes
  abbrev mutual
    pub grow : Tree A → Plan → Tag → A → Tree A
    grow (leaf n rest v) pl s a = grow_leaf pl s a n rest v (meet s rest)
    grow (inner k n run r) pl s a = grow_inner pl s a k n run r (meet s run) (λ x u. grow_row r pl x u a)

    -- the row with the child for x so grown
    pub grow_row : Row A → Plan → ℕ → Tag → A → Row A
    grow_row end pl x u a = end
    grow_row (child c t r) pl x u a = ite (ℕ_discrete x c) (child c (grow t pl u a) r) (child c t (grow_row r pl x u a))
