-- A store of records, the store that a tree makes, and insert as a short list of writes.
use Rattle.std.specs.Prelude.{◌≡◌, ◌⊎◌, List, [], ◌∷◌, ◌++◌, ℕ, length, take}
use Rattle.std.proofs.Math.Logic.{ite}
use Rattle.std.proofs.Math.Decide.{ℕ_discrete}
use Rattle.art.specs.Tags.{Tag}
use Rattle.art.specs.Trees.{Tree, leaf, inner, Row, end, child}
use Rattle.art.specs.Changes.{Plan, Meet, same, short, long, part, meet, Has, has, pair, add_child, grow_row}

-- the place of a leaf, or of an inner record of a kind, in its pool
pub data Place : Type 0 where
  leaf_place : (number : ℕ) → Place
  inner_place : (kind number : ℕ) → Place
  deriving Discrete as place-discrete

-- whether two places are the same
abbrev pub place_dec : Discrete Place
place_dec = place-discrete ℕ_discrete

-- where a record goes that takes one more child
abbrev pub home_place : Plan → ℕ → ℕ → Place
home_place pl k n = inner_place (pl.home k n).0 (pl.home k n).1

-- what stands at a place: nothing; a leaf's tag and what it holds; or a record's length, first eight bytes and ascending row of bytes with places
pub data Cell (A : Type 0) : Type 0 where
  unused : Cell A
  leaf_cell : (tag : Tag) (held : A) → Cell A
  inner_cell : (len : ℕ) (stored : List ℕ) (refs : List (ℕ × Place)) → Cell A

-- a cell at each place
abbrev pub Store : Type 0 → Type 0
Store A = Place → Cell A

-- cells to be written at places, in order
abbrev pub Edits : Type 0 → Type 0
Edits A = List (Place × Cell A)

module _ {A : Type 0} where
  -- nothing anywhere
  abbrev pub empty : Store A
  empty q = unused

  -- the first cell, or the second where the first is unused
  abbrev pub or_cell : Cell A → Cell A → Cell A
  or_cell unused d = d
  or_cell (leaf_cell t a) d = leaf_cell t a
  or_cell (inner_cell n st rs) d = inner_cell n st rs

  -- two stores together
  abbrev pub combined : Store A → Store A → Store A
  combined σ τ q = or_cell (σ q) (τ q)

  -- one cell written
  abbrev pub write : Store A → Place → Cell A → Store A
  write σ x c q = ite (place_dec q x) c (σ q)

  -- cells written in order
  abbrev pub apply : Store A → Edits A → Store A
  apply σ [] = σ
  apply σ (e ∷ es) = apply (write σ e.0 e.1) es

  -- ── the store that a tree makes below a path ──
  -- the place of a tree's first record
  abbrev pub root : Tree A → Place
  root (leaf n s a) = leaf_place n
  root (inner k n run r) = inner_place k n

  -- the bytes of a row with the places of its children
  abbrev pub refs : Row A → List (ℕ × Place)
  refs end = []
  refs (child b t r) = (b, root t) ∷ refs r

  -- the cell of a tree's first record
  abbrev pub cell : Tag → Tree A → Cell A
  cell p (leaf n s a) = leaf_cell (p ++ s) a
  cell p (inner k n run r) = inner_cell (length run) (take 8 run) (refs r)

  -- the cells of a tree, each at its place
  abbrev mutual
    pub store : Tree A → Tag → Store A
    store (leaf n s a) p = write empty (leaf_place n) (leaf_cell (p ++ s) a)
    store (inner k n run r) p = write (store_row r (p ++ run)) (inner_place k n) (inner_cell (length run) (take 8 run) (refs r))

    -- those of each child of a row, below the path q and its byte
    pub store_row : Row A → Tag → Store A
    store_row end q = empty
    store_row (child b t r) q = combined (store t (q ++ b ∷ [])) (store_row r q)

  -- the tag of a leaf's cell; any other has none
  abbrev pub cell_tag : Cell A → Tag
  cell_tag unused = []
  cell_tag (leaf_cell t a) = t
  cell_tag (inner_cell n st rs) = []

  -- ── writes ──
  -- the cell is used
  abbrev pub Used : Cell A → Type 0
  Used unused = ⊥
  Used (leaf_cell t a) = Unit {0}
  Used (inner_cell n st rs) = Unit {0}

  -- every place that is written is unused in τ
  abbrev pub Clear : Store A → Edits A → Type 0
  Clear τ [] = Unit {0}
  Clear τ (e ∷ es) = (τ e.0 ≡ unused) × Clear τ es

  -- ── no place twice ──
  -- no place is used in both
  abbrev pub Separate : Store A → Store A → Type 0
  Separate σ τ = (q : Place) → (σ q ≡ unused) ⊎ (τ q ≡ unused)

  -- no place stands twice in the tree
  abbrev mutual
    pub Once : Tree A → Tag → Type 0
    Once (leaf n s a) p = Unit {0}
    Once (inner k n run r) p = (store_row r (p ++ run) (inner_place k n) ≡ unused) × OnceRow r (p ++ run)

    -- nor in a row: in none of its trees, and no two of them share one
    pub OnceRow : Row A → Tag → Type 0
    OnceRow end q = Unit {0}
    OnceRow (child b t r) q = Once t (q ++ b ∷ []) × Separate (store t (q ++ b ∷ [])) (store_row r q) × OnceRow r q

  -- the places of a plan are unused in τ, or a record stays where it is
  abbrev pub Fresh : Plan → Store A → Type 0
  Fresh pl τ = (τ (leaf_place pl.leaf_number) ≡ unused) × (τ (inner_place pl.fork_kind pl.fork_number) ≡ unused)
      × ((k n : ℕ) → (home_place pl k n ≡ inner_place k n) ⊎ (τ (home_place pl k n) ≡ unused))

  -- ── the writes of an insert ──
  -- the new leaf's cell at its place
  abbrev pub new_leaf : Plan → Tag → A → Place × Cell A
  new_leaf pl t a = (leaf_place pl.leaf_number, leaf_cell t a)

  -- at a leaf: the new leaf, then the branching over the two
  abbrev pub edits_leaf : Plan → (p s : Tag) → A → (n : ℕ) (rest : Tag) → A → Meet s rest → Edits A
  edits_leaf pl p s a n rest v (same e) = []
  edits_leaf pl p s a n rest v (short y w e) = []
  edits_leaf pl p s a n rest v (long x u e) = []
  edits_leaf pl p s a n rest v (part c x u y w i j ne) =
      new_leaf pl (p ++ s) a
      ∷ (inner_place pl.fork_kind pl.fork_number, inner_cell (length c) (take 8 c) (refs (pair x (leaf pl.leaf_number u a) y (leaf n w v))))
      ∷ []

  -- in a child, then the record; or the new leaf, the record freed, and written with one child more where it goes
  abbrev pub edits_child : Plan → (p s : Tag) → A → (k n : ℕ) (run : Tag) (r : Row A) (x : ℕ) (u : Tag) → Dec (Has x r) → Row A → Edits A → Edits A
  edits_child pl p s a k n run r x u (yes h) r' es = es ++ (inner_place k n, inner_cell (length run) (take 8 run) (refs r')) ∷ []
  edits_child pl p s a k n run r x u (no h) r' es =
      new_leaf pl (p ++ s) a
      ∷ (inner_place k n, unused)
      ∷ (home_place pl k n, inner_cell (length run) (take 8 run) (refs (add_child x (leaf pl.leaf_number u a) r)))
      ∷ []

  -- where the tag parts from the run: the record with the rest of its run, the new leaf, then the branching over the two
  abbrev pub edits_inner : Plan → (p s : Tag) → A → (k n : ℕ) (run : Tag) (r : Row A) → Meet s run → (ℕ → Tag → Row A) → (ℕ → Tag → Edits A) → Edits A
  edits_inner pl p s a k n run r (same e) rec es = []
  edits_inner pl p s a k n run r (short y v e) rec es = []
  edits_inner pl p s a k n run r (long x u e) rec es = edits_child pl p s a k n run r x u (has x r) (rec x u) (es x u)
  edits_inner pl p s a k n run r (part c x u y v i j ne) rec es =
      (inner_place k n, inner_cell (length v) (take 8 v) (refs r))
      ∷ new_leaf pl (p ++ s) a
      ∷ (inner_place pl.fork_kind pl.fork_number, inner_cell (length c) (take 8 c) (refs (pair x (leaf pl.leaf_number u a) y (inner k n v r))))
      ∷ []

  -- the writes of an insert of s below the path p
  abbrev mutual
    pub edits : Tree A → Plan → Tag → Tag → A → Edits A
    edits (leaf n rest v) pl p s a = edits_leaf pl p s a n rest v (meet s rest)
    edits (inner k n run r) pl p s a = edits_inner pl p s a k n run r (meet s run) (λ x u. grow_row r pl x u a) (λ x u. edits_row r pl (p ++ run) x u a)

    -- those of the child for x, if the row has one
    pub edits_row : Row A → Plan → Tag → ℕ → Tag → A → Edits A
    edits_row end pl q x u a = []
    edits_row (child c t r) pl q x u a = ite (ℕ_discrete x c) (edits t pl (q ++ c ∷ []) u a) (edits_row r pl q x u a)
