-- The tree read back from a store, with the proof that the store shows it.
use Rattle.std.specs.Prelude.{◌≡◌, refl, List, [], ◌∷◌, ◌++◌, ℕ, zero, suc, length, take, drop}
use Rattle.std.proofs.Common.{sym, ap, ◌∙◌}
use Rattle.std.proofs.Math.Option.{Option, none, some}
use Rattle.std.proofs.Math.Decide.{ℕ_discrete}
use Rattle.art.specs.Tags.{Tag, Begins, begins_dec, tag_dec}
use Rattle.art.specs.Trees.{Tree, leaf, inner, Row, end, child}
use Rattle.art.specs.Stores.{Place, leaf_place, inner_place, Cell, unused, leaf_cell, inner_cell, Store, root, refs}
use Rattle.art.specs.Walks.{Shows, ShowsRow}

module _ {A : Type 0} where
  -- ── the tag of the first leaf below ──
  -- a leaf's own, or that of the first child
  abbrev pub first_cell : Cell A → (Place → Option Tag) → Option Tag
  first_cell unused go = none
  first_cell (leaf_cell t a) go = some t
  first_cell (inner_cell len st []) go = none
  first_cell (inner_cell len st (e ∷ rs)) go = go e.1

  -- with so many records left
  abbrev pub first_tag : ℕ → Store A → Place → Option Tag
  first_tag zero σ x = none
  first_tag (suc f) σ x = first_cell (σ x) (λ y. first_tag f σ y)

  -- ── what is read, with the proof that it is shown ──
  -- a tree that the store shows below p, with its root at x
  abbrev pub Seen : Store A → Tag → Place → Type 0
  Seen σ p x = (t : Tree A) × Shows t p σ × (root t ≡ x)

  -- a row that it shows below q, with these places
  abbrev pub SeenRow : Store A → Tag → List (ℕ × Place) → Type 0
  SeenRow σ q rs = (r : Row A) × ShowsRow r q σ × (refs r ≡ rs)

  -- a child and the rest of its row
  abbrev pub join_seen : (σ : Store A) (q : Tag) (b : ℕ) (y : Place) (rs : List (ℕ × Place)) → Option (Seen σ (q ++ b ∷ []) y) → Option (SeenRow σ q rs) → Option (SeenRow σ q ((b, y) ∷ rs))
  join_seen σ q b y rs none r = none
  join_seen σ q b y rs (some t) none = none
  join_seen σ q b y rs (some t) (some r) = some (child b t.0 r.0, (t.1, r.1), λ i. (b, t.2 i) ∷ r.2 i)

  -- the children of a row in turn
  abbrev pub read_refs : (σ : Store A) → ((p : Tag) (x : Place) → Option (Seen σ p x)) → (q : Tag) (rs : List (ℕ × Place)) → Option (SeenRow σ q rs)
  read_refs σ rec q [] = some (end, tt, refl)
  read_refs σ rec q (e ∷ rs) = join_seen σ q e.0 e.1 rs (rec (q ++ e.0 ∷ []) e.1) (read_refs σ rec q rs)

  -- a leaf, where its tag begins with the path
  abbrev pub read_leaf : (σ : Store A) (p : Tag) (n : ℕ) (t : Tag) (a : A) → σ (leaf_place n) ≡ leaf_cell t a → Dec (Begins p t) → Option (Seen σ p (leaf_place n))
  read_leaf σ p n t a e (yes b) = some (leaf n b.0 a, e ∙ ap (λ (z : Tag). leaf_cell z a) b.1, refl)
  read_leaf σ p n t a e (no d) = none

  -- a record, where the run has its length and its stored bytes
  abbrev pub read_inner : (σ : Store A) (p : Tag) (k n len : ℕ) (st : List ℕ) (rs : List (ℕ × Place)) → σ (inner_place k n) ≡ inner_cell len st rs → (run : Tag)
      → Dec (length run ≡ len) → Dec (take 8 run ≡ st) → Option (SeenRow σ (p ++ run) rs) → Option (Seen σ p (inner_place k n))
  read_inner σ p k n len st rs e run (yes i) (yes j) (some r) = some (inner k n run r.0, (e ∙ (λ z. inner_cell (sym i z) (sym j z) (sym r.2 z)), r.1), refl)
  read_inner σ p k n len st rs e run (yes i) (yes j) none = none
  read_inner σ p k n len st rs e run (yes i) (no j) r = none
  read_inner σ p k n len st rs e run (no i) j r = none

  -- the run is read from the first leaf below
  abbrev pub read_run : (σ : Store A) → ((p : Tag) (x : Place) → Option (Seen σ p x)) → (p : Tag) (k n len : ℕ) (st : List ℕ) (rs : List (ℕ × Place))
      → σ (inner_place k n) ≡ inner_cell len st rs → Option Tag → Option (Seen σ p (inner_place k n))
  read_run σ rec p k n len st rs e none = none
  read_run σ rec p k n len st rs e (some t) =
      let run : Tag = take len (drop (length p) t) in
      read_inner σ p k n len st rs e run (ℕ_discrete (length run) len) (tag_dec (take 8 run) st) (read_refs σ rec (p ++ run) rs)

  -- a leaf at a leaf's place, a record at a record's
  abbrev pub read_cell : (σ : Store A) → ((p : Tag) (x : Place) → Option (Seen σ p x)) → Option Tag → (p : Tag) (x : Place) (c : Cell A) → σ x ≡ c → Option (Seen σ p x)
  read_cell σ rec o p (leaf_place n) unused e = none
  read_cell σ rec o p (leaf_place n) (leaf_cell t a) e = read_leaf σ p n t a e (begins_dec p t)
  read_cell σ rec o p (leaf_place n) (inner_cell len st rs) e = none
  read_cell σ rec o p (inner_place k n) unused e = none
  read_cell σ rec o p (inner_place k n) (leaf_cell t a) e = none
  read_cell σ rec o p (inner_place k n) (inner_cell len st rs) e = read_run σ rec p k n len st rs e o

  -- with so many records left on the path
  abbrev pub read : ℕ → (σ : Store A) (p : Tag) (x : Place) → Option (Seen σ p x)
  read zero σ p x = none
  read (suc f) σ p x = read_cell σ (λ q y. read f σ q y) (first_tag (suc f) σ x) p x (σ x) refl

  -- ── what is shown is read ──
  -- the tree alone
  abbrev pub tree_of : {σ : Store A} {p : Tag} {x : Place} → Option (Seen σ p x) → Option (Tree A)
  tree_of none = none
  tree_of (some t) = some t.0

  -- the row alone
  abbrev pub row_of : {σ : Store A} {q : Tag} {rs : List (ℕ × Place)} → Option (SeenRow σ q rs) → Option (Row A)
  row_of none = none
  row_of (some r) = some r.0
