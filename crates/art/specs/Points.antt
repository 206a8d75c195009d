-- The point where a tag stands or would stand, found by going down a store, and the writes there of an insert, a delete and a change of what is held.
use Rattle.std.specs.Prelude.{◌≡◌, ◌≢◌, List, [], ◌∷◌, ◌++◌, ℕ, zero, suc, ◌+◌, ◌-◌, ◌<◌, length, take, drop, get_or}
use Rattle.std.proofs.Math.Logic.{ite}
use Rattle.std.proofs.Math.Option.{Option, none, some}
use Rattle.std.proofs.Math.Decide.{ℕ_discrete, dec_le}
use Rattle.art.specs.Tags.{Tag}
use Rattle.art.specs.Trees.{Tree}
use Rattle.art.specs.Changes.{Plan}
use Rattle.art.specs.Deletes.{Home}
use Rattle.art.specs.Verdicts.{Verdict, known, clash, free}
use Rattle.art.specs.Stores.{Place, cell_tag, leaf_place, inner_place, home_place, Cell, unused, leaf_cell, inner_cell, Store, Edits, empty, root, store, new_leaf}
use Rattle.art.specs.Drops.{new_home}
use Rattle.art.specs.Refs.{Refs, find_ref, add_ref, pair_ref, cut_ref, relink}

-- how many bytes two tags share from the front, which the code counts by `shared` of lists
abbrev pub shared_length : Tag → Tag → ℕ
shared_length [] t = 0
shared_length (x ∷ s) [] = 0
shared_length (x ∷ s) (y ∷ t) = ite (ℕ_discrete x y) (suc (shared_length s t)) 0

-- the record above, with the byte that leads down from it, or none at the root
pub data Up : Type 0 where
  top : Up
  via : (kind number byte : ℕ) → Up

-- where the way of a tag ends
pub data Point : Type 0 where
  -- at the leaf that holds it; its record above is up, and upper stands above that
  holds : (upper up : Up) (number : ℕ) → Point
  -- it begins a held tag, or a held tag begins it
  clashes : Point
  -- at a record that has no child for its next byte
  into : (up : Up) (kind number byte : ℕ) → Point
  -- above a place that was reached at a depth and from there agrees with so many further bytes; the leaf is the first at or below that place
  fork : (up : Up) (place : Place) (leaf depth agree : ℕ) → Point
  -- the store shows no tree
  broken : Point

-- where a plan has a new branching
abbrev pub fork_place : Plan → Place
fork_place pl = inner_place pl.fork_kind pl.fork_number

-- on to the first child of a row, if it has one
abbrev pub lowest_refs : Refs → (Place → Option ℕ) → Option ℕ
lowest_refs [] go = none
lowest_refs (e ∷ rs) go = go e.1

module _ {A : Type 0} where
  -- the row of a record's cell; any other has none
  abbrev pub cell_refs : Cell A → Refs
  cell_refs unused = []
  cell_refs (leaf_cell t a) = []
  cell_refs (inner_cell len st rs) = rs

  -- the tag that a leaf has
  abbrev pub store_tag : Store A → ℕ → Tag
  store_tag σ n = cell_tag (σ (leaf_place n))

  -- the number of the first leaf at or below a place
  abbrev pub lowest_leaf : ℕ → Store A → Place → Option ℕ
  lowest_leaf zero σ x = none
  lowest_leaf (suc f) σ (leaf_place n) = some n
  lowest_leaf (suc f) σ (inner_place k n) = lowest_refs (cell_refs (σ (inner_place k n))) (λ y. lowest_leaf f σ y)

-- ── going down ──
-- at a leaf with the tag t, reached at depth d; c further bytes agree
abbrev pub stop_leaf : (s t : Tag) (n d c : ℕ) (upper up : Up) → Point
stop_leaf s t n d c upper up =
    ite (dec_le (length s) (d + c)) (ite (dec_le (length t) (d + c)) (holds upper up n) clashes) (ite (dec_le (length t) (d + c)) clashes (fork up (leaf_place n) n d c))

-- on to the child for x, or, where there is none, the tag belongs into this record
abbrev pub step_kid : Up → (k n x : ℕ) → Option Place → (Place → Point) → Point
step_kid up k n x none go = into up k n x
step_kid up k n x (some y) go = go y

-- at an inner record, reached at depth d, with the first leaf w below; c bytes of its run agree
abbrev pub step_inner : (s : Tag) (k n len : ℕ) (rs : Refs) (w d c : ℕ) (up : Up) → (Place → ℕ → Up → Point) → Point
step_inner s k n len rs w d c up go =
    let x : ℕ = get_or s (d + len) 0 in
    ite (dec_le (length s) (d + c)) clashes
    (ite (dec_le len c) (step_kid up k n x (find_ref rs x) (λ y. go y (suc (d + len)) (via k n x))) (fork up (inner_place k n) w d c))

module _ {A : Type 0} where
  -- a leaf's tag is compared from depth d on; with any other cell the store shows no tree
  abbrev pub seek_leaf : (s : Tag) (n d : ℕ) (upper up : Up) → Cell A → Point
  seek_leaf s n d upper up unused = broken
  seek_leaf s n d upper up (leaf_cell t a) = stop_leaf s t n d (shared_length (drop d s) (drop d t)) upper up
  seek_leaf s n d upper up (inner_cell len st rs) = broken

  -- the run is read from the first leaf below
  abbrev pub seek_run : Store A → (s : Tag) (k n len : ℕ) (rs : Refs) (d : ℕ) (up : Up) → Option ℕ → (Place → ℕ → Up → Point) → Point
  seek_run σ s k n len rs d up none go = broken
  seek_run σ s k n len rs d up (some w) go = step_inner s k n len rs w d (shared_length (drop d s) (take len (drop d (store_tag σ w)))) up go

  -- a record's run is compared from depth d on; with any other cell the store shows no tree
  abbrev pub seek_inner : Store A → (s : Tag) (k n d : ℕ) (up : Up) → Cell A → Option ℕ → (Place → ℕ → Up → Point) → Point
  seek_inner σ s k n d up unused o go = broken
  seek_inner σ s k n d up (leaf_cell t a) o go = broken
  seek_inner σ s k n d up (inner_cell len st rs) o go = seek_run σ s k n len rs d up o go

  -- from a place at depth d on, with f records left, and h for the way to a first leaf; the path so far is the first d bytes of the tag
  abbrev pub seek : (h f : ℕ) → Store A → Tag → Place → ℕ → Up → Up → Point
  seek h zero σ s x d upper up = broken
  seek h (suc f) σ s (leaf_place n) d upper up = seek_leaf s n d upper up (σ (leaf_place n))
  seek h (suc f) σ s (inner_place k n) d upper up = seek_inner σ s k n d up (σ (inner_place k n)) (lowest_leaf h σ (inner_place k n)) (λ y e up'. seek h f σ s y e up up')

  -- the point of a tag in the tree at a place
  abbrev pub point : ℕ → Store A → Place → Tag → Point
  point f σ x s = seek f f σ s x 0 top top

-- what a point says of its tag
abbrev pub point_verdict : Point → Option Verdict
point_verdict (holds upper up n) = some known
point_verdict clashes = some clash
point_verdict (into up k n x) = some free
point_verdict (fork up x w d c) = some free
point_verdict broken = none

module _ {A : Type 0} where
  -- the record above is written only where its child has moved
  abbrev pub relink_up : Store A → Up → Place → Place → Edits A
  relink_up σ top old new = []
  relink_up σ (via k n b) old new = relink (inner_place k n) (σ (inner_place k n)) b old new

  -- what a leaf's cell holds; any other holds nothing
  abbrev pub cell_held : Cell A → Option A
  cell_held unused = none
  cell_held (leaf_cell t a) = some a
  cell_held (inner_cell len st rs) = none

  -- what is held for the tag of a point
  abbrev pub point_held : Store A → Point → Option A
  point_held σ (holds upper up n) = cell_held (σ (leaf_place n))
  point_held σ clashes = none
  point_held σ (into up k n x) = none
  point_held σ (fork up x w d c) = none
  point_held σ broken = none

  -- ── insert ──
  -- what is left of a run below a new branching, read from the tag t of a leaf below
  abbrev pub trim : (t : Tag) (d c : ℕ) → Cell A → Cell A
  trim t d c unused = unused
  trim t d c (leaf_cell v a) = leaf_cell v a
  trim t d c (inner_cell len st rs) = inner_cell (len - suc c) (take 8 (take (len - suc c) (drop (suc (d + c)) t))) rs

  -- what stands below a new branching: a leaf stays as it is, a record is written with the rest of its run
  abbrev pub shorten : (t : Tag) (d c : ℕ) → Place → Cell A → Edits A
  shorten t d c (leaf_place n) e = []
  shorten t d c (inner_place k n) e = (inner_place k n, trim t d c e) ∷ []

  -- a record's cell with a child more; any other stays as it is
  abbrev pub add_cell : ℕ → Place → Cell A → Cell A
  add_cell x y unused = unused
  add_cell x y (leaf_cell t a) = leaf_cell t a
  add_cell x y (inner_cell len st rs) = inner_cell len st (add_ref x y rs)

  -- the writes of a new tag at its point
  abbrev pub insert_at : Store A → Plan → Tag → A → Point → Edits A
  insert_at σ pl s a (holds upper up n) = []
  insert_at σ pl s a clashes = []
  insert_at σ pl s a (into up k n x) =
      new_leaf pl s a
      ∷ (inner_place k n, unused)
      ∷ (home_place pl k n, add_cell x (leaf_place pl.leaf_number) (σ (inner_place k n)))
      ∷ relink_up σ up (inner_place k n) (home_place pl k n)
  insert_at σ pl s a (fork up x w d c) =
      let t : Tag = store_tag σ w in
      shorten t d c x (σ x)
      ++ new_leaf pl s a
      ∷ (fork_place pl, inner_cell c (take 8 (take c (drop d s))) (pair_ref (get_or s (d + c) 0) (leaf_place pl.leaf_number) (get_or t (d + c) 0) x))
      ∷ relink_up σ up x (fork_place pl)
  insert_at σ pl s a broken = []

-- the root afterwards: another one only where the point has no record above
abbrev pub new_root : Up → Place → Place → Place
new_root top old new = new
new_root (via k n b) old new = old

-- the root after an insert: with nothing above the point, the record that took the child, or the new branching; else the old one
abbrev pub insert_root : Plan → Point → Place → Place
insert_root pl (holds upper up n) old = old
insert_root pl clashes old = old
insert_root pl (into up k n x) old = new_root up old (home_place pl k n)
insert_root pl (fork up x w d c) old = new_root up old (fork_place pl)
insert_root pl broken old = old

-- where a record is whose row has become rs: one child left stands in its place, and else it is at its home
abbrev pub settle_place : Home → ℕ → ℕ → Refs → Place
settle_place hm k n [] = inner_place k n
settle_place hm k n (e ∷ []) = e.1
settle_place hm k n (e ∷ e' ∷ rs) = new_home hm k n (length (e ∷ e' ∷ rs))

module _ {A : Type 0} where
  -- ── delete ──
  -- a record's prefix, the byte to its one child, and the child's prefix, joined: the lengths add, eight bytes stay
  abbrev pub merge : (len : ℕ) (st : List ℕ) (b : ℕ) → Cell A → Cell A
  merge len st b unused = unused
  merge len st b (leaf_cell t a) = leaf_cell t a
  merge len st b (inner_cell len' st' rs) = inner_cell (len + suc len') (take 8 (st ++ b ∷ st')) rs

  -- the one child left: a leaf stays as it is, a record is written with the joined prefix
  abbrev pub merge_into : (len : ℕ) (st : List ℕ) (b : ℕ) → Place → Cell A → Edits A
  merge_into len st b (leaf_place n) c = []
  merge_into len st b (inner_place k n) c = (inner_place k n, merge len st b c) ∷ []

  -- a record left with two children or more is freed, then written at its home; one left with one is freed, and its prefix joined to that child's
  abbrev pub settle_refs : Store A → Home → (k n len : ℕ) (st : List ℕ) → Refs → Edits A
  settle_refs σ hm k n len st [] = (inner_place k n, inner_cell len st []) ∷ []
  settle_refs σ hm k n len st (e ∷ []) = (inner_place k n, unused) ∷ merge_into len st e.0 e.1 (σ e.1)
  settle_refs σ hm k n len st (e ∷ e' ∷ rs) = (inner_place k n, unused) ∷ (new_home hm k n (length (e ∷ e' ∷ rs)), inner_cell len st (e ∷ e' ∷ rs)) ∷ []

  -- the same of a record that loses its child for b; any other cell writes nothing
  abbrev pub settle_cell : Store A → Home → (k n b : ℕ) → Cell A → Edits A
  settle_cell σ hm k n b unused = []
  settle_cell σ hm k n b (leaf_cell t a) = []
  settle_cell σ hm k n b (inner_cell len st rs) = settle_refs σ hm k n len st (cut_ref b rs)

  -- what is then found from above: the one child left, or the record at its home
  abbrev pub settled : Store A → Home → (k n b : ℕ) → Place
  settled σ hm k n b = settle_place hm k n (cut_ref b (cell_refs (σ (inner_place k n))))

  -- the writes above a leaf that is left out: its record settled, and the one above that only where its child has moved
  abbrev pub delete_under : Store A → Home → (upper up : Up) → Edits A
  delete_under σ hm upper top = []
  delete_under σ hm upper (via k n b) = settle_cell σ hm k n b (σ (inner_place k n)) ++ relink_up σ upper (inner_place k n) (settled σ hm k n b)

  -- the writes of leaving the tag of a point out
  abbrev pub delete_at : Store A → Home → Point → Edits A
  delete_at σ hm (holds upper up n) = (leaf_place n, unused) ∷ delete_under σ hm upper up
  delete_at σ hm clashes = []
  delete_at σ hm (into up k n x) = []
  delete_at σ hm (fork up x w d c) = []
  delete_at σ hm broken = []

  -- the root afterwards: none where the root leaf was left out
  abbrev pub under_root : Store A → Home → (upper up : Up) → Place → Option Place
  under_root σ hm upper top old = none
  under_root σ hm upper (via k n b) old = some (new_root upper old (settled σ hm k n b))

  -- and so by the point: a tag that is not held leaves the root as it was
  abbrev pub delete_root : Store A → Home → Point → Place → Option Place
  delete_root σ hm (holds upper up n) old = under_root σ hm upper up old
  delete_root σ hm clashes old = some old
  delete_root σ hm (into up k n x) old = some old
  delete_root σ hm (fork up x w d c) old = some old
  delete_root σ hm broken old = some old

  -- ── a change of what is held ──
  -- a leaf's cell with what it holds changed; any other stays as it is
  abbrev pub re_held : (A → A) → Cell A → Cell A
  re_held g unused = unused
  re_held g (leaf_cell t a) = leaf_cell t (g a)
  re_held g (inner_cell len st rs) = inner_cell len st rs

  -- the one write of it
  abbrev pub alter_at : Store A → (A → A) → Point → Edits A
  alter_at σ g (holds upper up n) = (leaf_place n, re_held g (σ (leaf_place n))) ∷ []
  alter_at σ g clashes = []
  alter_at σ g (into up k n x) = []
  alter_at σ g (fork up x w d c) = []
  alter_at σ g broken = []

  -- the store of a tree, or of none
  abbrev pub store_of : Option (Tree A) → Store A
  store_of none = empty
  store_of (some t) = store t []

  -- the place of its first record, if there is a tree
  abbrev pub root_of : Option (Tree A) → Option Place
  root_of none = none
  root_of (some t) = some (root t)

-- ── what a point tells of its store and its tag ──
module _ {A : Type 0} where
  -- the record at a place is an inner one of this length with this row
  pub record InnerAt (σ : Store A) (k n len : ℕ) (rs : Refs) : Type 0 where
    pub stored : List ℕ
    pub shown : σ (inner_place k n) ≡ inner_cell len stored rs

  -- the record above has the place as its child for the byte
  pub record ChildAt (σ : Store A) (k n b : ℕ) (y : Place) : Type 0 where
    pub len : ℕ
    pub rs : Refs
    pub parent : InnerAt σ k n len rs
    pub child : find_ref rs b ≡ some y

  -- the way from the record above leads to the place; at the root nothing is asked
  abbrev pub UpFits : Store A → Up → Place → Type 0
  UpFits σ top y = Unit {0}
  UpFits σ (via k n b) y = ChildAt σ k n b y

  -- the record above, in its turn below another
  abbrev pub UpperFits : Store A → (upper up : Up) → Type 0
  UpperFits σ upper top = upper ≡ top
  UpperFits σ upper (via k n b) = UpFits σ upper (inner_place k n)

  -- the leaf has the tag, and the ways down lead to it and to the record above it
  pub record HoldsFits (σ : Store A) (s : Tag) (upper up : Up) (n : ℕ) : Type 0 where
    pub held : A
    pub shown : σ (leaf_place n) ≡ leaf_cell s held
    pub above : UpFits σ up (leaf_place n)
    pub upper_above : UpperFits σ upper up

  -- the record has no child for x, which is a byte of the tag; the way down leads to the record
  pub record IntoFits (σ : Store A) (s : Tag) (up : Up) (k n x : ℕ) : Type 0 where
    pub len : ℕ
    pub rs : Refs
    pub at_record : InnerAt σ k n len rs
    pub missing : find_ref rs x ≡ none
    pub depth : ℕ
    pub inside : depth < length s
    pub byte : get_or s depth 0 ≡ x
    pub above : UpFits σ up (inner_place k n)

  -- a leaf is w itself; a record's run is longer than what agrees of it
  abbrev pub RunFits : Store A → Place → (w c : ℕ) → Type 0
  RunFits σ (leaf_place n) w c = w ≡ n
  RunFits σ (inner_place k n) w c = (len : ℕ) × (rs : Refs) × InnerAt σ k n len rs × (c < len)

  -- the tag and that of leaf w agree in d + c bytes and differ in the next; y goes on past them, and the way down leads to it
  pub record ForkFits (σ : Store A) (s : Tag) (up : Up) (y : Place) (w d c : ℕ) : Type 0 where
    pub inside : d + c < length s
    pub inside_leaf : d + c < length (store_tag σ w)
    pub agree : take (d + c) s ≡ take (d + c) (store_tag σ w)
    pub differ : get_or s (d + c) 0 ≢ get_or (store_tag σ w) (d + c) 0
    pub run : RunFits σ y w c
    pub above : UpFits σ up y

  -- what the point says of the store is so: a clash says nothing, and no store fits a broken one
  abbrev pub PointFits : Store A → Tag → Point → Type 0
  PointFits σ s (holds upper up n) = HoldsFits σ s upper up n
  PointFits σ s clashes = Unit {0}
  PointFits σ s (into up k n x) = IntoFits σ s up k n x
  PointFits σ s (fork up y w d c) = ForkFits σ s up y w d c
  PointFits σ s broken = ⊥
