-- A good tree that a store shows is the tree that is read back from it, so that a store shows one tree at most.
use mathlib.Core.Path.{◌≡◌, refl, sym, ap, ap₂, ◌∙◌}
use mathlib.Core.Option.{Option, none, some}
use mathlib.Core.List.{List, [], ◌∷◌, ◌++◌, append_assoc, append_cancel_left}
use Prim.Native.Nat.{ℕ, zero, suc, ◌<◌, max}
use native.Mathlib.Decide.{ℕ_discrete}
use native.Mathlib.Omega.{arith}
use lib.ListN.{length, take, drop}
use lib.Seq.{take-append_seam, drop-append_seam}
use Rattle.art.specs.Tags.{Tag, Begins, begins_dec, tag_dec}
use Rattle.art.specs.Trees.{Tree, leaf, inner, Row, end, child, Good, GoodRow}
use Rattle.art.proofs.Drawings.{many_some}
use Rattle.art.specs.Drawings.{Some}
use Rattle.art.specs.Facts.{height, row_height}
use Rattle.art.specs.Stores.{Place, leaf_place, inner_place, Cell, unused, leaf_cell, inner_cell, Store, root, refs}
use Rattle.art.specs.Walks.{Shows, ShowsRow}
use Rattle.art.specs.ReadBack.{first_cell, first_tag, Seen, SeenRow, join_seen, read_refs, read_leaf, read_inner, read_cell, read, tree_of, row_of}

-- what two equal options hold is equal
pub some_inj : {X : Type 0} {x y : X} → some x ≡ some y → x ≡ y
some_inj e = cc

run_read : (p run z t : Tag) (len : ℕ) → t ≡ p ++ (run ++ z) → len ≡ length run → take len (drop (length p) t) ≡ run
run_read p run z t len e i = rw (e, i, drop-append_seam p (run ++ z)) (take-append_seam run z)

module _ {A : Type 0} where
  mutual
    -- the first tag below a shown tree begins with its path
    pub first_shown : (t : Tree A) → Good t → (p : Tag) (σ : Store A) → Shows t p σ → (f : ℕ) → height t < f → (z : Tag) × (first_tag f σ (root t) ≡ some (p ++ z))
    first_shown (leaf n s a) g p σ h zero l = absurd (omega arith)
    first_shown (leaf n s a) g p σ h (suc f) l = (s, ap (λ (c : Cell A). first_cell c (λ y. first_tag f σ y)) h)
    first_shown (inner k n run r) g p σ h zero l = absurd (omega arith)
    first_shown (inner k n run r) g p σ h (suc f) l =
        let w = first_row_shown r g.1 (many_some r g.0) (p ++ run) σ h.1 f (omega arith) (length run) (take 8 run) in
        (run ++ w.0, ap (λ (c : Cell A). first_cell c (λ y. first_tag f σ y)) h.0 ∙ w.1 ∙ ap some (append_assoc p run w.0))

    -- and so for a row
    pub first_row_shown : (r : Row A) → GoodRow r → Some r → (q : Tag) (σ : Store A) → ShowsRow r q σ → (f : ℕ) → row_height r < f → (len : ℕ) (st : List ℕ)
        → (z : Tag) × (first_cell {A = A} (inner_cell len st (refs r)) (λ y. first_tag f σ y) ≡ some (q ++ z))
    first_row_shown end g so q σ h f l len st = elim so [ ]
    first_row_shown (child b t r) g so q σ h f l len st =
        let w = first_shown t g.0 (q ++ b ∷ []) σ h.0 f (omega arith) in
        (b ∷ w.0, w.1 ∙ ap some (append_assoc q (b ∷ []) w.0))

  leaf_read : (σ : Store A) (p : Tag) (n : ℕ) (s : Tag) (a : A) (t : Tag) (b : A) (e : σ (leaf_place n) ≡ leaf_cell t b) (d : Dec (Begins p t)) → t ≡ p ++ s → b ≡ a
      → tree_of (read_leaf σ p n t b e d) ≡ some (leaf n s a)
  leaf_read σ p n s a t b e (yes z) i j = ap₂ (λ (u : Tag) (c : A). some (leaf n u c)) (append_cancel_left p z.0 s (sym z.1 ∙ i)) j
  leaf_read σ p n s a t b e (no m) i j = absurd (m (s, i))

  inner_read : (σ : Store A) (p : Tag) (k n len : ℕ) (st : List ℕ) (rs : List (ℕ × Place)) (e : σ (inner_place k n) ≡ inner_cell len st rs) (run run' : Tag) (r : Row A)
      → (d : Dec (length run' ≡ len)) (d' : Dec (take 8 run' ≡ st)) (o : Option (SeenRow σ (p ++ run') rs)) → run' ≡ run → length run ≡ len → take 8 run ≡ st → row_of o ≡ some r
      → tree_of (read_inner σ p k n len st rs e run' d d' o) ≡ some (inner k n run r)
  inner_read σ p k n len st rs e run run' r (yes i) (yes j) (some w) u a b h = ap₂ (λ (q : Tag) (y : Row A). some (inner k n q y)) u (some_inj h)
  inner_read σ p k n len st rs e run run' r (yes i) (yes j) none u a b h = let z : ◌≡◌ {A = ℕ} 0 1 = cc in absurd (omega arith)
  inner_read σ p k n len st rs e run run' r (yes i) (no j) o u a b h = absurd (j (ap (take 8) u ∙ b))
  inner_read σ p k n len st rs e run run' r (no i) d' o u a b h = absurd (i (ap length u ∙ a))

  join_read : (σ : Store A) (q : Tag) (b : ℕ) (y : Place) (rs : List (ℕ × Place)) (o : Option (Seen σ (q ++ b ∷ []) y)) (w : Option (SeenRow σ q rs)) (t : Tree A) (r : Row A)
      → tree_of o ≡ some t → row_of w ≡ some r
      → row_of (join_seen σ q b y rs o w) ≡ some (child b t r)
  join_read σ q b y rs none w t r h k = let z : ◌≡◌ {A = ℕ} 0 1 = cc in absurd (omega arith)
  join_read σ q b y rs (some u) none t r h k = let z : ◌≡◌ {A = ℕ} 0 1 = cc in absurd (omega arith)
  join_read σ q b y rs (some u) (some v) t r h k = ap₂ (λ (x : Tree A) (z : Row A). some (child b x z)) (some_inj h) (some_inj k)

  leaf_cell_read : (σ : Store A) (rec : (p : Tag) (x : Place) → Option (Seen σ p x)) (o : Option Tag) (p : Tag) (n : ℕ) (s : Tag) (a : A) (c : Cell A) (e : σ (leaf_place n) ≡ c)
      → c ≡ leaf_cell (p ++ s) a
      → tree_of (read_cell σ rec o p (leaf_place n) c e) ≡ some (leaf n s a)
  leaf_cell_read σ rec o p n s a unused e h = let z : ◌≡◌ {A = ℕ} 0 1 = cc in absurd (omega arith)
  leaf_cell_read σ rec o p n s a (leaf_cell t b) e h = leaf_read σ p n s a t b e (begins_dec p t) (cc) (cc)
  leaf_cell_read σ rec o p n s a (inner_cell len st rs) e h = let z : ◌≡◌ {A = ℕ} 0 1 = cc in absurd (omega arith)

  inner_cell_read : (σ : Store A) (rec : (p : Tag) (x : Place) → Option (Seen σ p x)) (o : Option Tag) (p : Tag) (k n : ℕ) (run z : Tag) (r : Row A) (c : Cell A) (e : σ (inner_place k n) ≡ c)
      → c ≡ inner_cell (length run) (take 8 run) (refs r) → o ≡ some (p ++ (run ++ z)) → row_of (read_refs σ rec (p ++ run) (refs r)) ≡ some r
      → tree_of (read_cell σ rec o p (inner_place k n) c e) ≡ some (inner k n run r)
  inner_cell_read σ rec o p k n run z r unused e h w ih = let z : ◌≡◌ {A = ℕ} 0 1 = cc in absurd (omega arith)
  inner_cell_read σ rec o p k n run z r (leaf_cell t a) e h w ih = let z : ◌≡◌ {A = ℕ} 0 1 = cc in absurd (omega arith)
  inner_cell_read σ rec none p k n run z r (inner_cell len st rs) e h w ih = let z : ◌≡◌ {A = ℕ} 0 1 = cc in absurd (omega arith)
  inner_cell_read σ rec (some t) p k n run z r (inner_cell len st rs) e h w ih =
      let a : len ≡ length run = cc in
      let b : st ≡ take 8 run = cc in
      let c : rs ≡ refs r = cc in
      let run' : Tag = take len (drop (length p) t) in
      let u : run' ≡ run = run_read p run z t len (some_inj w) a in
      inner_read σ p k n len st rs e run run' r (ℕ_discrete (length run') len) (tag_dec (take 8 run') st) (read_refs σ rec (p ++ run') rs) u (sym a) (sym b)
      (ap₂ (λ (q : Tag) (l : List (ℕ × Place)). row_of (read_refs σ rec (p ++ q) l)) u c ∙ ih)

  mutual
    -- the tree that a store shows is the one read, with more records left than it is high
    pub read_shown : (t : Tree A) → Good t → (p : Tag) (σ : Store A) → Shows t p σ → (f : ℕ) → height t < f → tree_of (read f σ p (root t)) ≡ some t
    read_shown (leaf n s a) g p σ h zero l = absurd (omega arith)
    read_shown (leaf n s a) g p σ h (suc f) l = leaf_cell_read σ (λ q y. read f σ q y) (first_tag (suc f) σ (leaf_place n)) p n s a (σ (leaf_place n)) refl h
    read_shown (inner k n run r) g p σ h zero l = absurd (omega arith)
    read_shown (inner k n run r) g p σ h (suc f) l =
        let w = first_row_shown r g.1 (many_some r g.0) (p ++ run) σ h.1 f (omega arith) (length run) (take 8 run) in
        let o : first_tag (suc f) σ (inner_place k n) ≡ some (p ++ (run ++ w.0)) = ap (λ (c : Cell A). first_cell c (λ y. first_tag f σ y)) h.0 ∙ w.1 ∙ ap some (append_assoc p run w.0) in
        inner_cell_read σ (λ q y. read f σ q y) (first_tag (suc f) σ (inner_place k n)) p k n run w.0 r (σ (inner_place k n)) refl h.0 o (read_row_shown r g.1 (p ++ run) σ h.1 f (omega arith))

    -- and so for a row
    pub read_row_shown : (r : Row A) → GoodRow r → (q : Tag) (σ : Store A) → ShowsRow r q σ → (f : ℕ) → row_height r < f → row_of (read_refs σ (λ p y. read f σ p y) q (refs r)) ≡ some r
    read_row_shown end g q σ h f l = refl
    read_row_shown (child b t r) g q σ h f l =
        join_read σ q b (root t) (refs r) (read f σ (q ++ b ∷ []) (root t)) (read_refs σ (λ p y. read f σ p y) q (refs r)) t r
        (read_shown t g.0 (q ++ b ∷ []) σ h.0 f (omega arith)) (read_row_shown r g.2 q σ h.1 f (omega arith))

  -- a store shows one tree at most
  pub shown_once : (t u : Tree A) → Good t → Good u → (p : Tag) (σ : Store A) → Shows t p σ → Shows u p σ → root t ≡ root u → t ≡ u
  shown_once t u g h p σ a b e =
      let f : ℕ = suc (max (height t) (height u)) in
      some_inj (sym (read_shown t g p σ a f (omega arith)) ∙ ap (λ (x : Place). tree_of (read f σ p x)) e ∙ read_shown u h p σ b f (omega arith))
