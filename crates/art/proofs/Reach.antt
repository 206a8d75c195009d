-- On a store that shows a tree, going down ends as the tag meets the runs and rests of the tree: one law for every way to end.
use mathlib.Core.Path.{◌≡◌, refl, sym, ap, ap₂, subst, ◌∙◌}
use mathlib.Core.Logic.{◌⊎◌, inl, inr, ◌≢◌, if_pos, if_neg}
use mathlib.Core.Option.{Option, none, some}
use mathlib.Core.List.{[], ◌∷◌, ◌++◌, append_assoc, append-nil, head-eq_of_cons-eq, append_cancel_left}
use Prim.Native.Nat.{ℕ, zero, suc, ◌+◌, ◌≤◌, ◌<◌}
use native.Mathlib.Decide.{ℕ_discrete, dec_le}
use native.Mathlib.Omega.{arith}
use lib.ListN.{length, take, drop, get_or, length-append}
use lib.Seq.{take-append_seam, drop-append_seam, get_or-append_seam, get_or-append-add}
use Rattle.art.specs.Tags.{Tag}
use Rattle.art.specs.Trees.{Tree, leaf, inner, Row, end, child, Good, GoodRow}
use Rattle.art.specs.Facts.{height, row_height}
use Rattle.art.specs.Drawings.{Some}
use Rattle.art.specs.Changes.{Meet, same, short, long, part, meet, Has, has}
use Rattle.art.specs.Stores.{Place, cell_tag, leaf_place, inner_place, Cell, leaf_cell, inner_cell, Store, root, refs}
use Rattle.art.specs.Walks.{Shows, ShowsRow}
use Rattle.art.specs.Refs.{find_ref}
use Rattle.art.specs.Points.{shared_length, Up, via, Point, holds, clashes, into, fork, cell_refs, store_tag, lowest_refs, lowest_leaf, stop_leaf, step_kid, step_inner, seek_leaf, seek_inner, seek}
use Rattle.art.proofs.Drawings.{many_some}
use Rattle.art.proofs.Refs.{at_kid, find_kid, find_no_kid}

-- ── how many bytes agree ──
shared_short : (s z : Tag) → shared_length s (s ++ z) ≡ length s
shared_short [] z = refl
shared_short (x ∷ s) z = if_pos (ℕ_discrete x x) refl _ _ ∙ ap suc (shared_short s z)

shared_long : (t z : Tag) → shared_length (t ++ z) t ≡ length t
shared_long [] [] = refl
shared_long [] (x ∷ z) = refl
shared_long (x ∷ t) z = if_pos (ℕ_discrete x x) refl _ _ ∙ ap suc (shared_long t z)

shared_part : (c : Tag) (x : ℕ) (u : Tag) (y : ℕ) (v : Tag) → x ≢ y → shared_length (c ++ x ∷ u) (c ++ y ∷ v) ≡ length c
shared_part [] x u y v ne = if_neg (ℕ_discrete x y) ne _ _
shared_part (z ∷ c) x u y v ne = if_pos (ℕ_discrete z z) refl _ _ ∙ ap suc (shared_part c x u y v ne)

-- the byte after the path and the run
pub next_byte : (p run : Tag) (x : ℕ) (w s : Tag) → s ≡ p ++ (run ++ x ∷ w) → get_or s (length p + length run) 0 ≡ x
next_byte p run x w s e = rw e (get_or-append-add p (run ++ x ∷ w) (length run) 0 ∙ get_or-append_seam run x w 0)

-- ── tags that do not meet as the same differ ──
-- a tag that the rest goes on past is not the rest
pub short_differs : (s t : Tag) (y : ℕ) (v : Tag) → t ≡ s ++ y ∷ v → s ≢ t
short_differs s t y v e i = omega (arith, ap length (i ∙ e), length-append s (y ∷ v))

-- nor is one that goes on past the rest
pub long_differs : (s t : Tag) (x : ℕ) (u : Tag) → s ≡ t ++ x ∷ u → s ≢ t
long_differs s t x u e i = short_differs t s x u e (sym i)

-- nor one that parts from it
pub part_differs : (s t c : Tag) (x : ℕ) (u : Tag) (y : ℕ) (v : Tag) → s ≡ c ++ x ∷ u → t ≡ c ++ y ∷ v → x ≢ y → s ≢ t
part_differs s t c x u y v e e' ne i = ne (head-eq_of_cons-eq (append_cancel_left c (x ∷ u) (y ∷ v) (sym e ∙ i ∙ e')))

module _ {A : Type 0} where
  -- ── the child for a byte ──
  pub record Kid (σ : Store A) (x : ℕ) (r : Row A) (q : Tag) : Type 1 where
    pub tree : Tree A
    pub shows : Shows tree (q ++ x ∷ []) σ
    pub good : Good tree
    pub low : height tree ≤ row_height r
    pub picks : (X : Type 0) (d : X) (F : ℕ → Tree A → X) → at_kid d F x r ≡ F x tree

  kid_of : (σ : Store A) (r : Row A) → GoodRow r → (q : Tag) → ShowsRow r q σ → (x : ℕ) → Has x r → Kid σ x r q
  kid_of σ end g q h x i = elim i [ ]
  kid_of σ (child c t r) g q h x i = go (ℕ_discrete x c) i (λ j. kid_of σ r g.2 q h.1 x j)
    where
      go : Dec (x ≡ c) → (x ≡ c) ⊎ Has x r → (Has x r → Kid σ x r q) → Kid σ x (child c t r) q
      go (yes e) j ih = record {
        tree = t;
        shows = subst (λ (b : ℕ). Shows t (q ++ b ∷ []) σ) (sym e) h.0;
        good = g.0;
        low = omega arith;
        picks = λ X d F. if_pos (ℕ_discrete x c) e (F c t) (at_kid d F x r) ∙ ap (λ (b : ℕ). F b t) (sym e);
      }
      go (no n) (inl e) ih = absurd (n e)
      go (no n) (inr j) ih =
          let k = ih j in
          record { tree = k.tree; shows = k.shows; good = k.good; low = omega (arith, k.low); picks = λ X d F. if_neg (ℕ_discrete x c) n (F c t) (at_kid d F x r) ∙ k.picks X d F }

  -- ── the ways to end: in the tree at the path p, with the rest u of the tag p ++ u ──
  pub data Reach (σ : Store A) : Tree A → Tag → Tag → Up → Up → Point → Type 1 where
    held_leaf : {n : ℕ} {rest : Tag} {v : A} {p u : Tag} {upper up : Up} (e : u ≡ rest) → meet u rest ≡ same e → σ (leaf_place n) ≡ leaf_cell (p ++ rest) v → Reach σ (leaf n rest v) p u upper up (holds upper up n)
    short_leaf : {n : ℕ} {rest : Tag} {v : A} {p u : Tag} {upper up : Up} (y : ℕ) (w : Tag) (e : rest ≡ u ++ y ∷ w) → meet u rest ≡ short y w e → Reach σ (leaf n rest v) p u upper up clashes
    long_leaf : {n : ℕ} {rest : Tag} {v : A} {p u : Tag} {upper up : Up} (x : ℕ) (w : Tag) (e : u ≡ rest ++ x ∷ w) → meet u rest ≡ long x w e → Reach σ (leaf n rest v) p u upper up clashes
    part_leaf : {n : ℕ} {rest : Tag} {v : A} {p u : Tag} {upper up : Up} (c : Tag) (x : ℕ) (i : Tag) (y : ℕ) (j : Tag) (e : u ≡ c ++ x ∷ i) (e' : rest ≡ c ++ y ∷ j) (ne : x ≢ y) → meet u rest ≡ part c x i y j e e' ne
        → σ (leaf_place n) ≡ leaf_cell (p ++ rest) v → Reach σ (leaf n rest v) p u upper up (fork up (leaf_place n) n (length p) (length c))
    same_run : {k n : ℕ} {run : Tag} {r : Row A} {p u : Tag} {upper up : Up} (e : u ≡ run) → meet u run ≡ same e → Reach σ (inner k n run r) p u upper up clashes
    short_run : {k n : ℕ} {run : Tag} {r : Row A} {p u : Tag} {upper up : Up} (y : ℕ) (w : Tag) (e : run ≡ u ++ y ∷ w) → meet u run ≡ short y w e → Reach σ (inner k n run r) p u upper up clashes
    part_run : {k n : ℕ} {run : Tag} {r : Row A} {p u : Tag} {upper up : Up} (c : Tag) (x : ℕ) (i : Tag) (y : ℕ) (j : Tag) (e : u ≡ c ++ x ∷ i) (e' : run ≡ c ++ y ∷ j) (ne : x ≢ y) → meet u run ≡ part c x i y j e e' ne
        → σ (inner_place k n) ≡ inner_cell (length run) (take 8 run) (refs r) → (w : ℕ) (z : Tag) → store_tag σ w ≡ p ++ (run ++ z) → Reach σ (inner k n run r) p u upper up (fork up (inner_place k n) w (length p) (length c))
    no_kid : {k n : ℕ} {run : Tag} {r : Row A} {p u : Tag} {upper up : Up} (x : ℕ) (w : Tag) (e : u ≡ run ++ x ∷ w) → meet u run ≡ long x w e → (nh : ¬ Has x r) → has x r ≡ no nh
        → σ (inner_place k n) ≡ inner_cell (length run) (take 8 run) (refs r) → Reach σ (inner k n run r) p u upper up (into up k n x)
    a_kid : {k n : ℕ} {run : Tag} {r : Row A} {p u : Tag} {upper up : Up} {pt : Point} (x : ℕ) (w : Tag) (e : u ≡ run ++ x ∷ w) → meet u run ≡ long x w e → (h : Has x r) → has x r ≡ yes h
        → σ (inner_place k n) ≡ inner_cell (length run) (take 8 run) (refs r) → ShowsRow r (p ++ run) σ → (kid : Kid σ x r (p ++ run)) → Reach σ kid.tree (p ++ run ++ x ∷ []) w up (via k n x) pt → Reach σ (inner k n run r) p u upper up pt

  -- ── the first leaf below ──
  mutual
    least_shown : (t : Tree A) → Good t → (p : Tag) (σ : Store A) → Shows t p σ → (f : ℕ) → height t < f → (w : ℕ) × (z : Tag) × (lowest_leaf f σ (root t) ≡ some w) × (store_tag σ w ≡ p ++ z)
    least_shown (leaf n s a) g p σ h zero l = absurd (omega arith)
    least_shown (leaf n s a) g p σ h (suc f) l = (n, s, refl, ap cell_tag h)
    least_shown (inner k n run r) g p σ h zero l = absurd (omega arith)
    least_shown (inner k n run r) g p σ h (suc f) l =
        let w = least_row_shown r g.1 (many_some r g.0) (p ++ run) σ h.1 f (omega arith) in
        (w.0, run ++ w.1, ap (λ (c : Cell A). lowest_refs (cell_refs c) (λ y. lowest_leaf f σ y)) h.0 ∙ w.2, w.3 ∙ append_assoc p run w.1)

    least_row_shown : (r : Row A) → GoodRow r → Some r → (q : Tag) (σ : Store A) → ShowsRow r q σ → (f : ℕ) → row_height r < f → (w : ℕ) × (z : Tag) × (lowest_refs (refs r) (λ y. lowest_leaf f σ y) ≡ some w) × (store_tag σ w ≡ q ++ z)
    least_row_shown end g so q σ h f l = elim so [ ]
    least_row_shown (child b t r) g so q σ h f l =
        let w = least_shown t g.0 (q ++ b ∷ []) σ h.0 f (omega arith) in
        (w.0, b ∷ w.1, w.2, w.3 ∙ append_assoc q (b ∷ []) w.1)

  -- it has the record's whole run
  least_inner_shown : (k n : ℕ) (run : Tag) (r : Row A) → Good (inner k n run r) → (p : Tag) (σ : Store A) → Shows (inner k n run r) p σ → (f : ℕ) → height (inner k n run r) < f
      → (w : ℕ) × (z : Tag) × (lowest_leaf f σ (inner_place k n) ≡ some w) × (store_tag σ w ≡ p ++ (run ++ z))
  least_inner_shown k n run r g p σ h zero l = absurd (omega arith)
  least_inner_shown k n run r g p σ h (suc f) l =
      let w = least_row_shown r g.1 (many_some r g.0) (p ++ run) σ h.1 f (omega arith) in
      (w.0, w.1, ap (λ (c : Cell A). lowest_refs (cell_refs c) (λ y. lowest_leaf f σ y)) h.0 ∙ w.2, w.3 ∙ append_assoc p run w.1)

  -- ── at a leaf ──
  leaf_reach : (σ : Store A) (n : ℕ) (rest : Tag) (v : A) (p u s : Tag) (upper up : Up) → s ≡ p ++ u → σ (leaf_place n) ≡ leaf_cell (p ++ rest) v → (m : Meet u rest) → meet u rest ≡ m
      → Reach σ (leaf n rest v) p u upper up (stop_leaf s (p ++ rest) n (length p) (shared_length u rest) upper up)
  leaf_reach σ n rest v p u s upper up es h m em = go m em
    where
      Ends : Point → Type 1
      Ends pt = Reach σ (leaf n rest v) p u upper up pt

      c : ℕ
      c = shared_length u rest

      ls : length s ≡ length p + length u
      ls = ap length es ∙ length-append p u

      lt : length (p ++ rest) ≡ length p + length rest
      lt = length-append p rest

      go : (m : Meet u rest) → meet u rest ≡ m → Ends (stop_leaf s (p ++ rest) n (length p) c upper up)
      go (same e) em =
          let a : c ≡ length u = ap (shared_length u) (sym e ∙ sym (append-nil u)) ∙ shared_short u [] in
          let b : length u ≡ length rest = ap length e in
          subst Ends (sym (if_pos (dec_le (length s) (length p + c)) (omega (arith, ls, lt)) _ _ ∙ if_pos (dec_le (length (p ++ rest)) (length p + c)) (omega (arith, ls, lt)) _ _)) (held_leaf e em h)
      go (short y w e) em =
          let a : c ≡ length u = ap (shared_length u) e ∙ shared_short u (y ∷ w) in
          let b : length rest ≡ length u + suc (length w) = ap length e ∙ length-append u (y ∷ w) in
          subst Ends (sym (if_pos (dec_le (length s) (length p + c)) (omega (arith, ls, lt)) _ _ ∙ if_neg (dec_le (length (p ++ rest)) (length p + c)) (omega (arith, ls, lt)) _ _)) (short_leaf y w e em)
      go (long x w e) em =
          let a : c ≡ length rest = ap (λ (z : Tag). shared_length z rest) e ∙ shared_long rest (x ∷ w) in
          let b : length u ≡ length rest + suc (length w) = ap length e ∙ length-append rest (x ∷ w) in
          subst Ends (sym (if_neg (dec_le (length s) (length p + c)) (omega (arith, ls, lt)) _ _ ∙ if_pos (dec_le (length (p ++ rest)) (length p + c)) (omega (arith, ls, lt)) _ _)) (long_leaf x w e em)
      go (part k x i y j e e' ne) em =
          let a : c ≡ length k = ap₂ shared_length e e' ∙ shared_part k x i y j ne in
          let b : length u ≡ length k + suc (length i) = ap length e ∙ length-append k (x ∷ i) in
          let b' : length rest ≡ length k + suc (length j) = ap length e' ∙ length-append k (y ∷ j) in
          subst Ends
          (sym (if_neg (dec_le (length s) (length p + c)) (omega (arith, ls, lt)) _ _ ∙ if_neg (dec_le (length (p ++ rest)) (length p + c)) (omega (arith, ls, lt)) _ _ ∙ ap (fork up (leaf_place n) n (length p)) a))
          (part_leaf k x i y j e e' ne em h)

  -- ── at an inner record ──
  inner_reach : (σ : Store A) (k n : ℕ) (run : Tag) (r : Row A) → GoodRow r → (p u s : Tag) (upper up : Up) → s ≡ p ++ u → σ (inner_place k n) ≡ inner_cell (length run) (take 8 run) (refs r) → ShowsRow r (p ++ run) σ
      → (w : ℕ) (z : Tag) → store_tag σ w ≡ p ++ (run ++ z) → (go : Place → ℕ → Up → Point)
      → ((x : ℕ) (v : Tag) (kid : Kid σ x r (p ++ run)) → s ≡ p ++ run ++ x ∷ [] ++ v → Reach σ kid.tree (p ++ run ++ x ∷ []) v up (via k n x) (go (root kid.tree) (length (p ++ run ++ x ∷ [])) (via k n x)))
      → (m : Meet u run) → meet u run ≡ m → Reach σ (inner k n run r) p u upper up (step_inner s k n (length run) (refs r) w (length p) (shared_length u run) up go)
  inner_reach σ k n run r g p u s upper up es h hr w z ew down ih m em = go m em
    where
      Ends : Point → Type 1
      Ends pt = Reach σ (inner k n run r) p u upper up pt

      c : ℕ
      c = shared_length u run

      d : ℕ
      d = length p

      ls : length s ≡ length p + length u
      ls = ap length es ∙ length-append p u

      kids : (x : ℕ) → Point
      kids x = step_kid up k n x (find_ref (refs r) x) (λ y. down y (suc (d + length run)) (via k n x))

      byte : (x : ℕ) (v : Tag) → u ≡ run ++ x ∷ v → get_or s (d + length run) 0 ≡ x
      byte x v e = next_byte p run x v s (es ∙ ap (λ (t : Tag). p ++ t) e)

      longer : (x : ℕ) (v : Tag) (e : u ≡ run ++ x ∷ v) → meet u run ≡ long x v e → (b : Dec (Has x r)) → has x r ≡ b → Ends (kids x)
      longer x v e em (no nh) eh = subst Ends (sym (ap (λ (o : Option Place). step_kid up k n x o (λ y. down y (suc (d + length run)) (via k n x))) (find_no_kid x r nh))) (no_kid x v e em nh eh h)
      longer x v e em (yes i) eh =
          let kd = kid_of σ r g (p ++ run) hr x i in
          let deep : length (p ++ run ++ x ∷ []) ≡ suc (d + length run) = omega (arith, length-append (p ++ run) (x ∷ []), length-append p run) in
          let path : s ≡ p ++ run ++ x ∷ [] ++ v = es ∙ ap (λ (t : Tag). p ++ t) e ∙ simp append_assoc in
          subst Ends
          (sym (ap (λ (o : Option Place). step_kid up k n x o (λ y. down y (suc (d + length run)) (via k n x))) (find_kid x r ∙ kd.picks (Option Place) none (λ b t. some (root t))) ∙ ap (λ (l : ℕ). down (root kd.tree) l (via k n x)) (sym deep)))
          (a_kid x v e em i eh h hr kd (ih x v kd path))

      go : (m : Meet u run) → meet u run ≡ m → Ends (step_inner s k n (length run) (refs r) w d c up down)
      go (same e) em =
          let a : c ≡ length u = ap (shared_length u) (sym e ∙ sym (append-nil u)) ∙ shared_short u [] in
          subst Ends (sym (if_pos (dec_le (length s) (d + c)) (omega (arith, ls)) _ _)) (same_run e em)
      go (short y v e) em =
          let a : c ≡ length u = ap (shared_length u) e ∙ shared_short u (y ∷ v) in
          subst Ends (sym (if_pos (dec_le (length s) (d + c)) (omega (arith, ls)) _ _)) (short_run y v e em)
      go (long x v e) em =
          let a : c ≡ length run = ap (λ (t : Tag). shared_length t run) e ∙ shared_long run (x ∷ v) in
          let b : length u ≡ length run + suc (length v) = ap length e ∙ length-append run (x ∷ v) in
          subst Ends
          (sym (if_neg (dec_le (length s) (d + c)) (omega (arith, ls)) _ _ ∙ if_pos (dec_le (length run) c) (omega arith) _ _ ∙ ap kids (byte x v e)))
          (longer x v e em (has x r) refl)
      go (part q x i y j e e' ne) em =
          let a : c ≡ length q = ap₂ shared_length e e' ∙ shared_part q x i y j ne in
          let b : length u ≡ length q + suc (length i) = ap length e ∙ length-append q (x ∷ i) in
          let b' : length run ≡ length q + suc (length j) = ap length e' ∙ length-append q (y ∷ j) in
          subst Ends
          (sym (if_neg (dec_le (length s) (d + c)) (omega (arith, ls)) _ _ ∙ if_neg (dec_le (length run) c) (omega arith) _ _ ∙ ap (fork up (inner_place k n) w d) a))
          (part_run q x i y j e e' ne em h w z ew)

  -- going down from the root of a shown tree ends in one of the ways, and never finds the store broken
  pub seek_reaches : (m f : ℕ) (σ : Store A) (t : Tree A) → Good t → (p u s : Tag) → s ≡ p ++ u → Shows t p σ → height t < m → height t < f → (upper up : Up) → Reach σ t p u upper up (seek m f σ s (root t) (length p) upper up)
  seek_reaches m zero σ (leaf n rest v) g p u s es h lm l upper up = absurd (omega arith)
  seek_reaches m zero σ (inner k n run r) g p u s es h lm l upper up = absurd (omega arith)
  seek_reaches m (suc f) σ (leaf n rest v) g p u s es h lm l upper up =
      let at : Point → Type 1 = λ pt. Reach σ (leaf n rest v) p u upper up pt in
      let a : drop (length p) s ≡ u = ap (drop (length p)) es ∙ drop-append_seam p u in
      let b : drop (length p) (p ++ rest) ≡ rest = drop-append_seam p rest in
      subst at
      (sym (ap (seek_leaf s n (length p) upper up) h ∙ ap₂ (λ (i j : Tag). stop_leaf s (p ++ rest) n (length p) (shared_length i j) upper up) a b))
      (leaf_reach σ n rest v p u s upper up es h (meet u rest) refl)
  seek_reaches m (suc f) σ (inner k n run r) g p u s es h lm l upper up =
      let at : Point → Type 1 = λ pt. Reach σ (inner k n run r) p u upper up pt in
      let go : Place → ℕ → Up → Point = λ y e up'. seek m f σ s y e up up' in
      let w = least_inner_shown k n run r g p σ h m lm in
      let a : drop (length p) s ≡ u = ap (drop (length p)) es ∙ drop-append_seam p u in
      let b : take (length run) (drop (length p) (store_tag σ w.0)) ≡ run = ap (λ (z : Tag). take (length run) (drop (length p) z)) w.3 ∙ ap (take (length run)) (drop-append_seam p (run ++ w.1)) ∙ take-append_seam run w.1 in
      subst at
      (sym (ap₂ (λ (c : Cell A) (x : Option ℕ). seek_inner σ s k n (length p) up c x go) h.0 w.2 ∙ ap₂ (λ (i j : Tag). step_inner s k n (length run) (refs r) w.0 (length p) (shared_length i j) up go) a b))
      (inner_reach σ k n run r g.1 p u s upper up es h.0 h.1 w.0 w.1 w.3 go
      (λ x v kid e. seek_reaches m f σ kid.tree kid.good (p ++ run ++ x ∷ []) v s e kid.shows (omega (arith, kid.low)) (omega (arith, kid.low)) up (via k n x)) (meet u run) refl)
