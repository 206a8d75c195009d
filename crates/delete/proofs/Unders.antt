-- The way down to a held leaf has passed the record above it and the record above that, so what stands at each is known, and so is each child that the record keeps.
use mathlib.Core.Path.{◌≡◌, refl, sym, ap, subst, ◌∙◌}
use mathlib.Core.Logic.{ite, if_pos, if_neg}
use mathlib.Core.Option.{Option, none, some}
use mathlib.Core.List.{[], ◌∷◌, ◌++◌, head-eq_of_cons-eq}
use Prim.Native.Nat.{ℕ, ◌+◌, ◌≤◌, ◌<◌}
use native.Mathlib.Decide.{ℕ_discrete}
use native.Mathlib.Omega.{arith}
use lib.ListN.{length, take, length-append}
use Rattle.art.specs.Tags.{Tag}
use Rattle.art.specs.Trees.{Tree, leaf, inner, Row, end, child, Good, GoodRow, Above, Many, count}
use Rattle.art.specs.Facts.{height}
use Rattle.art.specs.Stores.{Place, leaf_place, inner_place, leaf_cell, inner_cell, Store, root, refs, store, Once}
use Rattle.art.specs.Walks.{Shows, ShowsRow}
use Rattle.art.specs.Refs.{Refs, find_ref, cut_ref}
use Rattle.art.specs.Points.{Up, top, via, Point, holds, clashes, into, fork, broken, point, UpFits}
use Rattle.art.proofs.Walks.{store_shows}
use Rattle.art.proofs.Refs.{find_kid}
use Rattle.art.proofs.Reach.{Reach, held_leaf, short_leaf, long_leaf, part_leaf, same_run, short_run, part_run, no_kid, a_kid, seek_reaches}

module _ {A : Type 0} where
  -- the record (k, n), below upper in the tree whose root is at o, with the place y as its child for b: its path, run and row, and what the store has of them
  pub record Under (σ : Store A) (o : Place) (upper : Up) (k n b : ℕ) (y : Place) : Type 0 where
    pub path : Tag
    pub run : Tag
    pub row : Row A
    pub many : Many row
    pub good : GoodRow row
    pub shown : σ (inner_place k n) ≡ inner_cell (length run) (take 8 run) (refs row)
    pub shows : ShowsRow row (path ++ run) σ
    pub child_is : find_ref (refs row) b ≡ some y
    pub above : UpFits σ upper (inner_place k n)
    pub at_top : upper ≡ top → o ≡ inner_place k n

  abbrev pub UpUnder : Store A → Place → (upper up : Up) → Place → Type 0
  UpUnder σ o upper top y = upper ≡ top
  UpUnder σ o upper (via k n b) y = Under σ o upper k n b y

  abbrev pub PointUnder : Store A → Place → Point → Type 0
  PointUnder σ o (holds upper up m) = UpUnder σ o upper up (leaf_place m)
  PointUnder σ o clashes = Unit {0}
  PointUnder σ o (into up k n x) = Unit {0}
  PointUnder σ o (fork up y w d c) = Unit {0}
  PointUnder σ o broken = Unit {0}

  -- ── the way down ──
  module _ (σ : Store A) (y : Place) where
    reach_under : {t : Tree A} {p u : Tag} {upper up : Up} {pt : Point} → Reach σ t p u upper up pt → Good t → UpFits σ up (root t) → (up ≡ top → y ≡ root t) → UpUnder σ y upper up (root t)
        → PointUnder σ y pt
    reach_under (held_leaf e em h) g f a d = d
    reach_under (short_leaf z v e em) g f a d = tt
    reach_under (long_leaf x v e em) g f a d = tt
    reach_under (part_leaf c x i z j e e' ne em h) g f a d = tt
    reach_under (same_run e em) g f a d = tt
    reach_under (short_run z v e em) g f a d = tt
    reach_under (part_run c x i z j e e' ne em h v q ew) g f a d = tt
    reach_under (no_kid x v e em nh eh h) g f a d = tt
    reach_under (a_kid {k} {n} {run} {r} {p} {u} {upper} {up} x v e em i eh h hr kid b) g f a d =
        let found : find_ref (refs r) x ≡ some (root kid.tree) = find_kid x r ∙ kid.picks (Option Place) none (λ c t. some (root t)) in
        reach_under b kid.good (record { len = length run; rs = refs r; parent = record { stored = take 8 run; shown = h }; child = found }) (λ q. let z : ◌≡◌ {A = ℕ} 0 1 = cc in absurd (omega arith))
        (record { path = p; run = run; row = r; many = g.0; good = g.1; shown = h; shows = hr; child_is = found; above = f; at_top = a })

  -- the point of a held tag, in the store of a tree
  pub point_under : (f : ℕ) (t : Tree A) → Good t → Once t [] → height t < f → (s : Tag) → PointUnder (store t []) (root t) (point f (store t []) (root t) s)
  point_under f t g o l s = reach_under (store t []) (root t) (seek_reaches f f (store t []) t g [] s s refl (store_shows t [] o) l l top top) g tt (λ q. refl) refl

  -- ── a child that is left ──
  -- the child of a row for c is at y
  pub record Left (σ : Store A) (r : Row A) (q : Tag) (c : ℕ) (y : Place) : Type 0 where
    pub tree : Tree A
    pub good : Good tree
    pub shows : Shows tree (q ++ c ∷ []) σ
    pub root_is : root tree ≡ y
    pub found : find_ref (refs r) c ≡ some y

  -- the first in a row, and the first in a row without a child
  first_left : (σ : Store A) (r : Row A) (q : Tag) → GoodRow r → ShowsRow r q σ → (c : ℕ) (y : Place) (rs : Refs) → refs r ≡ (c, y) ∷ rs → Left σ r q c y
  first_left σ end q g h c y rs e = absurd (let z : ◌≡◌ {A = ℕ} 0 1 = cc in omega arith)
  first_left σ (child b t r) q g h c y rs e =
      let byte : b ≡ c = ap (λ (x : ℕ × Place). x.0) (head-eq_of_cons-eq e) in
      let at : root t ≡ y = ap (λ (x : ℕ × Place). x.1) (head-eq_of_cons-eq e) in
      record {
        tree = t;
        good = g.0;
        shows = subst (λ (x : ℕ). Shows t (q ++ x ∷ []) σ) byte h.0;
        root_is = at;
        found = if_pos (ℕ_discrete c b) (sym byte) _ _ ∙ ap some at;
      }

  first_above : (b : ℕ) (r : Row A) (c : ℕ) (y : Place) (rs : Refs) → Above b r → refs r ≡ (c, y) ∷ rs → b < c
  first_above b end c y rs h e = absurd (let z : ◌≡◌ {A = ℕ} 0 1 = cc in omega arith)
  first_above b (child x t r) c y rs h e = let byte : x ≡ c = ap (λ (z : ℕ × Place). z.0) (head-eq_of_cons-eq e) in omega arith

  pub cut_left : (σ : Store A) (x : ℕ) (r : Row A) (q : Tag) → GoodRow r → ShowsRow r q σ → (c : ℕ) (y : Place) (rs : Refs) → cut_ref x (refs r) ≡ (c, y) ∷ rs → Left σ r q c y
  cut_left σ x end q g h c y rs e = absurd (let z : ◌≡◌ {A = ℕ} 0 1 = cc in omega arith)
  cut_left σ x (child b t r) q g h c y rs e = go (ℕ_discrete x b) e
    where
      further : b < c → Left σ r q c y → Left σ (child b t r) q c y
      further lower l = record {
        tree = l.tree;
        good = l.good;
        shows = l.shows;
        root_is = l.root_is;
        found = if_neg (ℕ_discrete c b) (λ i. omega arith) _ _ ∙ l.found;
      }

      go : (d : Dec (x ≡ b)) → ite {C = Refs} d (refs r) ((b, root t) ∷ cut_ref x (refs r)) ≡ (c, y) ∷ rs → Left σ (child b t r) q c y
      go (yes i) e = further (first_above b r c y rs g.1 e) (first_left σ r q g.2 h.1 c y rs e)
      go (no i) e = first_left σ (child b t r) q g h c y (refs r) (ap (λ (z : ℕ × Place). z ∷ refs r) (head-eq_of_cons-eq e))

  -- ── lengths ──
  -- where every tag is of at most so many bytes, so is every path with its run
  abbrev pub run_length : Tree A → ℕ
  run_length (leaf n s a) = length s
  run_length (inner k n run r) = length run

  module _ (σ : Store A) (most : ℕ) (short : (n : ℕ) (t : Tag) (a : A) → σ (leaf_place n) ≡ leaf_cell t a → length t ≤ most) where
    mutual
      pub run_short : (t : Tree A) → Good t → (p : Tag) → Shows t p σ → length p + run_length t ≤ most
      run_short (leaf n s a) g p h = omega (arith, short n (p ++ s) a h, length-append p s)
      run_short (inner k n run r) g p h = omega (arith, row_short r g.1 g.0 (p ++ run) h.1, length-append p run)

      row_short : (r : Row A) → GoodRow r → 2 ≤ count r → (q : Tag) → ShowsRow r q σ → length q ≤ most
      row_short end g c q h = absurd (omega arith)
      row_short (child b t r) g c q h = omega (arith, run_short t g.0 (q ++ b ∷ []) h.0, length-append q (b ∷ []))
