-- The cells that a plan's writes make, with the new leaf's, are those of the grown tree: the same cells are written, and writes at different places may change their order.
use Prim.Native.Nat.{ℕ, ◌+◌, ◌<◌}
use mathlib.Core.Path.{◌≡◌, refl, sym, ap, ap₂, subst, ◌∙◌}
use mathlib.Core.Logic.{inl, inr, ◌≢◌}
use mathlib.Core.List.{[], ◌∷◌}
use native.Mathlib.Omega.{arith}
use lib.ListN.{take, drop, get_or}
use Rattle.frames.specs.Place.{ref_of}
use Rattle.records.specs.View.{Held}
use Rattle.art.specs.Tags.{Tag}
use Rattle.art.specs.Trees.{Tree, Good}
use Rattle.art.specs.Changes.{Plan, grow}
use Rattle.art.specs.Facts.{height}
use Rattle.art.specs.Stores.{Place, leaf_place, inner_place, home_place, Cell, unused, leaf_cell, inner_cell, Store, Edits, write, apply, root, store, Once, Used, Fresh}
use Rattle.art.specs.Refs.{add_ref, pair_ref}
use Rattle.art.specs.Points.{Up, top, via, Point, holds, clashes, into, fork, broken, point, insert_at, insert_root, new_root, relink_up, add_cell, shorten, store_tag, IntoFits}
use Rattle.art.proofs.Stores.{leaf_inner, write_write, apply_append, used_not}
use Rattle.art.proofs.Walks.{store_shows}
use Rattle.art.proofs.InsertPoints.{stays, relink_up_none, insert_makes, insert_moves}
use Rattle.art.proofs.Reach.{Reach, held_leaf, short_leaf, long_leaf, part_leaf, same_run, short_run, part_run, no_kid, a_kid, seek_reaches}
use Rattle.pointed.proofs.Ups.{up_edits, relink_is, up_root, up_rooted}
use Rattle.pointed.proofs.Inners.{Inners, leaf_stays, leaf_first, relink_inners}

-- ── a record that a tag goes into, with none above it, is the root ──
abbrev PointTop : Place → Up → Point → Type 0
PointTop x up (holds upper up' n) = Unit {0}
PointTop x up clashes = Unit {0}
PointTop x up (into up' k n b) = up' ≡ top → (up ≡ top) × (inner_place k n ≡ x)
PointTop x up (fork up' y w d c) = Unit {0}
PointTop x up broken = Unit {0}

module _ {A : Type 0} (σ : Store A) where
  lower : (x y : Place) (up : Up) (k n b : ℕ) (pt : Point) → PointTop y (via k n b) pt → PointTop x up pt
  lower x y up k n b (holds upper up' m) h = tt
  lower x y up k n b clashes h = tt
  lower x y up k n b (into up' j m c) h = λ e. absurd (let i : via k n b ≡ top = (h e).0 in let z : ◌≡◌ {A = ℕ} 0 1 = cc in omega arith)
  lower x y up k n b (fork up' z w d c) h = tt
  lower x y up k n b broken h = tt

  reach_top : {t : Tree A} {p u : Tag} {upper up : Up} {pt : Point} → Reach σ t p u upper up pt → PointTop (root t) up pt
  reach_top (held_leaf e em h) = tt
  reach_top (short_leaf y w e em) = tt
  reach_top (long_leaf x w e em) = tt
  reach_top (part_leaf c x i y j e e' ne em h) = tt
  reach_top (same_run e em) = tt
  reach_top (short_run y w e em) = tt
  reach_top (part_run c x i y j e e' ne em h w z ew) = tt
  reach_top (no_kid x w e em nh eh h) = λ q. (q, refl)
  reach_top (a_kid {k} {n} {run} {r} {p} {u} {upper} {up} {pt} x w e em i eh h hr kid b) = lower (inner_place k n) (root kid.tree) up k n x pt (reach_top b)

-- ── the writes of an insert are at inner records ──
module _ {A : Type 0} where
  shorten_inners : (t : Tag) (d c : ℕ) (y : Place) (e : Cell A) → Inners (shorten t d c y e)
  shorten_inners t d c (leaf_place n) e = tt
  shorten_inners t d c (inner_place k n) e = (λ m. leaf_inner m k n, tt)

-- ── what the tree's writes make ──
-- a record that takes a child stays, or moves; or a branching is made
abbrev pub stay_plan : (leaf : ℕ) → Plan
stay_plan n = record { leaf_number = n; fork_kind = 0; fork_number = 0; home = λ i j. (i, j) }

abbrev pub move_plan : (leaf kind number : ℕ) → Plan
move_plan n k m = record { leaf_number = n; fork_kind = 0; fork_number = 0; home = λ i j. (k, m) }

abbrev pub fork_plan : (leaf kind number : ℕ) → Plan
fork_plan n k m = record { leaf_number = n; fork_kind = k; fork_number = m; home = λ i j. (i, j) }

-- with the leaf's cell written, τ is the store of the tree grown by the plan, and ref names its root; τ has the leaves of t
pub record Planted (t : Tree Held) (tag : Tag) (n : ℕ) (plan : Plan) (τ : Store Held) (ref : ℕ) : Type 0 where
  pub number : plan.leaf_number ≡ n
  pub fresh : Fresh plan (store t [])
  pub makes : (a : Held) → write τ (leaf_place n) (leaf_cell tag a) ≡ store (grow t plan tag a) []
  pub moves : (a : Held) → ref ≡ ref_of (root (grow t plan tag a))
  pub kept : (m : ℕ) → τ (leaf_place m) ≡ store t [] (leaf_place m)

module _ (t : Tree Held) (good : Good t) (once : Once t []) (f : ℕ) (low : height t < f) (tag : Tag) (n : ℕ) (new : store t [] (leaf_place n) ≡ unused) where
  abbrev σ : Store Held
  σ = store t []

  -- ── one child more ──
  module _ (up : Up) (k m x : ℕ) (fits : IntoFits σ tag up k m x) (at : point f σ (root t) tag ≡ into up k m x) where
    abbrev here : Place
    here = inner_place k m

    abbrev added : Cell Held
    added = inner_cell fits.len fits.at_record.stored (add_ref x (leaf_place n) fits.rs)

    added_is : add_cell x (leaf_place n) (σ here) ≡ added
    added_is = ap (add_cell x (leaf_place n)) fits.at_record.shown

    -- the writes at the tree's records, where the record goes to y
    abbrev writes : Place → Edits Held
    writes y = (here, unused) ∷ (y, add_cell x (leaf_place n) (σ here)) ∷ relink_up σ up here y

    writes_inners : (i j : ℕ) → Inners (writes (inner_place i j))
    writes_inners i j = ((λ l. leaf_inner l k m), ((λ l. leaf_inner l i j), relink_inners σ up here (inner_place i j)))

    into_makes : (pl : Plan) → pl.leaf_number ≡ n → Fresh pl σ → (a : Held) → write (apply σ (writes (home_place pl k m))) (leaf_place n) (leaf_cell tag a) ≡ store (grow t pl tag a) []
    into_makes pl e fresh a =
        sym (leaf_first σ (writes (home_place pl k m)) (writes_inners (pl.home k m).0 (pl.home k m).1) n (leaf_cell tag a))
        ∙ ap (λ (l : ℕ). apply (write σ (leaf_place l) (leaf_cell tag a)) ((here, unused) ∷ (home_place pl k m, add_cell x (leaf_place l) (σ here)) ∷ relink_up σ up here (home_place pl k m))) (sym e)
        ∙ ap (λ (pt : Point). apply σ (insert_at σ pl tag a pt)) (sym at)
        ∙ insert_makes f t good once low pl fresh tag a

    into_moves : (pl : Plan) (a : Held) → new_root up (root t) (home_place pl k m) ≡ root (grow t pl tag a)
    into_moves pl a = ap (λ (pt : Point). insert_root pl pt (root t)) (sym at) ∙ insert_moves f σ t good (store_shows t [] once) low pl tag a

    -- with none above it, it is the root
    top_is : up ≡ top → inner_place k m ≡ root t
    top_is e = (subst (PointTop (root t) top) at (reach_top σ (seek_reaches f f σ t good [] tag tag refl (store_shows t [] once) low low top top)) e).1

    module _ (spare : σ (inner_place 0 0) ≡ unused) where
      -- in place
      pub add_planted : (ref : ℕ) → ref ≡ ref_of (root t) → Planted t tag n (stay_plan n) (write σ here added) ref
      add_planted ref e =
          let pl : Plan = stay_plan n in
          let fresh : Fresh pl σ = (new, spare, λ i j. inl refl) in
          let same : apply σ (writes here) ≡ write σ here added = ap (apply (write (write σ here unused) here (add_cell x (leaf_place n) (σ here)))) (relink_up_none σ up here) ∙ write_write σ here unused (add_cell x (leaf_place n) (σ here)) ∙ ap (write σ here) added_is in
          record {
            number = refl;
            fresh = fresh;
            makes = λ a. ap (λ (τ : Store Held). write τ (leaf_place n) (leaf_cell tag a)) (sym same) ∙ into_makes pl refl fresh a;
            moves = λ a. e ∙ ap ref_of (stays up (root t) here (λ q. sym (top_is q)) ∙ into_moves pl a);
            kept = λ l. ap (λ (τ : Store Held). τ (leaf_place l)) (sym same) ∙ leaf_stays σ (writes here) (writes_inners k m) l;
          }

      -- moved to y
      pub grow_planted : (i j : ℕ) → σ (inner_place i j) ≡ unused → (ref : ℕ) → ref ≡ ref_of (root t)
          → Planted t tag n (move_plan n i j) (apply (write (write σ here unused) (inner_place i j) added) (up_edits σ up (inner_place i j))) (up_root up ref (ref_of (inner_place i j)))
      grow_planted i j free ref e =
          let y : Place = inner_place i j in
          let pl : Plan = move_plan n i j in
          let fresh : Fresh pl σ = (new, spare, λ a b. inr free) in
          let other : here ≢ y = λ q. used_not (σ here) (subst Used (sym fits.at_record.shown) tt) (ap σ q ∙ free) in
          let same : apply σ (writes y) ≡ apply (write (write σ here unused) y added) (up_edits σ up y) = ap₂ (λ (c : Cell Held) (es : Edits Held). apply (write (write σ here unused) y c) es) added_is (relink_is σ up here y other) in
          record {
            number = refl;
            fresh = fresh;
            makes = λ a. ap (λ (τ : Store Held). write τ (leaf_place n) (leaf_cell tag a)) (sym same) ∙ into_makes pl refl fresh a;
            moves = λ a. up_rooted up ref (root t) y e ∙ ap ref_of (into_moves pl a);
            kept = λ l. ap (λ (τ : Store Held). τ (leaf_place l)) (sym same) ∙ leaf_stays σ (writes y) (writes_inners i j) l;
          }

  -- ── a branching more ──
  module _ (up : Up) (y : Place) (w d c : ℕ) (at : point f σ (root t) tag ≡ fork up y w d c) (i j : ℕ) (free : σ (inner_place i j) ≡ unused) (other : y ≢ inner_place i j) where
    abbrev z : Place
    z = inner_place i j

    abbrev short : Edits Held
    short = shorten (store_tag σ w) d c y (σ y)

    abbrev branch : ℕ → Cell Held
    branch l = inner_cell c (take 8 (take c (drop d tag))) (pair_ref (get_or tag (d + c) 0) (leaf_place l) (get_or (store_tag σ w) (d + c) 0) y)

    rest_inners : Inners ((z, branch n) ∷ relink_up σ up y z)
    rest_inners = ((λ m. leaf_inner m i j), relink_inners σ up y z)

    pub fork_planted : (ref : ℕ) → ref ≡ ref_of (root t) → Planted t tag n (fork_plan n i j) (apply (write (apply σ short) z (branch n)) (up_edits σ up z)) (up_root up ref (ref_of z))
    fork_planted ref e =
        let pl : Plan = fork_plan n i j in
        let fresh : Fresh pl σ = (new, free, λ a b. inl refl) in
        let τ : Store Held = apply σ short in
        let rest : Edits Held = (z, branch n) ∷ relink_up σ up y z in
        let same : apply τ rest ≡ apply (write τ z (branch n)) (up_edits σ up z) = ap (apply (write τ z (branch n))) (relink_is σ up y z other) in
        record {
          number = refl;
          fresh = fresh;
          makes = λ a. ap (λ (ρ : Store Held). write ρ (leaf_place n) (leaf_cell tag a)) (sym same) ∙ sym (leaf_first τ rest rest_inners n (leaf_cell tag a))
              ∙ sym (apply_append σ short ((leaf_place n, leaf_cell tag a) ∷ rest)) ∙ ap (λ (pt : Point). apply σ (insert_at σ pl tag a pt)) (sym at) ∙ insert_makes f t good once low pl fresh tag a;
          moves = λ a. up_rooted up ref (root t) z e ∙ ap ref_of (ap (λ (pt : Point). insert_root pl pt (root t)) (sym at) ∙ insert_moves f σ t good (store_shows t [] once) low pl tag a);
          kept = λ l. ap (λ (ρ : Store Held). ρ (leaf_place l)) (sym same) ∙ leaf_stays τ rest rest_inners l ∙ leaf_stays σ short (shorten_inners (store_tag σ w) d c y (σ y)) l;
        }
