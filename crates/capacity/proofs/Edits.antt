-- The writes of an insert, a delete and another total leave every record over its mark: a row is changed by one child at most, and where it comes to its mark the record moves.
use Prim.Native.Nat.{ℕ, suc, ◌+◌, ◌-◌, ◌≤◌, ◌<◌}
use mathlib.Core.Path.{◌≡◌, refl, sym, ap, subst}
use mathlib.Core.Logic.{inl, inr, ite}
use mathlib.Core.List.{List, [], ◌∷◌, ◌++◌}
use mathlib.Core.Option.{none, some}
use native.Mathlib.Decide.{ℕ_discrete}
use native.Mathlib.Omega.{arith}
use lib.ListN.{length, get_or}
use Rattle.frames.specs.Kind.{kind_row, children_of, mark_of}
use Rattle.frames.specs.declared.frame.Frame.{Frame}
use Rattle.frames.proofs.KindTable.{by_kind}
use Rattle.records.specs.View.{Held}
use Rattle.art.specs.Tags.{Tag, Order, order, below, equal, above}
use Rattle.art.specs.Changes.{Plan}
use Rattle.art.specs.Deletes.{Home}
use Rattle.art.specs.Stores.{Place, leaf_place, inner_place, home_place, place_dec, Cell, unused, leaf_cell, inner_cell, Store, Edits, write, apply}
use Rattle.art.specs.Refs.{Refs, find_ref, re_ref, add_ref_by, add_ref, pair_ref_by, cut_ref, re_cell}
use Rattle.art.specs.Points as art
use Rattle.art.specs.Points.{Up, top, via, Point, IntoFits, PointFits, cell_refs, store_tag, fork_place, trim, shorten, add_cell, merge, merge_into, settle_refs, settle_cell, settled, relink_up, insert_at, delete_under, delete_at, alter_at}
use Rattle.reading.specs.Answers.{Bytes}
use Rattle.insert.specs.Grown.{Smallest, Chosen}
use Rattle.delete.specs.Without.{Goes, stays, shrinks, crowded, Settles, SettlesAt}
use Rattle.capacity.specs.Capacity.{Over}
use Rattle.capacity.proofs.Counts.{PoolFull}
use Rattle.capacity.proofs.Rooms.{TightIn}

-- ── how long a row is after a change ──
-- a child more
pub add_length : (x : ℕ) (y : Place) (rs : Refs) → find_ref rs x ≡ none → length (add_ref x y rs) ≡ suc (length rs)
add_length x y [] h = refl
add_length x y (e ∷ rs) h = go (ℕ_discrete x e.0) (order x e.0) (add_length x y rs) h
  where
    go : (d : Dec (x ≡ e.0)) (o : Order x e.0) → (find_ref rs x ≡ none → length (add_ref x y rs) ≡ suc (length rs)) → ite d (some e.1) (find_ref rs x) ≡ none
        → length (add_ref_by x y e o rs (add_ref x y rs)) ≡ suc (suc (length rs))
    go (yes i) o ih q = absurd (let z : ◌≡◌ {A = ℕ} 0 1 = cc in omega arith)
    go (no i) (below l) ih q = refl
    go (no i) (equal j) ih q = absurd (i j)
    go (no i) (above l) ih q = ap suc (ih q)

-- or none, where there was one
add_most : (x : ℕ) (y : Place) (rs : Refs) → length rs ≤ length (add_ref x y rs)
add_most x y [] = omega arith
add_most x y (e ∷ rs) = go (order x e.0) (add_most x y rs)
  where
    go : (o : Order x e.0) → length rs ≤ length (add_ref x y rs) → suc (length rs) ≤ length (add_ref_by x y e o rs (add_ref x y rs))
    go (below l) ih = omega arith
    go (equal j) ih = omega arith
    go (above l) ih = omega (arith, ih)

-- a new row
pair_some : (x y : ℕ) (o : Order x y) (t u : Place) → 0 < length (pair_ref_by x y o t u)
pair_some x y (below l) t u = omega arith
pair_some x y (equal e) t u = omega arith
pair_some x y (above l) t u = omega arith

-- another place for a child
re_length : (rs : Refs) (b : ℕ) (y : Place) → length (re_ref rs b y) ≡ length rs
re_length [] b y = refl
re_length (e ∷ rs) b y = go (ℕ_discrete b e.0) (re_length rs b y)
  where
    go : (d : Dec (b ≡ e.0)) → length (re_ref rs b y) ≡ length rs → length (ite {C = Refs} d ((e.0, y) ∷ rs) (e ∷ re_ref rs b y)) ≡ suc (length rs)
    go (yes i) ih = refl
    go (no i) ih = ap suc ih

-- a child less
cut_least : (b : ℕ) (rs : Refs) → length rs ≤ suc (length (cut_ref b rs))
cut_least b [] = omega arith
cut_least b (e ∷ rs) = go (ℕ_discrete b e.0) (cut_least b rs)
  where
    go : (d : Dec (b ≡ e.0)) → length rs ≤ suc (length (cut_ref b rs)) → suc (length rs) ≤ suc (length (ite {C = Refs} d rs (e ∷ cut_ref b rs)))
    go (yes i) ih = omega arith
    go (no i) ih = omega (arith, ih)

-- ── writes that leave records over their marks ──
abbrev OverAt : Place → Cell Held → Type 0
OverAt (leaf_place n) c = Unit {0}
OverAt (inner_place k n) c = Over (mark_of k) c

abbrev pub OverAll : Edits Held → Type 0
OverAll [] = Unit {0}
OverAll (e ∷ es) = OverAt e.0 e.1 × OverAll es

write_tight : (σ : Store Held) (x : Place) (c : Cell Held) → TightIn σ → OverAt x c → TightIn (write σ x c)
write_tight σ x c tight h k n = go (place_dec (inner_place k n) x)
  where
    go : (d : Dec (inner_place k n ≡ x)) → Over (mark_of k) (ite d c (σ (inner_place k n)))
    go (yes e) = subst (λ (y : Place). OverAt y c) (sym e) h
    go (no e) = tight k n

pub apply_tight : (σ : Store Held) (es : Edits Held) → TightIn σ → OverAll es → TightIn (apply σ es)
apply_tight σ [] tight h = tight
apply_tight σ (e ∷ es) tight h = apply_tight (write σ e.0 e.1) es (write_tight σ e.0 e.1 tight h.0) h.1

over_both : (es fs : Edits Held) → OverAll es → OverAll fs → OverAll (es ++ fs)
over_both [] fs h i = i
over_both (e ∷ es) fs h i = (h.0, over_both es fs h.1 i)

-- the record above, with its child elsewhere
re_over : (m : ℕ) (c : Cell Held) (b : ℕ) (y : Place) → Over m c → Over m (re_cell c b y)
re_over m unused b y h = tt
re_over m (leaf_cell t a) b y h = h
re_over m (inner_cell len st rs) b y h = omega (arith, h, re_length rs b y)

module _ (σ : Store Held) (tight : TightIn σ) where
  relinked : (up : Up) (old new : Place) → OverAll (relink_up σ up old new)
  relinked top old new = tt
  relinked (via k n b) old new = go (place_dec old new)
    where
      go : (d : Dec (old ≡ new)) → OverAll (ite {C = Edits Held} d [] ((inner_place k n, re_cell (σ (inner_place k n)) b new) ∷ []))
      go (yes e) = tt
      go (no e) = (re_over (mark_of k) (σ (inner_place k n)) b new (tight k n), tt)

  -- ── a new tag ──
  trim_over : (m : ℕ) (t : Tag) (d c : ℕ) (e : Cell Held) → Over m e → Over m (trim t d c e)
  trim_over m t d c unused h = tt
  trim_over m t d c (leaf_cell v a) h = h
  trim_over m t d c (inner_cell len st rs) h = h

  shortened : (t : Tag) (d c : ℕ) (y : Place) → OverAll (shorten t d c y (σ y))
  shortened t d c (leaf_place n) = tt
  shortened t d c (inner_place k n) = (trim_over (mark_of k) t d c (σ (inner_place k n)) (tight k n), tt)

  added_over : (m x : ℕ) (y : Place) (c : Cell Held) → Over m c → Over m (add_cell x y c)
  added_over m x y unused h = tt
  added_over m x y (leaf_cell t a) h = h
  added_over m x y (inner_cell len st rs) h = omega (arith, h, add_most x y rs)

  -- a branching goes to kind 1, and a full record to the next kind
  abbrev pub ForksLow : Frame → Type 0
  ForksLow f = (j : ℕ) → Smallest f σ 1 j → mark_of j ≡ 0

  abbrev pub GrowsNext : Frame → Type 0
  GrowsNext f = (k n len x : ℕ) (st : List ℕ) (rs : Refs) → σ (inner_place k n) ≡ inner_cell len st rs → find_ref rs x ≡ none → x < 256 → children_of k ≤ length rs → (j : ℕ) → Smallest f σ (suc k) j → mark_of j ≤ length rs

  module _ (f : Frame) (low : ForksLow f) (next : GrowsNext f) (plan : Plan) (tag : Tag) (bytes : Bytes tag) (a : Held) where
    taken : (up : Up) (k n x : ℕ) (y : Place) → IntoFits σ tag up k n x → Chosen f σ plan (art.into up k n x) → OverAt (home_place plan k n) (add_cell x y (σ (inner_place k n)))
    taken up k n x y p (inl e) = subst (λ (z : Place). OverAt z (add_cell x y (σ (inner_place k n)))) (sym e.1) (added_over (mark_of k) x y (σ (inner_place k n)) (tight k n))
    taken up k n x y p (inr h) =
        let shown = p.at_record.shown in
        let full : children_of k ≤ length p.rs = subst (λ (c : Cell Held). children_of k ≤ length (cell_refs c)) shown h.0 in
        let few = next k n p.len x p.at_record.stored p.rs shown p.missing (omega (arith, bytes p.depth, p.byte)) full (plan.home k n).0 h.1.0 in
        subst (λ (c : Cell Held). Over (mark_of (plan.home k n).0) (add_cell x y c)) (sym shown) (omega (arith, few, add_length x y p.rs p.missing))

    pub insert_over : (pt : Point) → PointFits σ tag pt → Chosen f σ plan pt → OverAll (insert_at σ plan tag a pt)
    insert_over (art.holds upper up n) p h = tt
    insert_over art.clashes p h = tt
    insert_over (art.into up k n x) p h = (tt, (tt, (taken up k n x (leaf_place plan.leaf_number) p h, relinked up (inner_place k n) (home_place plan k n))))
    insert_over (art.fork up y w d c) p h =
        over_both (shorten (store_tag σ w) d c y (σ y)) _ (shortened (store_tag σ w) d c y)
        (tt, (omega (arith, low plan.fork_kind h.0, pair_some _ _ (order (get_or tag (d + c) 0) (get_or (store_tag σ w) (d + c) 0)) (leaf_place plan.leaf_number) y), relinked up y (fork_place plan)))
    insert_over art.broken p h = tt

  -- ── a tag that leaves ──
  merged : (len : ℕ) (st : List ℕ) (b : ℕ) (y : Place) → OverAll (merge_into len st b y (σ y))
  merged len st b (leaf_place n) = tt
  merged len st b (inner_place k n) = (go (σ (inner_place k n)) (tight k n), tt)
    where
      go : (c : Cell Held) → Over (mark_of k) c → Over (mark_of k) (merge len st b c)
      go unused h = tt
      go (leaf_cell t a) h = h
      go (inner_cell len' st' rs) h = h

  -- every record is of a kind and has two children, and for one above its mark the kind before has a free record
  abbrev pub Kinds : Type 0
  Kinds = (k n len : ℕ) (st : List ℕ) (rs : Refs) → σ (inner_place k n) ≡ inner_cell len st rs → (1 ≤ k) × (k ≤ 4) × (1 < length rs)

  abbrev pub BeforeFree : Frame → Type 0
  BeforeFree f = (k n len : ℕ) (st : List ℕ) (rs : Refs) → σ (inner_place k n) ≡ inner_cell len st rs → 2 ≤ k → ¬ PoolFull f σ (k - 1)

  module _ (f : Frame) (kinds : Kinds) (before : BeforeFree f) (hm : Home) where
    -- where a record goes it is over its mark
    goes_over : (k n len : ℕ) (st : List ℕ) (rs : Refs) → σ (inner_place k n) ≡ inner_cell len st rs → (l : ℕ) (to : ℕ × ℕ) → 2 ≤ l → length rs ≤ suc l → Goes f σ k n l to → mark_of to.0 < l
    unfolding kind_row
    goes_over k n len st rs e l to two most (stays i h) = omega (arith, ap (λ (p : ℕ × ℕ). mark_of p.0) i)
    goes_over k n len st rs e l to two most (shrinks i h low) =
        let j : ℕ = to.0 in
        let kind = kinds k n len st rs e in
        by_kind (λ m. suc j ≡ m → l ≤ mark_of m → mark_of m < length rs → mark_of j < l)
        (λ q x y. omega arith)
        (λ q x y. omega (arith, ap mark_of (let p : j ≡ 1 = omega arith in p)))
        (λ q x y. omega (arith, ap mark_of (let p : j ≡ 2 = omega arith in p)))
        (λ q x y. omega (arith, ap mark_of (let p : j ≡ 3 = omega arith in p)))
        k kind.0 kind.1 i h (subst (Over (mark_of k)) e (tight k n))
    goes_over k n len st rs e l to two most (crowded i h full) =
        let kind = kinds k n len st rs e in
        absurd (before k n len st rs e (by_kind (λ m. l ≤ mark_of m → 2 ≤ m) (λ x. omega arith) (λ x. omega arith) (λ x. omega arith) (λ x. omega arith) k kind.0 kind.1 h) full)

    settled_over : (k n b len : ℕ) (st : List ℕ) (rs : Refs) → σ (inner_place k n) ≡ inner_cell len st rs
        → (2 ≤ length (cut_ref b rs) → Goes f σ k n (length (cut_ref b rs)) (hm k n (length (cut_ref b rs)))) → (left : Refs) → cut_ref b rs ≡ left → OverAll (settle_refs σ hm k n len st left)
    settled_over k n b len st rs e goes [] q = absurd (omega (arith, cut_least b rs, ap length q, (kinds k n len st rs e).2))
    settled_over k n b len st rs e goes (r ∷ []) q = (tt, merged len st r.0 r.1)
    settled_over k n b len st rs e goes (r ∷ r' ∷ left) q =
        let l : ℕ = length (r ∷ r' ∷ left) in
        let g : 2 ≤ l → Goes f σ k n l (hm k n l) = subst (λ (v : Refs). 2 ≤ length v → Goes f σ k n (length v) (hm k n (length v))) q goes in
        (tt, (goes_over k n len st rs e l (hm k n l) (omega arith) (omega (arith, cut_least b rs, ap length q)) (g (omega arith)), tt))

    under_over : (upper up : Up) → Settles f σ hm up → OverAll (delete_under σ hm upper up)
    under_over upper top h = tt
    under_over upper (via k n b) h =
        over_both (settle_cell σ hm k n b (σ (inner_place k n))) (relink_up σ upper (inner_place k n) (settled σ hm k n b)) (go (σ (inner_place k n)) refl)
        (relinked upper (inner_place k n) (settled σ hm k n b))
      where
        go : (c : Cell Held) → σ (inner_place k n) ≡ c → OverAll (settle_cell σ hm k n b c)
        go unused e = tt
        go (leaf_cell t a) e = tt
        go (inner_cell len st rs) e =
            settled_over k n b len st rs e (subst (λ (c : Cell Held). let v : Refs = cut_ref b (cell_refs c) in 2 ≤ length v → Goes f σ k n (length v) (hm k n (length v))) e h) (cut_ref b rs) refl

    pub delete_over : (pt : Point) → SettlesAt f σ hm pt → OverAll (delete_at σ hm pt)
    delete_over (art.holds upper up n) h = (tt, under_over upper up h)
    delete_over art.clashes h = tt
    delete_over (art.into up k n x) h = tt
    delete_over (art.fork up y w d c) h = tt
    delete_over art.broken h = tt

-- ── another total ──
pub alter_over : (σ : Store Held) (g : Held → Held) (pt : Point) → OverAll (alter_at σ g pt)
alter_over σ g (art.holds upper up n) = (tt, tt)
alter_over σ g art.clashes = tt
alter_over σ g (art.into up k n x) = tt
alter_over σ g (art.fork up y w d c) = tt
alter_over σ g art.broken = tt
