-- The check finds a block sound just where it is: both directions.
use Prim.Native.Nat.{ℕ, suc, ◌+◌, ◌*◌, ◌/◌, ◌≤◌, ◌<◌}
use mathlib.Core.Path.{◌≡◌, refl, sym, ap, subst, ◌∙◌, fun_ext}
use mathlib.Core.Logic.{◌⊎◌, inl, inr, if_pos}
use mathlib.Core.Option.{Option, none, some}
use mathlib.Core.List.{List, [], ◌∷◌, ◌++◌, append_assoc, head-eq_of_cons-eq, tail-eq_of_cons-eq}
use mathlib.Core.Bool.{Bool, true, false, ◌&&◌, false≢true}
use native.Mathlib.Omega.{arith}
use native.Mathlib.Decide.{ℕ_discrete}
use lib.ListN.{length, get_or, replicate, take, length-take, length-replicate}
use lib.Dec.{eqb, leb, ltb}
use borrow.Author.Tests.{leb-true, eqb-true, eq-eqb, ne_eqb, le-ltb}
use Rattle.std.specs.Prelude.{Some}
use Rattle.view.proofs.Views.{cell_in_lem, cell_out}
use Rattle.lists.specs.Scan.{choose, all_pass, at_most}
use Rattle.lists.proofs.Tests.{both, and_both, zeros_at}
use Rattle.lists.proofs.Tables.{both5}
use Rattle.prefix.specs.Run.{held as stored}
use Rattle.frames.specs.Frame.{frame_fits, FrameOf, root_word, first_word, last_word, count_word, frame}
use Rattle.frames.specs.Place.{place_at, ref_of, in_pool, start_at, record_at, key_at}
use Rattle.frames.specs.declared.frame.Frame.{Frame}
use Rattle.frames.proofs.KindTable.{by_kind}
use Rattle.frames.proofs.Places.{inner_kind, ref_place, place_ref}
use Rattle.records.specs.Own.{prefix_at, total_of}
use Rattle.records.specs.Row.{row_at, Climbs}
use Rattle.records.specs.View.{Held, places, raw_cell, cell_of, rule_at, blank_at}
use Rattle.records.proofs.Owns.{leaf_rule, inner_rule}
use Rattle.records.proofs.RowRules.{row_rule}
use Rattle.art.specs.Tags.{Tag, Listing}
use Rattle.art.specs.Listings.{Every, under}
use Rattle.art.proofs.Listings.{every_imp, every_append, every_under}
use Rattle.art.specs.Trees.{Tree, leaf, inner, Row, end, child, contents, row_contents, Above, count, Many, Good, GoodRow}
use Rattle.art.specs.Drawings.{longest}
use Rattle.art.specs.Facts.{height}
use Rattle.art.proofs.Facts.{height_bound}
use Rattle.art.specs.Deletes.{held, Sane}
use Rattle.art.specs.Stores.{Place, leaf_place, inner_place, place_dec, Cell, unused, leaf_cell, inner_cell, Store, refs, root, store, Once, Used, cell_tag}
use Rattle.art.proofs.Stores.{used_not}
use Rattle.art.specs.Walks.{Shows, ShowsRow}
use Rattle.art.proofs.Walks.{store_shows}
use Rattle.art.specs.Agree.{AgreesFrom}
use Rattle.art.proofs.Agree.{store_agrees}
use Rattle.art.specs.Members.{In, in_dec}
use Rattle.art.specs.Chain.{Linked, leaves, leaves_of}
use Rattle.art.specs.Visit.{State, start_state, spots, passed}
use Rattle.art.proofs.Passes.{store_on}
use Rattle.art.specs.Check.{Ended, Checked}
use Rattle.art.proofs.Checks.{used_or_free, check_sound, sound_check}
use Rattle.whole.specs.Marks.{places_in, mark_at, unmarked}
use Rattle.whole.specs.Visit.{Way, way, record_by}
use Rattle.whole.specs.Sweep.{swept_at, swept_pool, swept}
use Rattle.whole.specs.Check.{at_start, root_way, ended_well, way_well, whole_by, whole_of, number_of, check_of}
use Rattle.view.specs.Links.{link_at, links_of}
use Rattle.whole.specs.Sound.{Rooted, Sound}
use Rattle.art.specs.Calls.{OnceOf}
use Rattle.art.specs.Points.{store_of}
use Rattle.whole.specs.declared.well_formed.Seen.{Seen}
use Rattle.tree.proofs.Arrivals.{inner_stands}
use Rattle.whole.proofs.Marking.{mark_on, mark_off}
use Rattle.whole.proofs.Sweeping.{under_at, under_by, pool_place}
use Rattle.whole.proofs.Calls.{fork, root_by}
use Rattle.whole.proofs.Apart.{mark_room, pool_parts}
use Rattle.whole.proofs.Ways.{ruled, by_ref, obeys, ruled_not, ruled_raw, tag_here, ruled_leaf, ruled_inner, tells, Tally, Same, probing, record_same}

absurd_cell : {X : Type 0} {c : Cell Held} → Used c → c ≡ unused → X
absurd_cell {c = c} u e = absurd (used_not c u e)

-- ── a blank record is unused ──
blank_first : (l : List ℕ) → all_pass (at_most 0) l ≡ true → get_or l 0 0 ≡ 0
blank_first [] e = refl
blank_first (x ∷ xs) e = omega (arith, leb-true x 0 (both (leb x 0) (all_pass (at_most 0) xs) e).0)

module _ (f : Frame) (words keys : List ℕ) where
  raw_blank : (x : Place) → blank_at f words keys x ≡ true → raw_cell f words keys x ≡ unused
  raw_blank (leaf_place n) e =
      let rec = record_at f words (leaf_place n) in
      ap (λ (b : Bool). choose b unused (leaf_cell (take (get_or rec 1 0) (key_at f keys n)) (record { number = n; total = total_of rec })))
      (eq-eqb (get_or rec 0 0) 0 (blank_first rec (both (all_pass (at_most 0) rec) (all_pass (at_most 0) (key_at f keys n)) e).0))
  raw_blank (inner_place k n) e =
      let rec = record_at f words (inner_place k n) in
      ap (λ (b : Bool). choose b unused (inner_cell (get_or rec 2 0) (stored (prefix_at f.form rec)) (places (row_at f.form k rec)))) (eq-eqb (get_or rec 0 0) 0 (blank_first rec e))

  -- a used cell is one of a pool
  pub used_pool : (x : Place) → Used (cell_of f words keys x) → in_pool f x ≡ true
  used_pool x u = go (in_pool f x) refl
    where
      go : (b : Bool) → in_pool f x ≡ b → in_pool f x ≡ true
      go true e = e
      go false e = absurd_cell u (cell_out f words keys x e)

  ruled_out : (x : Place) → in_pool f x ≡ false → ruled f words keys x ≡ unused
  ruled_out x p = ruled_not f words keys x (ap (λ (b : Bool). b && rule_at f words keys x) p)

  ruled_blank : (x : Place) → raw_cell f words keys x ≡ unused → ruled f words keys x ≡ unused
  ruled_blank x e = go (obeys f words keys x) refl
    where
      go : (b : Bool) → obeys f words keys x ≡ b → ruled f words keys x ≡ unused
      go true o = ruled_raw f words keys x o ∙ e
      go false o = ruled_not f words keys x o

  -- where each used record obeys its rule, the store of those that do is the block's
  pub rules_same : ((x : Place) → Used (cell_of f words keys x) → rule_at f words keys x ≡ true) → (x : Place) → ruled f words keys x ≡ cell_of f words keys x
  rules_same h x = go (in_pool f x) refl (used_or_free (cell_of f words keys x))
    where
      go : (b : Bool) → in_pool f x ≡ b → Used (cell_of f words keys x) ⊎ (cell_of f words keys x ≡ unused) → ruled f words keys x ≡ cell_of f words keys x
      go false p u = ruled_out x p ∙ sym (cell_out f words keys x p)
      go true p (inl u) = ruled_raw f words keys x (and_both p (h x u)) ∙ sym (cell_in_lem f words keys x p)
      go true p (inr e) = ruled_blank x (sym (cell_in_lem f words keys x p) ∙ e) ∙ sym e

-- ── every place of the pools ──
module _ {f : Frame} {words keys : List ℕ} (fr : FrameOf f words keys) (m : List ℕ) where
  pools : swept f words keys m ≡ true → (k : ℕ) → 1 ≤ k → k ≤ 4 → swept_pool f words keys m k ≡ true
  unfolding swept
  pools h =
      let p = both5 (swept_pool f words keys m 1) (swept_pool f words keys m 2) (swept_pool f words keys m 3) (swept_pool f words keys m 4) (swept_pool f words keys m 5) h in
      by_kind (λ k. swept_pool f words keys m k ≡ true) p.0 p.1 p.2 p.3

  leaf_pool : swept f words keys m ≡ true → swept_pool f words keys m 5 ≡ true
  unfolding swept
  leaf_pool h = (both5 (swept_pool f words keys m 1) (swept_pool f words keys m 2) (swept_pool f words keys m 3) (swept_pool f words keys m 4) (swept_pool f words keys m 5) h).4

  pool_each : (k n : ℕ) → swept_pool f words keys m k ≡ true → n < get_or f.caps k 0 → swept_at f words keys m (place_at (n * 8 + k)) ≡ true
  unfolding swept_pool
  pool_each k n h l = under_at (get_or f.caps k 0) (λ n. swept_at f words keys m (place_at (n * 8 + k))) h n l

  swept_each : swept f words keys m ≡ true → (x : Place) → in_pool f x ≡ true → swept_at f words keys m x ≡ true
  swept_each h (leaf_place n) p =
      ap (swept_at f words keys m) (sym (place_ref f (leaf_place n) p)) ∙ pool_each 5 n (leaf_pool h) (pool_parts f (leaf_place n) p).1
  swept_each h (inner_place k n) p =
      let i = inner_kind fr k n p in
      ap (swept_at f words keys m) (sym (place_ref f (inner_place k n) p)) ∙ pool_each k n (pools h k i.0 i.1) (pool_parts f (inner_place k n) p).1

  -- a place without a mark is blank
  pub swept_blank : swept f words keys m ≡ true → (x : Place) → in_pool f x ≡ true → unmarked (mark_at f x) m ≡ true → blank_at f words keys x ≡ true
  unfolding swept_at
  swept_blank h x p u = ap (λ (b : Bool). choose b (blank_at f words keys x) true) (sym u) ∙ swept_each h x p

  pub blank_swept : ((x : Place) → in_pool f x ≡ true → unmarked (mark_at f x) m ≡ true → blank_at f words keys x ≡ true) → swept f words keys m ≡ true
  unfolding swept swept_pool swept_at
  blank_swept h = and_both (and_both (and_both (and_both (pool 1 (omega arith)) (pool 2 (omega arith))) (pool 3 (omega arith))) (pool 4 (omega arith))) (pool 5 (omega arith))
    where
      at : (x : Place) → in_pool f x ≡ true → (b : Bool) → unmarked (mark_at f x) m ≡ b → choose b (blank_at f words keys x) true ≡ true
      at x p true u = h x p u
      at x p false u = refl

      pool : (k : ℕ) → k ≤ 5 → swept_pool f words keys m k ≡ true
      pool k l =
          under_by (get_or f.caps k 0) (λ n. swept_at f words keys m (place_at (n * 8 + k)))
          (λ n i. at (place_at (n * 8 + k)) (pool_place fr k n l i refl) (unmarked (mark_at f (place_at (n * 8 + k))) m) refl)

-- ── a tree that is shown by records that obey their rules is good ──
abbrev Rising : Row Held → Type 0
Rising end = Unit {0}
Rising (child b t r) = Above b r × Rising r

above_of : (b lo : ℕ) (r : Row Held) (cs : List (ℕ × ℕ)) → refs r ≡ places cs → b < lo → Climbs lo cs → Above b r
above_of b lo end cs e h u = tt
above_of b lo (child c t r) [] e h u = absurd (let z : ◌≡◌ {A = ℕ} 0 1 = cc in omega arith)
above_of b lo (child c t r) (x ∷ cs) e h u =
    let key : c ≡ x.0 = ap (λ (y : ℕ × Place). y.0) (head-eq_of_cons-eq e) in
    (omega (arith, u.0.low, key), above_of b (suc x.0) r cs (tail-eq_of_cons-eq e) (omega (arith, u.0.low)) u.1)

rising_of : (lo : ℕ) (r : Row Held) (cs : List (ℕ × ℕ)) → refs r ≡ places cs → Climbs lo cs → Rising r
rising_of lo end cs e u = tt
rising_of lo (child c t r) [] e u = absurd (let z : ◌≡◌ {A = ℕ} 0 1 = cc in omega arith)
rising_of lo (child c t r) (x ∷ cs) e u =
    let key : c ≡ x.0 = ap (λ (y : ℕ × Place). y.0) (head-eq_of_cons-eq e) in
    (above_of c (suc x.0) r cs (tail-eq_of_cons-eq e) (omega (arith, key)) u.1, rising_of (suc x.0) r cs (tail-eq_of_cons-eq e) u.1)

count_of : (r : Row Held) (cs : List (ℕ × ℕ)) → refs r ≡ places cs → count r ≡ length cs
count_of end [] e = refl
count_of end (x ∷ cs) e = absurd (let z : ◌≡◌ {A = ℕ} 0 1 = cc in omega arith)
count_of (child c t r) [] e = absurd (let z : ◌≡◌ {A = ℕ} 0 1 = cc in omega arith)
count_of (child c t r) (x ∷ cs) e = ap suc (count_of r cs (tail-eq_of_cons-eq e))

-- the root is one of a tree's places
root_in : (t : Tree Held) → In (root t) (spots t)
root_in (leaf n s a) = inl refl
root_in (inner k n run r) = inl refl

module _ (f : Frame) (words keys : List ℕ) (fr : FrameOf f words keys) where
  -- a place whose cell is used obeys its rule
  ruled_obeys : (x : Place) → Used (ruled f words keys x) → obeys f words keys x ≡ true
  ruled_obeys x u = go (obeys f words keys x) refl
    where
      go : (b : Bool) → obeys f words keys x ≡ b → obeys f words keys x ≡ true
      go true e = e
      go false e = absurd_cell u (ruled_not f words keys x e)

  -- and the other way round
  obeys_used : (x : Place) → obeys f words keys x ≡ true → Used (ruled f words keys x)
  obeys_used (leaf_place n) o = subst Used (sym (ruled_leaf f words keys n o)) tt
  obeys_used (inner_place k n) o = subst Used (sym (ruled_inner f words keys fr k n o)) tt

  inner_good : (k n len : ℕ) (st : List ℕ) (r : Row Held) → ruled f words keys (inner_place k n) ≡ inner_cell len st (refs r) → Many r × Rising r
  inner_good k n len st r e =
      let x = inner_place k n in
      let rec = record_at f words x in
      let o = ruled_obeys x (subst Used (sym e) tt) in
      let p = both (in_pool f x) (rule_at f words keys x) o in
      let q : ◌≡◌ {A = Cell Held} (inner_cell len st (refs r)) (inner_cell (get_or rec 2 0) _ (places (row_at f.form k rec))) = sym e ∙ ruled_inner f words keys fr k n o in
      let kids : refs r ≡ places (row_at f.form k rec) = cc in
      let fits = (inner_stands fr x k n (start_at f x) refl refl p.0 p.1).fits in
      let laws = row_rule fits in
      (omega (arith, count_of r (row_at f.form k rec) kids, laws.size, (inner_rule f.form k rec p.1).head.two), rising_of 0 r (row_at f.form k rec) kids laws.climbs)

  mutual
    pub good_of : (t : Tree Held) (p : Tag) → Shows t p (ruled f words keys) → Good t
    good_of (leaf n s a) p h = tt
    good_of (inner k n run r) p h = let g = inner_good k n (length run) (take 8 run) r h.0 in (g.0, good_row_of r (p ++ run) h.1 g.1)

    pub good_row_of : (r : Row Held) (q : Tag) → ShowsRow r q (ruled f words keys) → Rising r → GoodRow r
    good_row_of end q h g = tt
    good_row_of (child b t r) q h g = (good_of t (q ++ b ∷ []) h.0, g.0, good_row_of r q h.1 g.1)

  -- ── no path has more inner records than the limit ──
  leaf_short : (n : ℕ) (t : Tag) (a : Held) → ruled f words keys (leaf_place n) ≡ leaf_cell t a → length t ≤ f.form.limit
  leaf_short n t a e =
      let x = leaf_place n in
      let rec = record_at f words x in
      let o = ruled_obeys x (subst Used (sym e) tt) in
      let r = leaf_rule f.form.limit rec (key_at f keys n) (both (in_pool f x) (rule_at f words keys x) o).1 in
      let w : t ≡ take (get_or rec 1 0) (key_at f keys n) = ap cell_tag (sym e ∙ ruled_leaf f words keys n o) ∙ tag_here f words keys n in
      omega (arith, ap length w, length-take (get_or rec 1 0) (key_at f keys n), r.short)

  mutual
    tags_short : (t : Tree Held) (p : Tag) → Shows t p (ruled f words keys) → Every (λ s. length (p ++ s) ≤ f.form.limit) (contents t)
    tags_short (leaf n s a) p h = (leaf_short n (p ++ s) a h, tt)
    tags_short (inner k n run r) p h =
        every_under _ run (row_contents r) (every_imp _ _ (λ s l. rw append_assoc at l) (row_contents r) (row_tags_short r (p ++ run) h.1))

    row_tags_short : (r : Row Held) (q : Tag) → ShowsRow r q (ruled f words keys) → Every (λ s. length (q ++ s) ≤ f.form.limit) (row_contents r)
    row_tags_short end q h = tt
    row_tags_short (child b t r) q h =
        every_append _ (under (b ∷ []) (contents t)) (row_contents r)
        (every_under _ (b ∷ []) (contents t) (every_imp _ _ (λ s l. rw append_assoc at l) (contents t) (tags_short t (q ++ b ∷ []) h.0)))
        (row_tags_short r q h.1)

  longest_short : (l : Listing Held) → Every (λ s. length s ≤ f.form.limit) l → longest l ≤ f.form.limit
  longest_short [] h = omega arith
  longest_short (e ∷ l) h = omega (arith, h.0, longest_short l h.1)

  pub height_short : (t : Tree Held) → Good t → Shows t [] (ruled f words keys) → height t < suc f.form.limit
  height_short t g h = omega (arith, height_bound t g, longest_short (contents t) (tags_short t [] h))

start_tally : (f : Frame) (words keys : List ℕ) → Tally f words keys (replicate (places_in f) 0) (at_start words) start_state
unfolding links_of
start_tally f words keys =
    record {
      long = length-replicate (places_in f) 0;
      on = λ x p i e. i;
      off = λ x p n. zeros_at (places_in f) (mark_at f x);
      rules = λ x i. absurd i;
      prev = refl;
      next = sym (if_pos (ℕ_discrete 0 0) refl (first_word words) (link_at f words 3 (0 / 8)));
      count = refl;
    }

-- ── what the check finds is sound ──
links_last : (f : Frame) (words : List ℕ) → (links_of f words).last ≡ last_word words
unfolding links_of
links_last f words = refl

ended_parts : (words : List ℕ) (w : ℕ) (s : Seen) → ended_well words (Some (w, s)) ≡ true → (s.next ≡ 0) × (last_word words ≡ s.prev) × (count_word words ≡ s.count)
ended_parts words w s e =
    let p = both (eqb s.next 0 && eqb (last_word words) s.prev) (eqb (count_word words) s.count) e in
    let q = both (eqb s.next 0) (eqb (last_word words) s.prev) p.0 in
    (eqb-true _ _ q.0, eqb-true _ _ q.1, eqb-true _ _ p.1)

parts_ended : (words : List ℕ) (w : ℕ) (s : Seen) → s.next ≡ 0 → last_word words ≡ s.prev → count_word words ≡ s.count → ended_well words (Some (w, s)) ≡ true
parts_ended words w s a b c = and_both (and_both (eq-eqb _ _ a) (eq-eqb _ _ b)) (eq-eqb _ _ c)

choose_true : (b x : Bool) → choose b x false ≡ true → (b ≡ true) × (x ≡ true)
choose_true true x e = (refl, e)
choose_true false x e = absurd (false≢true e)

module _ (words keys : List ℕ) (fits : frame_fits words keys ≡ true) where
  abbrev f : Frame
  f = frame words

  framed : FrameOf f words keys
  framed = record { read = refl; fits = fits }

  abbrev zeros : List ℕ
  zeros = replicate (places_in f) 0

  abbrev marking : Way
  marking = record_by f words keys f.form.limit (root_word words) 0 zeros (at_start words)

  -- ── no root ──
  zeros_new : (x : Place) → in_pool f x ≡ true → unmarked (mark_at f x) zeros ≡ true
  zeros_new x p =
      mark_on (mark_at f x) zeros (subst (λ (n : ℕ). mark_at f x < n) (sym (length-replicate (places_in f) 0)) (mark_room f x p)) (zeros_at (places_in f) (mark_at f x))

  empty_sound : root_word words ≡ 0 → ended_well words (Some (0, at_start words)) ≡ true → swept f words keys zeros ≡ true → Sound words keys
  unfolding links_of
  empty_sound z e h =
      record {
        fits = fits;
        rules = λ x u. absurd_cell u (none_used x);
        tree = none;
        good = tt;
        rooted = z;
        once = tt;
        shown = none_used;
        free = λ x p c. blank x p;
        linked = (sym (start_tally f words keys).next ∙ ends.0, ends.1);
        count = ends.2;
      }
    where
      ends : (first_word words ≡ 0) × (last_word words ≡ 0) × (count_word words ≡ 0)
      ends = ended_parts words 0 (at_start words) e

      blank : (x : Place) → in_pool f x ≡ true → blank_at f words keys x ≡ true
      blank x p = swept_blank framed zeros h x p (zeros_new x p)

      by : (x : Place) (b : Bool) → in_pool f x ≡ b → cell_of f words keys x ≡ unused
      by x true p = cell_in_lem f words keys x p ∙ raw_blank f words keys x (blank x p)
      by x false p = cell_out f words keys x p

      none_used : (x : Place) → cell_of f words keys x ≡ unused
      none_used x = by x (in_pool f x) refl

  -- ── a root ──
  module _ (h : ℕ × State) (s : Seen) (t : Tally f words keys marking.marks s h.1) (sw : swept f words keys marking.marks ≡ true) where
    unseen_blank : (x : Place) → in_pool f x ≡ true → ¬ In x h.1.seen → blank_at f words keys x ≡ true
    unseen_blank x p n =
        swept_blank framed marking.marks sw x p
        (mark_on (mark_at f x) marking.marks (subst (λ (k : ℕ). mark_at f x < k) (sym t.long) (mark_room f x p)) (t.off x p n))

    ruled_seen : (x : Place) → Used (ruled f words keys x) → In x h.1.seen
    ruled_seen x u = go (in_dec place_dec x h.1.seen)
      where
        p : in_pool f x ≡ true
        p = (both (in_pool f x) (rule_at f words keys x) (ruled_obeys f words keys framed x u)).0

        go : Dec (In x h.1.seen) → In x h.1.seen
        go (yes i) = i
        go (no n) = absurd_cell u (ruled_blank f words keys x (raw_blank f words keys x (unseen_blank x p n)))

    -- the store of the records that obey their rules is the block's
    ruled_all : (x : Place) → cell_of f words keys x ≡ ruled f words keys x
    ruled_all x = go (in_pool f x) refl (in_dec place_dec x h.1.seen)
      where
        go : (b : Bool) → in_pool f x ≡ b → Dec (In x h.1.seen) → cell_of f words keys x ≡ ruled f words keys x
        go false p d = cell_out f words keys x p ∙ sym (ruled_out f words keys x p)
        go true p (yes i) = cell_in_lem f words keys x p ∙ sym (ruled_raw f words keys x (t.rules x i))
        go true p (no n) =
            let e = raw_blank f words keys x (unseen_blank x p n) in
            cell_in_lem f words keys x p ∙ e ∙ sym (ruled_blank f words keys x e)

    root_sound : ended_well words (Some (h.0, s)) ≡ true → probing f words keys f.form.limit 0 (place_at (root_word words)) start_state ≡ some h → Sound words keys
    root_sound e q =
        record {
          fits = fits;
          rules = λ x u. (both (in_pool f x) (rule_at f words keys x) (ruled_obeys f words keys framed x (subst Used (ruled_all x) u))).1;
          tree = some checked.tree;
          good = good_of f words keys framed checked.tree [] checked.shows;
          rooted = sym (ref_place (root_word words)) ∙ ap ref_of (sym checked.rooted);
          once = checked.once;
          shown = λ x. ruled_all x ∙ checked.shown x;
          free = λ x p c. go x p c (in_dec place_dec x h.1.seen);
          linked = checked.linked;
          count = checked.count;
        }
      where
        ends : (s.next ≡ 0) × (last_word words ≡ s.prev) × (count_word words ≡ s.count)
        ends = ended_parts words h.0 s e

        last_word_lem : (links_of f words).last ≡ last_word words
        last_word_lem = links_last f words

        ended : Ended (links_of f words) (ruled f words keys) (count_word words) h.1
        ended = record {
          seen_all = ruled_seen;
          next_none = sym t.next ∙ ends.0;
          last_is = last_word_lem ∙ ends.1 ∙ t.prev;
          count_is = ends.2 ∙ t.count;
        }

        checked : Checked (links_of f words) (ruled f words keys) (count_word words) (place_at (root_word words))
        checked = check_sound (by_ref f words keys) (links_of f words) (ruled f words keys) (tells f words keys) (count_word words) (suc f.form.limit) (place_at (root_word words)) h q ended

        go : (x : Place) → in_pool f x ≡ true → cell_of f words keys x ≡ unused → Dec (In x h.1.seen) → blank_at f words keys x ≡ true
        go x p c (no n) = unseen_blank x p n
        go x p c (yes i) = absurd_cell (obeys_used f words keys framed x (t.rules x i)) (sym (ruled_all x) ∙ c)

  way_sound : (b : Bool) → eqb (root_word words) 0 ≡ b → way_well f words keys (fork f words keys zeros b) ≡ true → Sound words keys
  unfolding way_well
  way_sound true z e =
      let p = both (ended_well words (Some (0, at_start words))) (swept f words keys zeros) e in
      empty_sound (eqb-true _ _ z) p.0 p.1
  way_sound false z e =
      let p = both (ended_well words marking.visit) (swept f words keys marking.marks) e in
      go (probing f words keys f.form.limit 0 (place_at (root_word words)) start_state) refl
      (record_same f words keys framed f.form.limit (root_word words) 0 zeros (at_start words) start_state (start_tally f words keys)) p.0 p.1
    where
      go : (o : Option (ℕ × State)) → probing f words keys f.form.limit 0 (place_at (root_word words)) start_state ≡ o → Same f words keys marking o → ended_well words marking.visit ≡ true
          → swept f words keys marking.marks ≡ true → Sound words keys
      go none q h e w = absurd (false≢true (sym (ap (ended_well words) h) ∙ e))
      go (some h) q i e w = root_sound h i.0 i.3 w (ap (ended_well words) (sym i.1) ∙ e) q

-- where the check finds the block sound, it is
pub whole_sound : (words keys : List ℕ) → whole_of words keys ≡ true → Sound words keys
unfolding whole_of whole_by
whole_sound words keys e =
    let p = choose_true (frame_fits words keys) (whole_by (frame words) words keys) e in
    way_sound words keys p.0 (eqb (root_word words) 0) refl (ap (way_well (frame words) words keys) (root_by (frame words) words keys (replicate (places_in (frame words)) 0) (eqb (root_word words) 0) refl) ∙ p.1)

-- ── what is sound the check finds so ──
module _ (words keys : List ℕ) (sound : Sound words keys) where
  abbrev g : Frame
  g = frame words

  fr : FrameOf g words keys
  fr = record { read = refl; fits = sound.fits }

  abbrev blanks : List ℕ
  blanks = replicate (places_in g) 0

  abbrev visiting : Way
  visiting = record_by g words keys g.form.limit (root_word words) 0 blanks (at_start words)

  same_cell : (x : Place) → ruled g words keys x ≡ cell_of g words keys x
  same_cell = rules_same g words keys sound.rules

  sound_none : root_word words ≡ 0 → ((x : Place) → cell_of g words keys x ≡ unused) → Linked (links_of g words) 0 [] → count_word words ≡ 0 → way_well g words keys (way (Some (0, at_start words)) blanks) ≡ true
  unfolding way_well
  sound_none z c l n =
      and_both (parts_ended words 0 (at_start words) ((start_tally g words keys).next ∙ l.0) (sym (links_last g words) ∙ l.1) n)
      (blank_swept fr blanks (λ x p u. sound.free x p (c x)))

  sound_some : (t : Tree Held) → Good t → root_word words ≡ ref_of (root t) → Once t [] → ((x : Place) → cell_of g words keys x ≡ store t [] x) → Linked (links_of g words) 0 (leaves t)
      → count_word words ≡ length (contents t) → (root_word words ≡ 0 → ⊥) × (way_well g words keys visiting ≡ true)
  unfolding way_well
  sound_some t good rooted once shown linked n = (not_none (root t) here rooted, found)
    where
      here : in_pool g (root t) ≡ true
      here = used_pool g words keys (root t) (subst Used (sym (shown (root t))) (store_on t [] (root t) (root_in t)))

      not_none : (x : Place) → in_pool g x ≡ true → root_word words ≡ ref_of x → root_word words ≡ 0 → ⊥
      not_none (leaf_place i) p e z = omega arith
      not_none (inner_place k i) p e z = omega (arith, (inner_kind fr k i p).0)

      place : place_at (root_word words) ≡ root t
      place = ap place_at rooted ∙ place_ref g (root t) here

      shown_ruled : (x : Place) → ruled g words keys x ≡ store t [] x
      shown_ruled x = same_cell x ∙ shown x

      shows : Shows t [] (ruled g words keys)
      shows = subst (λ (τ : Store Held). Shows t [] τ) (sym (fun_ext shown_ruled)) (store_shows t [] once)

      probed : (w : ℕ) × (probing g words keys g.form.limit 0 (root t) start_state ≡ some (w, passed t start_state)) × Ended (links_of g words) (ruled g words keys) (count_word words) (passed t start_state)
      probed = sound_check (by_ref g words keys) (links_of g words) (ruled g words keys) (tells g words keys) (count_word words) (suc g.form.limit) t good once shown_ruled linked n (height_short g words keys fr t good shows)

      both_ways : Same g words keys visiting (some (probed.0, passed t start_state))
      both_ways =
          subst (Same g words keys visiting) (ap (λ (x : Place). probing g words keys g.form.limit 0 x start_state) place ∙ probed.1)
          (record_same g words keys fr g.form.limit (root_word words) 0 blanks (at_start words) start_state (start_tally g words keys))

      tally : Tally g words keys visiting.marks both_ways.0 (passed t start_state)
      tally = both_ways.3

      ended : ended_well words visiting.visit ≡ true
      ended =
          ap (ended_well words) both_ways.1
          ∙ parts_ended words probed.0 both_ways.0 (tally.next ∙ probed.2.next_none) (sym (links_last g words) ∙ probed.2.last_is ∙ sym tally.prev) (probed.2.count_is ∙ sym tally.count)

      free_at : (x : Place) → in_pool g x ≡ true → unmarked (mark_at g x) visiting.marks ≡ true → Used (cell_of g words keys x) ⊎ (cell_of g words keys x ≡ unused) → blank_at g words keys x ≡ true
      free_at x p u (inr e) = sound.free x p e
      free_at x p u (inl v) = absurd (false≢true (sym (mark_off (mark_at g x) visiting.marks (tally.on x p (probed.2.seen_all x (subst Used (sym (same_cell x)) v)))) ∙ u))

      found : ended_well words visiting.visit && swept g words keys visiting.marks ≡ true
      found = and_both ended (blank_swept fr visiting.marks (λ x p u. free_at x p u (used_or_free (cell_of g words keys x))))

  by_tree : (o : Option (Tree Held)) → Sane o → Rooted (root_word words) o → OnceOf o → ((x : Place) → cell_of g words keys x ≡ store_of o x) → Linked (links_of g words) 0 (leaves_of o)
      → count_word words ≡ length (held o) → way_well g words keys (root_way g words keys blanks) ≡ true
  by_tree none s r o c l n = ap (way_well g words keys) (sym (root_by g words keys blanks true (eq-eqb _ _ r))) ∙ sound_none r c l n
  by_tree (some t) s r o c l n =
      let p = sound_some t s r o c l n in
      ap (way_well g words keys) (sym (root_by g words keys blanks false (ne_eqb _ _ p.0))) ∙ p.1

-- where the block is sound, the check finds it so
pub sound_whole : (words keys : List ℕ) → Sound words keys → whole_of words keys ≡ true
unfolding whole_of whole_by
sound_whole words keys s =
    ap (λ (b : Bool). choose b (whole_by (frame words) words keys) false) s.fits
    ∙ by_tree words keys s s.tree s.good s.rooted s.once s.shown s.linked s.count

-- ── each tag below a record of a sound block has every byte of the record's run, those that no record stores too, and the byte of its child ──
pub sound_agrees : {words keys : List ℕ} (s : Sound words keys) → AgreesFrom (cell_of (frame words) words keys) s.tree
sound_agrees {words} {keys} s = store_agrees (cell_of (frame words) words keys) s.tree s.good s.once s.shown

-- ── the call: with scratch enough it answers 0 exactly for sound blocks ──
module _ (words keys scratch : List ℕ) where
  check_number : (b c w : Bool) → frame_fits words keys ≡ b → ltb (length scratch) (places_in (frame words)) ≡ c → whole_by (frame words) words keys ≡ w
      → number_of (check_of words keys scratch).result ≡ choose {A = ℕ} b (choose {A = ℕ} c 7 (choose {A = ℕ} w 0 6)) 6
  unfolding check_of
  check_number true true w p q r = simp (p, q)
  check_number true false true p q r = simp (p, q, r)
  check_number true false false p q r = simp (p, q, r)
  check_number false c w p q r = simp p

  pub sound_zero : places_in (frame words) ≤ length scratch → Sound words keys → number_of (check_of words keys scratch).result ≡ 0
  unfolding whole_of
  sound_zero h s =
      let p = choose_true (frame_fits words keys) (whole_by (frame words) words keys) (sound_whole words keys s) in
      check_number true false true p.0 (le-ltb (length scratch) (places_in (frame words)) h) p.1

  pub zero_sound : number_of (check_of words keys scratch).result ≡ 0 → Sound words keys
  unfolding whole_of
  zero_sound e = go (frame_fits words keys) refl (ltb (length scratch) (places_in (frame words))) refl (whole_by (frame words) words keys) refl
    where
      go : (b : Bool) → frame_fits words keys ≡ b → (c : Bool) → ltb (length scratch) (places_in (frame words)) ≡ c → (w : Bool) → whole_by (frame words) words keys ≡ w → Sound words keys
      go true p c q true r = whole_sound words keys (ap (λ (t : Bool). choose t (whole_by (frame words) words keys) false) p ∙ r)
      go true p true q false r = absurd (omega (arith, e, check_number true true false p q r))
      go true p false q false r = absurd (omega (arith, e, check_number true false false p q r))
      go false p c q w r = absurd (omega (arith, e, check_number false c w p q r))
