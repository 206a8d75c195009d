-- On a block that shows a tree the plan is made of what is there: the leaf that holds the tag, and a cut that may be made; it says Missing exactly where the tag is not held, and never Broken.
use Prim.Native.Nat.{ℕ, suc, ◌+◌, ◌-◌, ◌*◌, ◌/◌, ◌%◌, ◌≤◌, ◌<◌}
use mathlib.Core.Path.{◌≡◌, refl, sym, ap, subst, ◌∙◌}
use mathlib.Core.Logic.{inl, inr, ◌≢◌}
use mathlib.Core.List.{List, []}
use mathlib.Core.Option.{none, some}
use mathlib.Core.Bool.{Bool, true, false}
use native.Mathlib.Omega.{arith}
use borrow.Author.Tests.{leb-true, leb-false, le-leb, ltb-false, ne_eqb}
use Rattle.std.specs.Prelude.{Some, None, Ok, Err}
use Rattle.refusals.specs.declared.Refusal.TheVariants.{Missing}
use Rattle.delete.specs.Plan.{Planned, other_entry, merge_cut, shrink_cut, cut_under, cut_of, gap_of, point_plan, plan_of}
use Rattle.points.specs.There.{Up}
use lib.ListN.{length, get_or}
use lib.Dec.{leb, ltb}
use Rattle.states.proofs.OneCell.{used_pool}
use Rattle.lists.specs.Scan.{choose}
use Rattle.lists.proofs.Tests.{and_both}
use Rattle.frames.specs.Kind.{children_of, mark_of, before}
use Rattle.frames.specs.Frame.{root_word}
use Rattle.frames.specs.Place.{ref_of, in_pool, record_at}
use Rattle.frames.specs.declared.frame.Frame.{Frame}
use Rattle.frames.proofs.KindTable.{kind_rules}
use Rattle.frames.proofs.Places.{inner_kind}
use Rattle.records.specs.Row.{row_at, Entry}
use Rattle.records.specs.View.{Held, places}
use Rattle.art.specs.Trees.{Tree, Good, contents}
use Rattle.art.specs.Listings.{lookup}
use Rattle.art.specs.Facts.{height}
use Rattle.art.specs.Deletes.{Home, stay}
use Rattle.art.specs.Drops.{Roomy}
use Rattle.art.specs.Stores.{Place, leaf_place, inner_place, Cell, leaf_cell, Store, Used, root, refs, store, Once}
use Rattle.art.specs.Refs.{Refs, find_ref, cut_ref}
use Rattle.art.specs.Chain.{Links}
use Rattle.art.specs.Points as art
use Rattle.art.proofs.Refs.{count_refs}
use Rattle.art.proofs.Stores.{own}
use Rattle.art.proofs.Walks.{store_shows}
use Rattle.art.proofs.FitPoints.{point_fits}
use Rattle.art.proofs.AlterPoints.{point_finds}
use Rattle.pools.specs.Pool.{lowest_free}
use Rattle.view.proofs.Pools.{lowest_free_lem, lowest_used, none_free}
use Rattle.reading.specs.Answers.{Bytes}
use Rattle.reading.specs.Shown.{Shown}
use Rattle.points.specs.Point.{point_of}
use Rattle.points.specs.declared.insert_point.Point.{Point}
use Rattle.points.specs.declared.insert_point.Point.TheVariants.{Holds, Clash, Into, Fork, Broken}
use Rattle.writes.specs.declared.leaf_node.Gap.{Gap}
use Rattle.pointed.specs.Told.{up_told, told}
use Rattle.states.specs.State.{State}
use Rattle.states.proofs.Steps.{state_count_word, state_leaf}
use Rattle.states.proofs.Standing.{ref_some, stands}
use Rattle.states.proofs.Lowest.{state_used, lowest_inner}
use Rattle.delete.specs.declared.plan.Cut.{Cut}
use Rattle.delete.specs.declared.plan.Cut.TheVariants.{Stay, Shrink}
use Rattle.delete.specs.Without.{Goes, stays, shrinks, crowded, Settles}
use Rattle.pointed.proofs.Points.{point_shown}
use Rattle.pointed.proofs.Aparts.{up_apart, upper_apart}
use Rattle.pointed.proofs.Ups.{inner_here}
use Rattle.delete.proofs.Unders.{Under, UpUnder, PointUnder, point_under}
use Rattle.delete.proofs.Lefts.{cut_length, other_left}
use Rattle.delete.proofs.Cuts.{Pruned, shrink_home, root_done, stay_done, shrink_done, merge_done}

-- a cut may be made, with homes that are free, and the record above goes where it should
pub record CutFits (f : Frame) (words keys : List ℕ) (σ : Store Held) (links : Links) (count : ℕ) (cut : Cut) (upper up : art.Up) (o : Place) : Type 0 where
  pub home : Home
  pub roomy : Roomy home σ
  pub settles : Settles f σ home up
  pub done : Pruned f words keys σ links count cut home upper up o

-- ── the cut ──
module _ {f : Frame} {words keys : List ℕ} {σ : Store Held} {links : Links} {root_ref count : ℕ} (s : State f words keys σ links root_ref count)
    (near : (k n c : ℕ) (v : Place) → art.ChildAt σ k n c v → inner_place k n ≢ v)
    (far : (k n c i m d : ℕ) (v : Place) → art.ChildAt σ k n c (inner_place i m) → art.ChildAt σ i m d v → inner_place k n ≢ v)
    (o : Place) (er : root_ref ≡ ref_of o) (upper : Up) (ref b : ℕ) (y : Place) (w : Under σ o (up_told upper) (ref % 8) (ref / 8) b y) where
  abbrev x : Place
  x = inner_place (ref % 8) (ref / 8)

  abbrev rs : Refs
  rs = refs w.row

  abbrev Fits : Cut → Type 0
  Fits cut = CutFits f words keys σ links count cut (up_told upper) (art.via (ref % 8) (ref / 8) b) o

  here_used : Used (σ x)
  here_used = subst Used (sym w.shown) tt

  pool : in_pool f x ≡ true
  pool = used_pool s x here_used

  -- where it goes with one child less
  settles_by : (hm : Home) → ((l : ℕ) → suc l ≡ length rs → 2 ≤ l → Goes f σ (ref % 8) (ref / 8) l (hm (ref % 8) (ref / 8) l)) → Settles f σ hm (art.via (ref % 8) (ref / 8) b)
  settles_by hm goes =
      subst (λ (c : Cell Held). let l : ℕ = length (cut_ref b (art.cell_refs c)) in 2 ≤ l → Goes f σ (ref % 8) (ref / 8) l (hm (ref % 8) (ref / 8) l)) (sym w.shown)
      (λ two. goes (length (cut_ref b rs)) (cut_length b rs y w.child_is) two)

  stay_fits : 3 ≤ length rs → ((l : ℕ) → suc l ≡ length rs → 2 ≤ l → Goes f σ (ref % 8) (ref / 8) l (ref % 8, ref / 8)) → Fits (Stay ref b)
  stay_fits three goes = record { home = stay; roomy = λ k n l. inl refl; settles = settles_by stay goes; done = stay_done s near far o er upper ref b y w three }

  -- two children, of which one is left
  merge_row : length rs ≡ 2 → (row : List (ℕ × ℕ)) → length row ≡ 2 → places row ≡ rs → Fits (merge_cut upper ref b (other_entry b row))
  merge_row left row two e =
      let other = other_left b row y two (ap (λ (l : Refs). find_ref l b) e ∙ w.child_is) in
      subst (λ (i : Entry). Fits (merge_cut upper ref b i)) (sym other.is)
      (record { home = stay; roomy = λ k n l. inl refl; settles = settles_by stay (λ l i more. absurd (omega arith)); done = merge_done s near far o er upper ref b y w other.byte other.ref (ap (cut_ref b) (sym e) ∙ other.left) })

  merge_fits : length rs ≡ 2 → Fits (merge_cut upper ref b (other_entry b (row_at f.form (ref % 8) (record_at f words x))))
  merge_fits two =
      let here = stands s (ref % 8) (ref / 8) _ _ rs w.shown in
      merge_row two (row_at f.form (ref % 8) (record_at f words x)) (here.size ∙ two) here.refs_are

  -- a smaller kind has room, and a free record or not
  shrink_fits : 3 ≤ length rs → length rs ≤ mark_of (ref % 8) + 1 → Fits (shrink_cut f words upper ref b)
  unfolding shrink_cut before
  shrink_fits three few = go (ltb m (get_or f.caps j 0)) refl
    where
      j : ℕ
      j = ref % 8 - 1

      m : ℕ
      m = lowest_free f words j

      kind : (1 ≤ ref % 8) × (ref % 8 ≤ 4)
      kind = inner_kind s.frame (ref % 8) (ref / 8) pool

      room : (t : Bool) → leb 2 (ref % 8) ≡ t → mark_of (ref % 8) ≡ choose t (children_of j) 0 → length rs ≤ children_of j + 1
      room true e i = omega arith
      room false e i = absurd (omega arith)

      go : (t : Bool) → ltb m (get_or f.caps j 0) ≡ t → Fits (choose t (Shrink upper ref (m * 8 + j) b) (Stay ref b))
      go false t =
          stay_fits three (λ l i two. crowded refl (omega arith) (λ n p. state_used s (inner_place j n) p (none_free f words (inner_place j n) p (ltb-false _ _ t))))
      go true t =
          let new_pool : in_pool f (inner_place j m) ≡ true = and_both (le-leb j 4 (omega (arith, kind.1))) t in
          let low = lowest_inner s j m new_pool (lowest_free_lem f words (inner_place j m) new_pool refl) (λ i h. lowest_used f words (inner_place j i) h) in
          record {
            home = shrink_home j m;
            roomy = λ k n l. inr low.free;
            settles = settles_by (shrink_home j m) (λ l i two. shrinks (omega (arith, kind.0)) (omega arith) low);
            done = shrink_done s near far o er upper ref b y w j m new_pool low.free three (room (leb 2 (ref % 8)) refl (kind_rules (ref % 8) kind.0 kind.1).mark);
          }

  pub under_fits : Fits (cut_under f words upper ref b)
  unfolding cut_under
  under_fits =
      let row : List (ℕ × ℕ) = row_at f.form (ref % 8) (record_at f words x) in
      subst (λ (p : Place). Fits (cut_by (get_or (record_at f words p) 1 0) (row_at f.form (ref % 8) (record_at f words p)))) (sym (inner_here s ref here_used))
      (subst (λ (c : ℕ). Fits (cut_by c row)) (sym size) (go (leb (length rs) 2) refl (leb (length rs) (mark_of (ref % 8) + 1)) refl))
    where
      -- by the count of children and the row
      cut_by : ℕ → List (ℕ × ℕ) → Cut
      cut_by c row = choose (leb c 2) (merge_cut upper ref b (other_entry b row)) (choose (leb c (mark_of (ref % 8) + 1)) (shrink_cut f words upper ref b) (Stay ref b))

      size : get_or (record_at f words x) 1 0 ≡ length rs
      size = state_count_word s (ref % 8) (ref / 8) _ _ rs w.shown

      go : (t : Bool) → leb (length rs) 2 ≡ t → (u : Bool) → leb (length rs) (mark_of (ref % 8) + 1) ≡ u
          → Fits (choose t (merge_cut upper ref b (other_entry b (row_at f.form (ref % 8) (record_at f words x)))) (choose u (shrink_cut f words upper ref b) (Stay ref b)))
      go true t u e = merge_fits (omega (arith, leb-true (length rs) 2 t, count_refs w.row, w.many))
      go false t true e = shrink_fits (omega (arith, leb-false (length rs) 2 t)) (leb-true (length rs) (mark_of (ref % 8) + 1) e)
      go false t false e = stay_fits (omega (arith, leb-false (length rs) 2 t)) (λ l i two. stays refl (omega (arith, leb-false (length rs) (mark_of (ref % 8) + 1) e)))

-- ── the plan ──
-- the leaf n holds the tag, its neighbours are as said, and the cut may be made
pub record OutFits (f : Frame) (words keys tag : List ℕ) (t : Tree Held) (links : Links) (size : ℕ) (cut : Cut) (n : ℕ) (gap : Gap) : Type 0 where
  pub upper : art.Up
  pub up : art.Up
  pub at : art.point (suc (height t)) (store t []) (root t) tag ≡ art.holds upper up n
  pub held : Held
  pub leaf_is : store t [] (leaf_place n) ≡ leaf_cell tag held
  pub number_is : held.number ≡ n
  pub found : lookup tag (contents t) ≡ some held
  pub gap_is : gap ≡ gap_of f words n
  pub cut_fits : CutFits f words keys (store t []) links size cut upper up (root t)

abbrev pub PlanFits : Frame → (words keys tag : List ℕ) → Tree Held → Links → ℕ → Planned → Type 0
PlanFits f words keys tag t links size (Ok plan) = OutFits f words keys tag t links size plan.cut plan.leaf plan.gap
PlanFits f words keys tag t links size (Err Missing) = lookup tag (contents t) ≡ none
PlanFits f words keys tag t links size (Err refusal) = ⊥

module _ {f : Frame} {words keys : List ℕ} {links : Links} {root_ref size : ℕ} (t : Tree Held) (good : Good t) (once : Once t [])
    (s : State f words keys (store t []) links root_ref size) (er : root_ref ≡ ref_of (root t)) (tag : List ℕ) where
  abbrev σ : Store Held
  σ = store t []

  abbrev pt : art.Point
  pt = art.point (suc (height t)) σ (root t) tag

  deep : height t < suc (height t)
  deep = omega arith

  finds : art.point_held σ pt ≡ lookup tag (contents t)
  finds = point_finds (suc (height t)) σ t good (store_shows t [] once) deep tag

  fits : art.PointFits σ tag pt
  fits = point_fits σ (suc (height t)) t good (store_shows t [] once) deep tag

  under : PointUnder σ (root t) pt
  under = point_under (suc (height t)) t good once deep tag

  cut_of_lem : (upper up : Up) (y : Place) → UpUnder σ (root t) (up_told upper) (up_told up) y → CutFits f words keys σ links size (cut_of f words upper up) (up_told upper) (up_told up) (root t)
  cut_of_lem upper None y w = record { home = stay; roomy = λ k n l. inl refl; settles = tt; done = root_done s stay (up_told upper) (root t) }
  cut_of_lem upper (Some (ref, b)) y w = under_fits s (up_apart t once) (upper_apart t once) (root t) er upper ref b y w

  point_plan_lem : (p : Point) → told p ≡ pt → PlanFits f words keys tag t links size (point_plan f words p)
  unfolding point_plan
  point_plan_lem (Holds upper up leaf) e =
      let n = leaf / 8 in
      let h : art.HoldsFits σ tag (up_told upper) (up_told up) n = subst (art.PointFits σ tag) (sym e) fits in
      let u : UpUnder σ (root t) (up_told upper) (up_told up) (leaf_place n) = subst (PointUnder σ (root t)) (sym e) under in
      record {
        upper = up_told upper;
        up = up_told up;
        at = sym e;
        held = h.held;
        leaf_is = h.shown;
        number_is = (state_leaf s n tag h.held h.shown).2;
        found = sym finds ∙ ap (art.point_held σ) (sym e) ∙ ap art.cell_held h.shown;
        gap_is = refl;
        cut_fits = cut_of_lem upper up (leaf_place n) u;
      }
  point_plan_lem Clash e = sym finds ∙ ap (art.point_held σ) (sym e)
  point_plan_lem (Into up ref byte) e = sym finds ∙ ap (art.point_held σ) (sym e)
  point_plan_lem (Fork up ref leaf d c) e = sym finds ∙ ap (art.point_held σ) (sym e)
  point_plan_lem Broken e = subst (art.PointFits σ tag) (sym e) fits

  pub plan_fits : Shown f words keys (some t) → Bytes tag → PlanFits f words keys tag t links size (plan_of f words keys tag)
  unfolding plan_of
  plan_fits shown bytes =
      let there : told (point_of f words keys tag (root_word words)) ≡ pt =
      point_shown shown tag bytes (suc (height t)) deep ∙ ap (λ (τ : Store Held). art.point (suc (height t)) τ (root t) tag) s.cells in
      let some_root : root_word words ≡ 0 → ⊥ = λ e. omega (arith, ref_some s.frame (root t) (used_pool s (root t) (own t [])), e, s.root_is, er) in
      let here = point_of f words keys tag (root_word words) in
      subst (λ (b : Bool). PlanFits f words keys tag t links size (choose b (Err Missing) (point_plan f words here))) (sym (ne_eqb (root_word words) 0 some_root)) (point_plan_lem here there)
