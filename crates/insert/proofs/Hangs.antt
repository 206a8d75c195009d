-- On a block that shows a tree, what a plan does to the tree's records makes the cells of the grown tree but for the new leaf's.
use Prim.Native.Nat.{ℕ, suc, ◌+◌, ◌*◌, ◌/◌, ◌%◌, ◌≤◌}
use mathlib.Core.Path.{◌≡◌, refl, sym, ap, subst, ◌∙◌}
use mathlib.Core.Logic.{inl, inr, ◌≢◌}
use mathlib.Core.List.{List, []}
use mathlib.Core.Option.{some}
use mathlib.Core.Bool.{true}
use native.Mathlib.Omega.{arith}
use lib.ListN.{length, take, drop, get_or}
use Rattle.states.proofs.OneCell.{used_pool}
use Rattle.frames.specs.Frame.{root_word}
use Rattle.frames.specs.Place.{place_at, ref_of, in_pool}
use Rattle.frames.specs.declared.frame.Frame.{Frame}
use Rattle.frames.proofs.Places.{inner_kind}
use Rattle.records.specs.View.{Held, cell_of}
use Rattle.art.specs.Tags.{Tag}
use Rattle.art.specs.Listings.{Every}
use Rattle.art.specs.Trees.{Tree, contents}
use Rattle.art.specs.Changes.{Plan}
use Rattle.art.specs.Puts.{Apart}
use Rattle.art.specs.Verdicts.{free}
use Rattle.art.specs.Facts.{height}
use Rattle.art.specs.Stores.{Place, leaf_place, inner_place, unused, inner_cell, Store, write, apply, root, store, Used}
use Rattle.art.specs.Refs.{pair_ref}
use Rattle.art.specs.Chain.{Links, leaf_ref}
use Rattle.art.specs.Points.{point, point_verdict, shorten, store_tag}
use Rattle.art.proofs.ReadBack.{some_inj}
use Rattle.art.proofs.Stores.{leaf_inner, used_not}
use Rattle.art.proofs.Checks.{used_or_free}
use Rattle.art.proofs.Verdicts.{free_apart}
use Rattle.art.proofs.Walks.{store_shows}
use Rattle.art.proofs.InsertPoints.{point_judges}
use Rattle.view.specs.Pools.{FreeAt}
use Rattle.view.proofs.Pools.{kind_free}
use Rattle.reading.specs.Answers.{Bytes}
use Rattle.reading.specs.Shown.{Shown}
use Rattle.reading.proofs.Entries.{shown_root, zero_unused, tree_shows}
use Rattle.tree.specs.Seen.{tag_at}
use Rattle.points.specs.Point.{point_of}
use Rattle.points.specs.declared.insert_point.Point.{Point}
use Rattle.states.specs.State.{State}
use Rattle.states.proofs.Lowest.{state_used, lowest_inner}
use Rattle.writes.specs.Above.{link_up}
use Rattle.pointed.specs.Told.{up_told, told}
use Rattle.pointed.proofs.Aparts.{up_apart}
use Rattle.pointed.proofs.Ups.{up_edits, up_root}
use Rattle.insert.specs.declared.plan.Site.{Site}
use Rattle.insert.specs.Apply.{forked, hung}
use Rattle.insert.specs.Grown.{NextFree, Chosen}
use Rattle.insert.proofs.Plans.{Planned, first, adds, grows, forks}
use Rattle.insert.proofs.Runs.{PlaceRun}
use Rattle.insert.proofs.Intos.{into_children, add_state, grow_state}
use Rattle.insert.proofs.Forks.{fork_tag, fork_state}
use Rattle.insert.proofs.Ready.{bytes_all, told_point, into_fits, into_byte, fork_fits, fork_run, fork_there}
use Rattle.insert.proofs.Plants.{stay_plan, move_plan, fork_plan, Planted, add_planted, grow_planted, fork_planted}

-- the block shows τ, with ref for its root, which is the tree grown by a plan but for the leaf; and the tag is apart from every held one
pub record Hung (f : Frame) (words keys : List ℕ) (t : Tree Held) (tag : Tag) (n : ℕ) (links : Links) (count : ℕ) : Type 0 where
  pub plan : Plan
  pub cells : Store Held
  pub ref : ℕ
  pub state : State f words keys cells links ref count
  pub planted : Planted t tag n plan cells ref
  pub chosen : Chosen f (store t []) plan (point (suc (height t)) (store t []) (root t) tag)
  pub apart : Every (Apart tag) (contents t)

-- a block that shows a tree has a root
pub root_not : {f : Frame} {words keys : List ℕ} {t : Tree Held} → Shown f words keys (some t) → root_word words ≢ 0
root_not {f} {words} {keys} {t} s z =
    zero_unused s.frame (subst (λ (x : Place). Used (cell_of f words keys x)) (sym s.rooted ∙ ap place_at z) (shown_root (cell_of f words keys) [] t (tree_shows s)))

-- a run's record is in use
run_used : (σ : Store Held) (y : Place) (w d c k m : ℕ) → PlaceRun σ y w d c → σ (inner_place k m) ≡ unused → y ≢ inner_place k m
run_used σ (leaf_place n) w d c k m r h e = leaf_inner n k m e
run_used σ (inner_place i n) w d c k m r h e = used_not (σ (inner_place i n)) (subst Used (sym r.shown) tt) (ap σ e ∙ h)

module _ {f : Frame} {words keys : List ℕ} {t : Tree Held} {links : Links} {count : ℕ} (s : Shown f words keys (some t)) (st : State f words keys (store t []) links (ref_of (root t)) count)
    (tag : List ℕ) (tag_bytes : Bytes tag) (key-bytes : Bytes keys) (short : length tag ≤ f.form.limit) (n : ℕ) (pool : in_pool f (leaf_place n) ≡ true) (new : store t [] (leaf_place n) ≡ unused) where
  abbrev σ : Store Held
  σ = store t []

  abbrev most : ℕ
  most = suc (height t)

  -- kind 0 has no records
  spare : σ (inner_place 0 0) ≡ unused
  spare = elim (used_or_free (σ (inner_place 0 0))) [ inl u ↦ absurd (omega (arith, (inner_kind st.frame 0 0 (used_pool st (inner_place 0 0) u)).0)) | inr e ↦ e ]

  at : (p : Point) → point_of f words keys tag (root_word words) ≡ p → point most σ (root t) tag ≡ told p
  at p e = sym (told_point s tag tag_bytes) ∙ ap told e

  tag_apart : (p : Point) → point_of f words keys tag (root_word words) ≡ p → point_verdict (told p) ≡ some free → Every (Apart tag) (contents t)
  tag_apart p e v =
      free_apart tag (contents t) (some_inj (sym (point_judges most σ t s.good (store_shows t [] s.once) (omega arith) tag) ∙ ap point_verdict (at p e) ∙ v))

  -- records of the smaller kinds are in use, and those of lower numbers
  next_free : (kind k m : ℕ) → FreeAt f words kind k m → NextFree f σ kind k m
  next_free kind k m h = ((h.from, λ j i l less p. state_used st (inner_place j i) p (h.smaller j i l less p)), lowest_inner st k m h.pool h.free h.lower)

  takes : (p : Point) → point_of f words keys tag (root_word words) ≡ p → (plan : Plan) → Chosen f σ plan (told p) → Chosen f σ plan (point most σ (root t) tag)
  takes p e plan h = subst (Chosen f σ plan) (sym (at p e)) h

  pub hung_tree : (site : Site) → Planned f words keys tag site → Hung f (hung f keys tag site (leaf_ref n) words) keys t tag n links count
  unfolding hung
  hung_tree site (first z) = absurd (root_not s z)
  hung_tree site (adds up ref byte u e room) =
      let fits = into_fits s tag tag_bytes up ref byte e in
      record {
        plan = stay_plan n;
        cells = _;
        ref = ref_of (root t);
        state = add_state st tag up ref byte fits room (into_byte s tag tag_bytes up ref byte e) n pool;
        planted = add_planted t s.good s.once most (omega arith) tag n new (up_told up) (ref % 8) (ref / 8) byte fits (at _ e) spare (ref_of (root t)) refl;
        chosen = takes _ e (stay_plan n) (inl (omega (arith, room, into_children st tag up ref byte fits), refl));
        apart = tag_apart _ e refl;
      }
  hung_tree site (grows up ref byte k m u e full fr) =
      let fits = into_fits s tag tag_bytes up ref byte e in
      let f' = kind_free f words (suc (ref % 8)) k m fr in
      let next = next_free (suc (ref % 8)) k m f' in
      record {
        plan = move_plan n k m;
        cells = _;
        ref = up_root (up_told up) (ref_of (root t)) (m * 8 + k);
        state = grow_state st tag up ref byte fits (up_apart t s.once) (into_byte s tag tag_bytes up ref byte e) n pool k m f';
        planted = grow_planted t s.good s.once most (omega arith) tag n new (up_told up) (ref % 8) (ref / 8) byte fits (at _ e) spare k m next.1.free (ref_of (root t)) refl;
        chosen = takes _ e (move_plan n k m) (inr (omega (arith, full, into_children st tag up ref byte fits), next));
        apart = tag_apart _ e refl;
      }
  hung_tree site (forks up ref leaf d c k m u e fr) =
      let fits = fork_fits s tag tag_bytes up ref leaf d c e in
      let run = fork_run s tag tag_bytes up ref leaf d c e in
      let there = fork_there s tag tag_bytes up ref leaf d c e in
      let f' = kind_free f words 1 k m fr in
      let next = next_free 1 k m f' in
      let y : Place = place_at ref in
      let made : Tag → Store Held = λ v. apply (write (apply σ (shorten v d c y (σ y))) (inner_place k m) (inner_cell c (take 8 (take c (drop d tag))) (pair_ref (get_or tag (d + c) 0) (leaf_place n) (get_or v (d + c) 0) y))) (up_edits σ (up_told up) (inner_place k m)) in
      record {
        plan = fork_plan n k m;
        cells = made (store_tag σ (leaf / 8));
        ref = up_root (up_told up) (ref_of (root t)) (m * 8 + k);
        state = subst (λ (v : Tag). State f (link_up f up (m * 8 + k) (forked f ref (m * 8 + k) tag (tag_at f words keys leaf) d c (leaf_ref n) words)) keys (made v) links (up_root (up_told up) (ref_of (root t)) (m * 8 + k)) count)
            (sym (fork_tag st (up_apart t s.once) tag up ref leaf d c fits run there (bytes_all tag tag_bytes) (bytes_all keys key-bytes) short n pool k m f'))
            (fork_state st (up_apart t s.once) tag up ref leaf d c fits run there (bytes_all tag tag_bytes) (bytes_all keys key-bytes) short n pool k m f');
        planted = fork_planted t s.good s.once most (omega arith) tag n new (up_told up) y (leaf / 8) d c (at _ e) k m next.1.free (run_used σ y (leaf / 8) d c k m run next.1.free) (ref_of (root t)) refl;
        chosen = takes _ e (fork_plan n k m) next;
        apart = tag_apart _ e refl;
      }
