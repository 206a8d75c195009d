-- On a sound block a plan for a new leaf can be applied: its records are there, its free ones are unused, and the leaf list and the count have room.
use Prim.Native.Nat.{ℕ, suc, ◌/◌, ◌%◌, ◌≤◌, ◌<◌}
use mathlib.Core.Path.{◌≡◌, sym, ap, subst, ◌∙◌, fun_ext}
use mathlib.Core.List.{List, []}
use mathlib.Core.Option.{Option, none, some}
use mathlib.Core.Bool.{true}
use native.Mathlib.Omega.{arith}
use lib.ListN.{length, get_or}
use borrow.Author.Tests.{le-leb}
use Rattle.std.specs.Prelude.{Ok}
use Rattle.insert.specs.declared.plan.Plan.TheVariants.{New}
use Rattle.points.specs.There.{Up, PointThere, ForkThere}
use Rattle.lists.specs.Scan.{all_pass, at_most}
use Rattle.lists.proofs.Tests.{all_by}
use Rattle.frames.specs.Frame.{root_word, frame}
use Rattle.frames.specs.Place.{place_at, in_pool}
use Rattle.frames.specs.declared.frame.Frame.{Frame}
use Rattle.frames.proofs.Frames.{framed, caps_most}
use Rattle.records.specs.View.{Held}
use Rattle.art.specs.Trees.{Tree}
use Rattle.art.specs.Facts.{height}
use Rattle.art.specs.Stores.{leaf_place, Store, root, store}
use Rattle.art.specs.Chain.{Links, leaf_ref}
use Rattle.art.specs.Points.{IntoFits, ForkFits, PointFits, point, store_of}
use Rattle.art.proofs.Walks.{store_shows}
use Rattle.art.proofs.FitPoints.{point_fits}
use Rattle.view.proofs.Links.{used_leaf}
use Rattle.view.proofs.Pools.{free_leaf, kind_free}
use Rattle.whole.specs.Sound.{Sound}
use Rattle.reading.specs.Answers.{Bytes}
use Rattle.reading.specs.Shown.{Shown}
use Rattle.points.specs.Point.{point_of}
use Rattle.points.specs.declared.insert_point.Point.{Point}
use Rattle.points.specs.declared.insert_point.Point.TheVariants as code
use Rattle.writes.specs.declared.leaf_node.Gap.{Gap}
use Rattle.states.specs.State.{State}
use Rattle.states.proofs.Sounds.{sound_state}
use Rattle.pointed.specs.Told.{up_told, told}
use Rattle.pointed.proofs.Points.{point_shown}
use Rattle.pointed.proofs.Sounds.{sound_shown}
use Rattle.pointed.proofs.Aparts.{up_apart}
use Rattle.insert.specs.declared.plan.Site.{Site}
use Rattle.insert.specs.Plan.{plan_of}
use Rattle.insert.specs.Apply.{SiteReady, NewReady}
use Rattle.points.proofs.There.{point_there}
use Rattle.insert.proofs.Plans.{Planned, first, adds, grows, forks, Newly, plan_new}
use Rattle.insert.proofs.Afters.{held_few}
use Rattle.insert.proofs.Gaps.{next_used, previous_used}
use Rattle.insert.proofs.Runs.{PlaceRun, PointRun, point_run}
use Rattle.insert.proofs.Intos.{add_ready, grow_ready}
use Rattle.insert.proofs.Forks.{fork_ready}

pub bytes_all : (l : List ℕ) → Bytes l → all_pass (at_most 255) l ≡ true
bytes_all l h = all_by (at_most 255) l (λ i k. le-leb (get_or l i 0) 255 (omega (arith, h i)))

-- ── the point of the tag in the tree ──
module _ {f : Frame} {words keys : List ℕ} {t : Tree Held} (s : Shown f words keys (some t)) (tag : List ℕ) (bytes : Bytes tag) where
  pub told_point : told (point_of f words keys tag (root_word words)) ≡ point (suc (height t)) (store t []) (root t) tag
  told_point =
      point_shown s tag bytes (suc (height t)) (omega arith)
      ∙ ap (λ (τ : Store Held). point (suc (height t)) τ (root t) tag) (fun_ext s.cells)

  pub told_fits : PointFits (store t []) tag (told (point_of f words keys tag (root_word words)))
  told_fits = subst (PointFits (store t []) tag) (sym told_point) (point_fits (store t []) (suc (height t)) t s.good (store_shows t [] s.once) (omega arith) tag)

  pub told_run : PointRun (store t []) (told (point_of f words keys tag (root_word words)))
  told_run = subst (PointRun (store t [])) (sym told_point) (point_run (store t []) (suc (height t)) t s.good (store_shows t [] s.once) (omega arith) tag)

  pub into_fits : (up : Up) (ref byte : ℕ) → point_of f words keys tag (root_word words) ≡ code.Into up ref byte → IntoFits (store t []) tag (up_told up) (ref % 8) (ref / 8) byte
  into_fits up ref byte e = subst (λ (p : Point). PointFits (store t []) tag (told p)) e told_fits

  pub into_byte : (up : Up) (ref byte : ℕ) → point_of f words keys tag (root_word words) ≡ code.Into up ref byte → byte < 256
  into_byte up ref byte e =
      let i = into_fits up ref byte e in
      omega (arith, bytes i.depth, i.byte)

  pub fork_fits : (up : Up) (ref leaf d c : ℕ) → point_of f words keys tag (root_word words) ≡ code.Fork up ref leaf d c → ForkFits (store t []) tag (up_told up) (place_at ref) (leaf / 8) d c
  fork_fits up ref leaf d c e = subst (λ (p : Point). PointFits (store t []) tag (told p)) e told_fits

  pub fork_run : (up : Up) (ref leaf d c : ℕ) → point_of f words keys tag (root_word words) ≡ code.Fork up ref leaf d c → PlaceRun (store t []) (place_at ref) (leaf / 8) d c
  fork_run up ref leaf d c e = subst (λ (p : Point). PointRun (store t []) (told p)) e told_run

  pub fork_there : (up : Up) (ref leaf d c : ℕ) → point_of f words keys tag (root_word words) ≡ code.Fork up ref leaf d c → ForkThere f words keys tag up ref leaf d c
  fork_there up ref leaf d c e = subst (PointThere f words keys tag) e (point_there s.frame tag (root_word words))

-- ── the site ──
module _ {f : Frame} {words keys : List ℕ} (tag : List ℕ) (tag_bytes : Bytes tag) (key-bytes : Bytes keys)
    (short : length tag ≤ f.form.limit) (n : ℕ) (pool : in_pool f (leaf_place n) ≡ true) where
  tree_ready : {t : Tree Held} {links : Links} {root count : ℕ} → Shown f words keys (some t) → State f words keys (store t []) links root count → (site : Site) → Planned f words keys tag site
      → SiteReady f words keys tag site (leaf_ref n)
  tree_ready {t} s st site (first e) = tt
  tree_ready {t} s st site (adds up ref byte u e room) = add_ready st tag up ref byte (into_fits s tag tag_bytes up ref byte e) room
  tree_ready {t} s st site (grows up ref byte k m u e full free) =
      grow_ready st tag up ref byte (into_fits s tag tag_bytes up ref byte e) (up_apart t s.once) (into_byte s tag tag_bytes up ref byte e) n pool k m (kind_free f words (suc (ref % 8)) k m free)
  tree_ready {t} s st site (forks up ref leaf d c k m u e free) =
      fork_ready st (up_apart t s.once) tag up ref leaf d c (fork_fits s tag tag_bytes up ref leaf d c e) (fork_run s tag tag_bytes up ref leaf d c e) (fork_there s tag tag_bytes up ref leaf d c e)
      (bytes_all tag tag_bytes) (bytes_all keys key-bytes) short n pool k m (kind_free f words 1 k m free)

  -- without a tree there is no root, and so no point
  bare_ready : Shown f words keys none → (site : Site) → Planned f words keys tag site → SiteReady f words keys tag site (leaf_ref n)
  bare_ready s site (first e) = tt
  bare_ready s site (adds up ref byte u e room) = absurd (u s.rooted)
  bare_ready s site (grows up ref byte k m u e full free) = absurd (u s.rooted)
  bare_ready s site (forks up ref leaf d c k m u e free) = absurd (u s.rooted)

  site_ready : {links : Links} {root count : ℕ} (d : Option (Tree Held)) → Shown f words keys d → State f words keys (store_of d) links root count → (site : Site) → Planned f words keys tag site
      → SiteReady f words keys tag site (leaf_ref n)
  site_ready none s st site p = bare_ready s site p
  site_ready (some t) s st site p = tree_ready s st site p

-- the free leaf that a plan takes
pub new_pool : {f : Frame} {words keys tag : List ℕ} {site : Site} {n : ℕ} {gap : Gap} {d : Option (Tree Held)} → Shown f words keys d → Newly f words keys tag site n gap → in_pool f (leaf_place n) ≡ true
new_pool {f} {words} s p = ap (λ (m : ℕ). in_pool f (leaf_place m)) (sym p.number) ∙ (free_leaf f words p.room).0

pub insert_ready : {words keys tag : List ℕ} → Sound words keys → Bytes tag → Bytes keys → length tag ≤ (frame words).form.limit
    → (site : Site) (n : ℕ) (gap : Gap) → plan_of (frame words) words keys tag ≡ Ok (New site n gap) → NewReady (frame words) words keys tag site n gap
insert_ready {words} {keys} {tag} s tag_bytes key-bytes short site n gap e =
    let f : Frame = frame words in
    let sh = sound_shown s in
    let p = plan_new f words keys tag site n gap e in
    let pool : in_pool f (leaf_place n) ≡ true = new_pool sh p in
    record {
      site_ready = site_ready tag tag_bytes key-bytes short n pool s.tree sh (sound_state s) site p.planned;
      pool = pool;
      short = short;
      before = used_leaf f words keys gap.previous (previous_used sh tag gap p.placed);
      after = used_leaf f words keys gap.next (next_used sh tag gap p.placed);
      counted = omega (arith, s.count, held_few sh, caps_most (framed sh.frame) 5 (omega arith));
    }
