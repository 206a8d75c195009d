-- A plan for a new leaf, taken apart: its point, the free records that it takes, and the leaf's place in the list.
use Prim.Native.Nat.{ℕ, suc, ◌+◌, ◌*◌, ◌%◌, ◌≤◌, ◌<◌}
use mathlib.Core.Path.{◌≡◌, refl, ap, subst}
use mathlib.Core.Logic.{◌≢◌}
use mathlib.Core.List.{List}
use mathlib.Core.Bool.{Bool, true, false}
use native.Mathlib.Omega.{arith}
use lib.ListN.{get_or}
use lib.Dec.{eqb, ltb}
use borrow.Author.Tests.{eqb-true, eqb-false, ltb-true, ltb-false}
use Rattle.std.specs.Prelude.{Some, None, Ok, Err}
use Rattle.refusals.specs.declared.Refusal.TheVariants.{Missing, NoLeaf}
use Rattle.insert.specs.declared.plan.Plan.TheVariants.{New}
use Rattle.insert.specs.Plan.{Choice, grow_choice, into_choice, fork_with, fork_choice, gap_at, gap_end, new_plan, site_plan, leaf_plan, point_plan, plan_of}
use Rattle.points.specs.There.{Up}
use Rattle.pools.specs.Pool.{Free, lowest_free, free_kind}
use Rattle.tree.specs.Answer.{Found}
use Rattle.lists.specs.Scan.{choose}
use Rattle.frames.specs.Kind.{children_of}
use Rattle.frames.specs.Frame.{root_word}
use Rattle.frames.specs.Place.{place_at, record_at}
use Rattle.frames.specs.declared.frame.Frame.{Frame}
use Rattle.range.specs.Range.{after_first}
use Rattle.points.specs.Point.{point_of}
use Rattle.points.specs.declared.insert_point.Point.{Point}
use Rattle.points.specs.declared.insert_point.Point.TheVariants as point
use Rattle.writes.specs.declared.leaf_node.Gap.{Gap}
use Rattle.insert.specs.declared.plan.Site.{Site}
use Rattle.insert.specs.declared.plan.Site.TheVariants.{Root, Add, Grow, Fork}

-- ── the leaf and its place in the list ──
-- before the leaf that is first at or after, or at the end
abbrev pub Placed : Frame → List ℕ → Gap → Found → Type 0
Placed f words gap (Ok leaf) = gap_at f words leaf.number ≡ gap
Placed f words gap (Err Missing) = gap_end words ≡ gap
Placed f words gap (Err refusal) = ⊥

pub record Leafed (f : Frame) (words keys tag : List ℕ) (c : Choice) (site : Site) (n : ℕ) (gap : Gap) : Type 0 where
  pub choice : c ≡ Some site
  pub number : lowest_free f words 5 ≡ n
  pub room : lowest_free f words 5 < get_or f.caps 5 0
  pub placed : Placed f words gap (after_first f words keys tag)

module _ (f : Frame) (words keys tag : List ℕ) (site : Site) (n : ℕ) (gap : Gap) where
  new_is : (at : Site) (m : ℕ) (a : Found) → new_plan f words at m a ≡ Ok (New site n gap) → (at ≡ site) × (m ≡ n) × Placed f words gap a
  new_is at m (Ok leaf) e = (cc, cc, cc)
  new_is at m (Err Missing) e = (cc, cc, cc)
  new_is at m (Err refusal) e = absurd (let z : ◌≡◌ {A = ℕ} 0 1 = cc in omega arith)

  site_is : (m : ℕ) (c : Choice) → site_plan f words keys tag m c ≡ Ok (New site n gap) → (c ≡ Some site) × (m ≡ n) × Placed f words gap (after_first f words keys tag)
  site_is m (Some at) e = let p = new_is at m (after_first f words keys tag) e in (ap Some p.0, p.1, p.2)
  site_is m None e = absurd (let z : ◌≡◌ {A = ℕ} 0 1 = cc in omega arith)

  pub leaf_is : (c : Choice) → leaf_plan f words keys tag c ≡ Ok (New site n gap) → Leafed f words keys tag c site n gap
  unfolding leaf_plan
  leaf_is c e = go (ltb (lowest_free f words 5) (get_or f.caps 5 0)) refl e
    where
      go : (b : Bool) → ltb (lowest_free f words 5) (get_or f.caps 5 0) ≡ b → choose b (site_plan f words keys tag (lowest_free f words 5) c) (Err NoLeaf) ≡ Ok (New site n gap)
          → Leafed f words keys tag c site n gap
      go true t h = let p = site_is (lowest_free f words 5) c h in record { choice = p.0; number = p.1; room = ltb-true _ _ t; placed = p.2 }
      go false t h = absurd (let z : ◌≡◌ {A = ℕ} 0 1 = cc in omega arith)

-- ── the record that takes it ──
pub data Planned (f : Frame) (words keys tag : List ℕ) : Site → Type 0 where
  first : root_word words ≡ 0 → Planned f words keys tag Root
  adds : (up : Up) (ref byte : ℕ) → root_word words ≢ 0 → point_of f words keys tag (root_word words) ≡ point.Into up ref byte
      → get_or (record_at f words (place_at ref)) 1 0 < children_of (ref % 8) → Planned f words keys tag (Add ref byte)
  grows : (up : Up) (ref byte k n : ℕ) → root_word words ≢ 0 → point_of f words keys tag (root_word words) ≡ point.Into up ref byte
      → children_of (ref % 8) ≤ get_or (record_at f words (place_at ref)) 1 0 → free_kind f words (suc (ref % 8)) ≡ Some (k, n) → Planned f words keys tag (Grow up ref (n * 8 + k) byte)
  forks : (up : Up) (ref leaf d c k n : ℕ) → root_word words ≢ 0 → point_of f words keys tag (root_word words) ≡ point.Fork up ref leaf d c
      → free_kind f words 1 ≡ Some (k, n) → Planned f words keys tag (Fork up ref (n * 8 + k) leaf d c)

module _ (f : Frame) (words keys tag : List ℕ) (site : Site) (used : root_word words ≢ 0) where
  into_is : (up : Up) (ref byte : ℕ) → point_of f words keys tag (root_word words) ≡ point.Into up ref byte → into_choice f words up ref byte ≡ Some site → Planned f words keys tag site
  unfolding into_choice
  into_is up ref byte p e = go (ltb (get_or (record_at f words (place_at ref)) 1 0) (children_of (ref % 8))) refl e
    where
      grow : children_of (ref % 8) ≤ get_or (record_at f words (place_at ref)) 1 0 → (o : Free) → free_kind f words (suc (ref % 8)) ≡ o → grow_choice up ref byte o ≡ Some site → Planned f words keys tag site
      grow full (Some (k, n)) q h = subst (Planned f words keys tag) (let i : Grow up ref (n * 8 + k) byte ≡ site = cc in i) (grows up ref byte k n used p full q)
      grow full None q h = absurd (let z : ◌≡◌ {A = ℕ} 0 1 = cc in omega arith)

      go : (b : Bool) → ltb (get_or (record_at f words (place_at ref)) 1 0) (children_of (ref % 8)) ≡ b → choose b (Some (Add ref byte)) (grow_choice up ref byte (free_kind f words (suc (ref % 8)))) ≡ Some site
          → Planned f words keys tag site
      go true t h = subst (Planned f words keys tag) (let i : Add ref byte ≡ site = cc in i) (adds up ref byte used p (ltb-true _ _ t))
      go false t h = grow (ltb-false _ _ t) (free_kind f words (suc (ref % 8))) refl h

  fork_is : (up : Up) (ref leaf d c : ℕ) → point_of f words keys tag (root_word words) ≡ point.Fork up ref leaf d c → fork_choice f words up ref leaf d c ≡ Some site → Planned f words keys tag site
  unfolding fork_choice
  fork_is up ref leaf d c p e = go (free_kind f words 1) refl e
    where
      go : (o : Free) → free_kind f words 1 ≡ o → fork_with up ref leaf d c o ≡ Some site → Planned f words keys tag site
      go (Some (k, n)) q h = subst (Planned f words keys tag) (let i : Fork up ref (n * 8 + k) leaf d c ≡ site = cc in i) (forks up ref leaf d c k n used p q)
      go None q h = absurd (let z : ◌≡◌ {A = ℕ} 0 1 = cc in omega arith)

-- ── both ──
pub record Newly (f : Frame) (words keys tag : List ℕ) (site : Site) (n : ℕ) (gap : Gap) : Type 0 where
  pub planned : Planned f words keys tag site
  pub number : lowest_free f words 5 ≡ n
  pub room : lowest_free f words 5 < get_or f.caps 5 0
  pub placed : Placed f words gap (after_first f words keys tag)

pub plan_new : (f : Frame) (words keys tag : List ℕ) (site : Site) (n : ℕ) (gap : Gap) → plan_of f words keys tag ≡ Ok (New site n gap) → Newly f words keys tag site n gap
unfolding plan_of point_plan
plan_new f words keys tag site n gap e = go (eqb (root_word words) 0) refl e
  where
    newly : (c : Choice) → (c ≡ Some site → Planned f words keys tag site) → Leafed f words keys tag c site n gap → Newly f words keys tag site n gap
    newly c h l = record { planned = h l.choice; number = l.number; room = l.room; placed = l.placed }

    by : root_word words ≢ 0 → (p : Point) → point_of f words keys tag (root_word words) ≡ p → point_plan f words keys tag p ≡ Ok (New site n gap) → Newly f words keys tag site n gap
    by u (point.Holds upper up leaf) q h = absurd (let z : ◌≡◌ {A = ℕ} 0 1 = cc in omega arith)
    by u point.Clash q h = absurd (let z : ◌≡◌ {A = ℕ} 0 1 = cc in omega arith)
    by u (point.Into up ref byte) q h = newly (into_choice f words up ref byte) (λ i. into_is f words keys tag site u up ref byte q i) (leaf_is f words keys tag site n gap (into_choice f words up ref byte) h)
    by u (point.Fork up ref leaf d c) q h = newly (fork_choice f words up ref leaf d c) (λ i. fork_is f words keys tag site u up ref leaf d c q i) (leaf_is f words keys tag site n gap (fork_choice f words up ref leaf d c) h)
    by u point.Broken q h = absurd (let z : ◌≡◌ {A = ℕ} 0 1 = cc in omega arith)

    go : (b : Bool) → eqb (root_word words) 0 ≡ b → choose b (leaf_plan f words keys tag (Some Root)) (point_plan f words keys tag (point_of f words keys tag (root_word words))) ≡ Ok (New site n gap)
        → Newly f words keys tag site n gap
    go true t h = newly (Some Root) (λ i. subst (Planned f words keys tag) (let j : Root ≡ site = cc in j) (first (eqb-true (root_word words) 0 t))) (leaf_is f words keys tag site n gap (Some Root) h)
    go false t h = by (eqb-false (root_word words) 0 t) (point_of f words keys tag (root_word words)) refl h
