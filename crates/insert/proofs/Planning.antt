-- The cases of an insert's plan: of each choice of a record, of the leaf, and of the point.
use Prim.Native.Nat.{ℕ, zero, suc, ◌+◌, ◌-◌, ◌%◌, ◌≤◌, ◌<◌}
use mathlib.Core.Path.{◌≡◌, refl, sym, ap, subst, ◌∙◌}
use mathlib.Core.List.{List}
use mathlib.Core.Bool.{Bool, true, false}
use native.Mathlib.Omega.{arith}
use lib.ListN.{get_or}
use lib.Dec.{eqb, ltb}
use borrow.Author.Tests.{eq-eqb, ne_eqb, lt-ltb, le-ltb, ltb-true}
use Rattle.std.specs.Prelude.{Some, Err}
use Rattle.refusals.specs.declared.Refusal.TheVariants.{NoLeaf}
use Rattle.insert.specs.Plan.{Choice, Planned, grow_choice, into_choice, fork_with, fork_choice, site_plan, leaf_plan, point_plan, plan_of}
use Rattle.points.specs.There.{Up, InnerFitsAt, PointThere}
use Rattle.pools.specs.Pool.{Free, lowest_free, free_from, free_kind}
use Rattle.lists.specs.Scan.{choose}
use Rattle.frames.specs.Kind.{children_of}
use Rattle.frames.specs.Frame.{root_word, FrameOf}
use Rattle.frames.specs.Place.{place_at, record_at}
use Rattle.frames.specs.declared.frame.Frame.{Frame}
use Rattle.frames.proofs.Frames.{framed, caps_most}
use Rattle.points.specs.Point.{point_of}
use Rattle.points.specs.declared.insert_point.Point.{Point}
use Rattle.points.specs.declared.insert_point.Point.TheVariants.{Into}
use Rattle.insert.specs.declared.plan.Site.TheVariants.{Root, Add}

-- ── a free record is one of a pool ──
module _ (f : Frame) (words : List ℕ) {k n : ℕ} where
  pick_in : (kind more : ℕ) → (free_from f words (kind + 1) more ≡ Some (k, n) → (k < kind + 1 + more) × (n < get_or f.caps k 0))
      → (b : Bool) → ltb (lowest_free f words kind) (get_or f.caps kind 0) ≡ b → choose {A = Free} b (Some (kind, lowest_free f words kind)) (free_from f words (kind + 1) more) ≡ Some (k, n)
      → (k < kind + suc more) × (n < get_or f.caps k 0)
  pick_in kind more h true q e =
      let l = ltb-true (lowest_free f words kind) (get_or f.caps kind 0) q in
      let t : ◌≡◌ {A = ℕ × ℕ} (kind, lowest_free f words kind) (k, n) = cc in
      let p : kind ≡ k = ap (λ (x : ℕ × ℕ). x.0) t in
      let r : lowest_free f words kind ≡ n = ap (λ (x : ℕ × ℕ). x.1) t in
      (omega arith, subst (λ (x : ℕ). n < get_or f.caps x 0) p (omega arith))
  pick_in kind more h false q e =
      let u = h e in
      (omega arith, u.1)

  free_from_lem : (more kind : ℕ) → free_from f words kind more ≡ Some (k, n) → (k < kind + more) × (n < get_or f.caps k 0)
  free_from_lem zero kind e = let clash : ◌≡◌ {A = ℕ} 0 1 = cc in absurd (omega arith)
  free_from_lem (suc more) kind e = pick_in kind more (λ u. free_from_lem more (kind + 1) u) (ltb (lowest_free f words kind) (get_or f.caps kind 0)) refl e

  pub free_in : (kind : ℕ) → kind ≤ 5 → free_kind f words kind ≡ Some (k, n) → (k ≤ 4) × (n < get_or f.caps k 0)
  unfolding free_kind
  free_in kind h e =
      let u = free_from_lem (5 - kind) kind e in
      (omega arith, u.1)

pub free_small : {f : Frame} {words keys : List ℕ} {k n : ℕ} → FrameOf f words keys → (kind : ℕ) → kind ≤ 5 → {x : Free} → x ≡ free_kind f words kind → x ≡ Some (k, n)
    → (k ≤ 5) × (n ≤ 4096)
free_small {f} {words} {k = k} w kind h e q =
    let u = free_in f words kind h (sym e ∙ q) in
    let m = caps_most (framed w) k (omega (arith, u.0)) in
    (omega (arith, u.0), omega (arith, u.1))

-- ── the record that takes the new leaf ──
module _ (f : Frame) (words : List ℕ) (up : Up) (ref byte : ℕ) {b : Bool} (e : b ≡ ltb (get_or (record_at f words (place_at ref)) 1 0) (children_of (ref % 8))) where
  into_by : {v : Bool} → b ≡ v
      → choose v (Some (Add ref byte)) (grow_choice up ref byte (free_kind f words (suc (ref % 8)))) ≡ into_choice f words up ref byte
  unfolding into_choice
  into_by t = ap (λ (v : Bool). choose v (Some (Add ref byte)) (grow_choice up ref byte (free_kind f words (suc (ref % 8))))) (sym t ∙ e)

  pub into_add : b ≡ true → Some (Add ref byte) ≡ into_choice f words up ref byte
  into_add t = into_by t

  pub into_grow : {x y : Free} → b ≡ false → x ≡ free_kind f words (ref % 8 + 1) → x ≡ y → grow_choice up ref byte y ≡ into_choice f words up ref byte
  into_grow t q p =
      ap (grow_choice up ref byte) (sym p ∙ q ∙ ap (free_kind f words) (let s : ref % 8 + 1 ≡ suc (ref % 8) = omega arith in s)) ∙ into_by t

pub fork_by : (f : Frame) (words : List ℕ) (up : Up) (ref leaf d c : ℕ) {x y : Free} → x ≡ free_kind f words 1 → x ≡ y
    → fork_with up ref leaf d c y ≡ fork_choice f words up ref leaf d c
unfolding fork_choice
fork_by f words up ref leaf d c q p = ap (fork_with up ref leaf d c) (sym p ∙ q)

-- ── the leaf, where there is a free one ──
module _ (f : Frame) (words keys tag : List ℕ) (choice : Choice) {n : ℕ} (e : n ≡ lowest_free f words 5) where
  leaf_by : {v : Bool} → ltb n (get_or f.caps 5 0) ≡ v → choose v (site_plan f words keys tag n choice) (Err NoLeaf) ≡ leaf_plan f words keys tag choice
  unfolding leaf_plan
  leaf_by t =
      ap (λ (v : Bool). choose v (site_plan f words keys tag n choice) (Err NoLeaf)) (sym t)
      ∙ ap (λ (m : ℕ). choose (ltb m (get_or f.caps 5 0)) (site_plan f words keys tag m choice) (Err NoLeaf)) e

  pub leaf_free : {p : Planned} → n < get_or f.caps 5 0 → p ≡ site_plan f words keys tag n choice → p ≡ leaf_plan f words keys tag choice
  leaf_free h q = q ∙ leaf_by (lt-ltb n (get_or f.caps 5 0) h)

  pub leaf_none : get_or f.caps 5 0 ≤ n → Err NoLeaf ≡ leaf_plan f words keys tag choice
  leaf_none h = leaf_by (le-ltb n (get_or f.caps 5 0) h)

-- ── the plan ──
module _ (f : Frame) (words keys tag : List ℕ) {root : ℕ} (e : root ≡ root_word words) where
  abbrev by_root : Bool → ℕ → Planned
  by_root b r = choose b (leaf_plan f words keys tag (Some Root)) (point_plan f words keys tag (point_of f words keys tag r))

  plan_by : {b : Bool} → eqb root 0 ≡ b → by_root b root ≡ plan_of f words keys tag
  unfolding plan_of
  plan_by {b} t = ap (λ (v : Bool). by_root v root) (sym t) ∙ ap (λ (r : ℕ). by_root (eqb r 0) r) e

  pub plan_root : {p : Planned} → root ≡ 0 → p ≡ leaf_plan f words keys tag (Some Root) → p ≡ plan_of f words keys tag
  plan_root z u = u ∙ plan_by (eq-eqb root 0 z)

  pub plan_point : {x : Point} {p : Planned} → (root ≡ 0 → ⊥) → x ≡ point_of f words keys tag root → p ≡ point_plan f words keys tag x → p ≡ plan_of f words keys tag
  plan_point z q u = u ∙ ap (point_plan f words keys tag) q ∙ plan_by (ne_eqb root 0 z)

-- ── a plan is that of the point, the choice and the stop that were found ──
module _ (f : Frame) (words keys tag : List ℕ) {o : Planned} where
  pub point_as : {x y : Point} → x ≡ y → o ≡ point_plan f words keys tag y → o ≡ point_plan f words keys tag x
  point_as e h = h ∙ ap (point_plan f words keys tag) (sym e)

  pub leaf_as : {x y : Choice} → x ≡ y → o ≡ leaf_plan f words keys tag x → o ≡ leaf_plan f words keys tag y
  leaf_as e h = h ∙ ap (leaf_plan f words keys tag) e

-- the record that the point names is there
pub into_there : (f : Frame) (words keys tag : List ℕ) {x : Point} {up : Up} {ref byte : ℕ} → x ≡ Into up ref byte → PointThere f words keys tag x
    → InnerFitsAt f words (place_at ref)
into_there f words keys tag e h = (subst (PointThere f words keys tag) e h).here
