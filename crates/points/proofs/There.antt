-- The records that a point names are there: each was arrived at on the way, or is the first leaf below one that was.
use Prim.Native.Nat.{ℕ, zero, suc, ◌+◌, ◌*◌, ◌<◌}
use mathlib.Core.Path.{◌≡◌, refl, sym, ap, subst, ◌∙◌}
use mathlib.Core.List.{List}
use mathlib.Core.Bool.{Bool, true, false, ◌&&◌}
use native.Mathlib.Omega.{arith}
use borrow.Author.Tests.{leb-false, eqb-false}
use Rattle.std.specs.Prelude.{Some, None, Ok, Err}
use Rattle.std.specs.declared.ops.ControlFlow.TheVariants.{Continue, Break}
use Rattle.points.specs.Point.{Run, Step, leaf_point, lowest_of, leaf_ref_of, run_of, fork_point, child_step, run_step, inner_step, step_from, step_of, ended_of, point_from, point_of}
use Rattle.points.specs.There.{Up, InnerFitsAt, HasChild, UpThere, PointThere}
use Rattle.tree.specs.Answer.{Found}
use lib.ListN.{length, get_or, drop}
use lib.Dec.{eqb, leb}
use Rattle.lists.specs.Scan.{choose}
use Rattle.lists.specs.Compare.{shared}
use Rattle.lists.specs.Part.{between}
use Rattle.lists.proofs.Tests.{both}
use Rattle.frames.specs.Form.{record_words}
use Rattle.frames.specs.Frame.{FrameOf}
use Rattle.frames.specs.Place.{place_at, in_pool, start_at, record_at, kind_at}
use Rattle.frames.specs.declared.frame.Frame.{Frame}
use Rattle.records.specs.Own.{prefix_at, child_at, InnerFits}
use Rattle.records.specs.View.{rule_at}
use Rattle.art.specs.Stores.{Place, leaf_place, inner_place}
use Rattle.tree.specs.Arrive.{on_path, arrived, arrival_at}
use Rattle.tree.specs.declared.arrive.Arrival.{Arrival}
use Rattle.tree.specs.declared.arrive.Arrival.TheVariants as arrival
use Rattle.tree.proofs.Arrivals.{inner_there}
use Rattle.tree.specs.Seen.{tag_at, LeafSeen}
use Rattle.tree.proofs.Leaves.{leaf_arrived, seen_pool}
use Rattle.points.specs.declared.insert_point.Point.TheVariants.{Holds, Clash, Into, Fork}
use Rattle.points.proofs.Below.{lowest_seen}
use Rattle.points.proofs.Steps.{go_on}

-- ── an inner record that is arrived at is the one that the reference names ──
record Named (f : Frame) (words : List ℕ) (x : Place) (k start : ℕ) : Type 0 where
  pool : in_pool f x ≡ true
  kind : k ≡ kind_at x
  words_are : between words start (start + record_words f.form k) ≡ record_at f words x

module _ (f : Frame) (words keys : List ℕ) (left k start : ℕ) where
  named_by : (x : Place) (t : Bool) → in_pool f x && (rule_at f words keys x && on_path left x) ≡ t → choose t (arrived f x) arrival.Broken ≡ arrival.Inner k start → Named f words x k start
  named_by (leaf_place n) true q a = absurd (let z : ◌≡◌ {A = ℕ} 0 1 = cc in omega arith)
  named_by (inner_place j n) true q a =
      let i : j ≡ k = cc in
      let s : start_at f (inner_place j n) ≡ start = cc in
      record {
        pool = (both (in_pool f (inner_place j n)) (rule_at f words keys (inner_place j n) && on_path left (inner_place j n)) q).0;
        kind = sym i;
        words_are =
            ap (λ (a : ℕ). between words a (a + record_words f.form k)) (sym s)
            ∙ ap (λ (m : ℕ). between words (start_at f (inner_place j n)) (start_at f (inner_place j n) + record_words f.form m)) (sym i);
      }
  named_by x false q a = absurd (let z : ◌≡◌ {A = ℕ} 0 1 = cc in omega arith)

  named : (x : Place) → arrival_at f words keys left x ≡ arrival.Inner k start → Named f words x k start
  unfolding arrival_at
  named x e = named_by x (in_pool f x && (rule_at f words keys x && on_path left x)) refl e

module _ {f : Frame} {words keys : List ℕ} (w : FrameOf f words keys) (tag : List ℕ) where
  -- ── at a leaf ──
  leaf_stands : (t : List ℕ) (ref d : ℕ) (upper up : Up) → LeafSeen f words keys ref → UpThere f words upper → UpThere f words up
      → PointThere f words keys tag (leaf_point tag t ref d upper up)
  unfolding leaf_point
  leaf_stands t ref d upper up l a b = go (leb (length tag) (d + shared (drop d tag) (drop d t))) refl (leb (length t) (d + shared (drop d tag) (drop d t)))
    where
      go : (x : Bool) → leb (length tag) (d + shared (drop d tag) (drop d t)) ≡ x → (y : Bool)
          → PointThere f words keys tag (choose x (choose y (Holds upper up ref) Clash) (choose y Clash (Fork up ref ref d (shared (drop d tag) (drop d t)))))
      go true e true = record { seen = l; above = b; upper_above = a }
      go true e false = tt
      go false e true = tt
      go false e false = record { pool = seen_pool l; seen = l; inside = omega (arith, leb-false (length tag) (d + shared (drop d tag) (drop d t)) e); above = b }

  -- ── at an inner record ──
  -- a step leads to a child of its record, or to a point whose records are there
  abbrev StepThere : ℕ → Step → Type 0
  StepThere ref (Continue (r, e, b)) = HasChild f words (place_at ref) b
  StepThere ref (Break p) = PointThere f words keys tag p

  module _ (ref d : ℕ) (up : Up) (above : UpThere f words up) where
    fork_stands : (c : ℕ) → d + c < length tag → in_pool f (place_at ref) ≡ true → PointThere f words keys tag (fork_point up ref d c (lowest_of f words keys ref))
    fork_stands c h p = go (lowest_of f words keys ref) refl
      where
        go : (a : Found) → lowest_of f words keys ref ≡ a → PointThere f words keys tag (fork_point up ref d c a)
        go (Ok leaf) e =
            record { pool = p; seen = lowest_seen f words keys ref (leaf.number * 8 + 5) (ap leaf_ref_of (sym e)) (λ z. omega arith); inside = h; above = above }
        go (Err refusal) e = tt

    module _ (k start : ℕ) (fits : InnerFits f.form k (between words start (start + record_words f.form k))) (m : Named f words (place_at ref) k start) where
      abbrev rec : List ℕ
      rec = between words start (start + record_words f.form k)

      -- what holds of the record holds of it by its reference
      here_too : (P : ℕ → List ℕ → Type 0) → P k rec → P (kind_at (place_at ref)) (record_at f words (place_at ref))
      here_too P h = subst (λ (j : ℕ). P j (record_at f words (place_at ref))) m.kind (subst (P k) m.words_are h)

      here : InnerFitsAt f words (place_at ref)
      here = record { pool = m.pool; fits = here_too (λ j r. InnerFits f.form j r) fits }

      child_stands : (byte e : ℕ) → StepThere ref (child_step up ref byte (child_at f.form k rec byte) e)
      child_stands byte e = go (eqb (child_at f.form k rec byte) 0) refl
        where
          go : (z : Bool) → eqb (child_at f.form k rec byte) 0 ≡ z → StepThere ref (choose z (Break (Into up ref byte)) (Continue (child_at f.form k rec byte, e, byte)))
          go true q = record { here = here; above = above }
          go false q =
              record { here = here; child = here_too (λ j r. 0 < child_at f.form j r byte) (let n : 0 < child_at f.form k rec byte = omega (arith, eqb-false (child_at f.form k rec byte) 0 q) in n) }

      run_stands : (r : Run) → StepThere ref (run_step f words keys tag k rec ref d up r)
      run_stands (Some c) = go (leb (length tag) (d + c)) refl (leb (prefix_at f.form rec).full.0 c)
        where
          go : (x : Bool) → leb (length tag) (d + c) ≡ x → (y : Bool)
              → StepThere ref
              (choose x (Break Clash)
              (choose y
              (child_step up ref (get_or tag (d + (prefix_at f.form rec).full.0) 0) (child_at f.form k rec (get_or tag (d + (prefix_at f.form rec).full.0) 0)) (d + (prefix_at f.form rec).full.0 + 1))
              (Break (fork_point up ref d c (lowest_of f words keys ref)))))
          go true e y = tt
          go false e true = child_stands (get_or tag (d + (prefix_at f.form rec).full.0) 0) (d + (prefix_at f.form rec).full.0 + 1)
          go false e false = fork_stands c (leb-false (length tag) (d + c) e) m.pool
      run_stands None = tt

      inner_stands : StepThere ref (inner_step f words keys tag k rec ref d up)
      unfolding inner_step
      inner_stands = run_stands (run_of f words keys tag ref d (prefix_at f.form rec))

  -- ── the way ──
  step_stands : (left ref d : ℕ) (upper up : Up) → UpThere f words upper → UpThere f words up → StepThere ref (step_of f words keys tag left ref d upper up)
  unfolding step_of
  step_stands left ref d upper up a b = go (arrival_at f words keys left (place_at ref)) refl
    where
      go : (x : Arrival) → arrival_at f words keys left (place_at ref) ≡ x → StepThere ref (step_from f words keys tag ref d upper up x)
      go (arrival.Leaf n start) e = leaf_stands (tag_at f words keys ref) ref d upper up (leaf_arrived f words keys left ref n start e) a b
      go (arrival.Inner k start) e =
          inner_stands ref d up b k start (inner_there w left (place_at ref) k start e).fits (named f words keys left k start (place_at ref) e)
      go arrival.Broken e = tt

  ended_stands : (ref : ℕ) (s : Step) → StepThere ref s → PointThere f words keys tag (ended_of s)
  ended_stands ref (Continue (r, e, b)) h = tt
  ended_stands ref (Break p) h = h

  abbrev Stands : ℕ → Type 0
  Stands left = (ref d : ℕ) (upper up : Up) → UpThere f words upper → UpThere f words up → PointThere f words keys tag (point_from f words keys tag left ref d upper up)

  on_stands : (left : ℕ) → Stands left → (ref : ℕ) (up : Up) → UpThere f words up → (s : Step) → StepThere ref s → PointThere f words keys tag (go_on f words keys tag left ref up s)
  on_stands left ih ref up b (Continue (r, e, c)) h = ih r e up (Some (ref, c)) b h
  on_stands left ih ref up b (Break p) h = h

  from_stands : (left : ℕ) → Stands left
  unfolding point_from
  from_stands zero ref d upper up a b = ended_stands ref (step_of f words keys tag 0 ref d upper up) (step_stands 0 ref d upper up a b)
  from_stands (suc left) ref d upper up a b =
      on_stands left (λ r e x y. from_stands left r e x y) ref up b (step_of f words keys tag (suc left) ref d upper up) (step_stands (suc left) ref d upper up a b)

  pub point_there : (root : ℕ) → PointThere f words keys tag (point_of f words keys tag root)
  unfolding point_of
  point_there root = from_stands f.form.limit root 0 None None tt tt
