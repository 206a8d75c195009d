-- The cases of `leaf_point`, `run_below`, `run_of`, `inner_step`, `step_of` and `point_from`.
use Prim.Native.Nat.{ℕ, zero, suc, ◌+◌, ◌-◌, ◌*◌, ◌^◌, ◌≤◌, ◌<◌, min}
use mathlib.Core.Path.{◌≡◌, refl, sym, ap, subst, ◌∙◌}
use mathlib.Core.List.{List}
use mathlib.Core.Bool.{Bool, true, false}
use native.Mathlib.Omega.{arith}
use borrow.Author.Tests.{le-leb, lt-leb, leb-true, leb-false, eqb-false}
use Rattle.std.specs.Prelude.{Some, None, Ok, Err}
use Rattle.std.specs.declared.ops.ControlFlow.TheVariants.{Continue, Break}
use Rattle.points.specs.Point.{Run, Step, leaf_point, lowest_of, leaf_ref_of, run_below, run_of, fork_point, child_step, run_step, inner_step, step_from, step_of, ended_of, point_from, point_of}
use Rattle.points.specs.There.{Up}
use Rattle.tree.specs.Answer.{Found}
use lib.ListN.{length, get_or, take, drop, drop_of_length-le, length-drop}
use lib.Seq.{take_all}
use lib.Dec.{eqb, leb}
use mir.Syntax.{w64}
use mir.Val.{Fits}
use Rattle.lists.specs.Scan.{choose}
use Rattle.lists.specs.Compare.{shared}
use Rattle.lists.specs.Part.{between}
use Rattle.lists.proofs.Compares.{shared_nil, shared_le, shared_swap, shared_take}
use Rattle.prefix.specs.Run.{capped, held}
use Rattle.prefix.specs.declared.Prefix.{Prefix}
use Rattle.frames.specs.Form.{record_words}
use Rattle.frames.specs.Place.{place_at}
use Rattle.frames.specs.declared.frame.Frame.{Frame}
use Rattle.records.specs.Own.{prefix_at, child_at}
use Rattle.tree.specs.Arrive.{arrival_at}
use Rattle.tree.specs.declared.arrive.Arrival.{Arrival}
use Rattle.tree.specs.declared.arrive.Arrival.TheVariants as arrival
use Rattle.tree.specs.Seen.{tag_at}
use Rattle.points.specs.declared.insert_point.Point.{Point}
use Rattle.points.specs.declared.insert_point.Point.TheVariants.{Holds, Clash, Into, Fork, Broken}

-- ── how far two tags agree from a depth on ──
rest_of : (t : List ℕ) (d : ℕ) → between t d (length t) ≡ drop d t
rest_of t d = take_all (length t - d) (drop d t) (omega (arith, length-drop d t))

module _ (tag t : List ℕ) (d : ℕ) where
  pub agreed_none : length t < d → 0 ≡ shared (drop d tag) (drop d t)
  agreed_none h = sym (ap (shared (drop d tag)) (drop_of_length-le t {i = d} (omega arith)) ∙ shared_nil (drop d tag))

  pub agreed_fits : {c : ℕ} → c ≡ shared (drop d tag) (drop d t) → d ≤ length tag → length tag < 2 ^ 64 → Fits w64 (d + c)
  agreed_fits e h k = omega (arith, (shared_le (drop d tag) (drop d t)).0, length-drop d tag)

-- ── at a leaf, whose tag t agrees so far ──
module _ (tag t : List ℕ) (ref d : ℕ) (upper up : Up) {c : ℕ} (e : c ≡ shared (drop d tag) (drop d t)) where
  abbrev leaf_point_by : ℕ → Point
  leaf_point_by c =
      choose (leb (length tag) (d + c)) (choose (leb (length t) (d + c)) (Holds upper up ref) Clash) (choose (leb (length t) (d + c)) Clash (Fork up ref ref d c))

  leaf_by : leaf_point_by c ≡ leaf_point tag t ref d upper up
  unfolding leaf_point
  leaf_by = ap leaf_point_by e

  pub leaf_holds : length tag ≤ d + c → length t ≤ d + c → Holds upper up ref ≡ leaf_point tag t ref d upper up
  leaf_holds h k = simp (le-leb (length tag) (d + c) h, le-leb (length t) (d + c) k) at leaf_by

  pub leaf_begins : length tag ≤ d + c → d + c < length t → Clash ≡ leaf_point tag t ref d upper up
  leaf_begins h k = simp (le-leb (length tag) (d + c) h, lt-leb (length t) (d + c) k) at leaf_by

  pub leaf_begun : d + c < length tag → length t ≤ d + c → Clash ≡ leaf_point tag t ref d upper up
  leaf_begun h k = simp (lt-leb (length tag) (d + c) h, le-leb (length t) (d + c) k) at leaf_by

  pub leaf_forks : d + c < length tag → d + c < length t → Fork up ref ref d c ≡ leaf_point tag t ref d upper up
  leaf_forks h k = simp (lt-leb (length tag) (d + c) h, lt-leb (length t) (d + c) k) at leaf_by

-- ── by the first leaf below ──
module _ (f : Frame) (words keys tag : List ℕ) (d full : ℕ) where
  module _ {leaf c : ℕ} {t : List ℕ} (et : t ≡ tag_at f words keys leaf) (k : c ≡ shared (drop d tag) (drop d t)) where
    pub below_some : (a : Found) → leaf ≡ leaf_ref_of a → (leaf ≡ 0 → ⊥) → {m : ℕ} → m ≡ min full c → Some m ≡ run_below f words keys tag d full a
    below_some (Ok found) e z m =
        let there = tag_at f words keys (found.number * 8 + 5) in
        let et' : t ≡ there = et ∙ ap (tag_at f words keys) e in
        ap Some
        (m ∙ ap (min full) (k ∙ ap (λ (l : List ℕ). shared (drop d tag) (drop d l)) et' ∙ shared_swap (drop d tag) (drop d there))
        ∙ sym (shared_take full (drop d there) (drop d tag)))
    below_some (Err refusal) e z m = absurd (z e)

-- ── a run ──
module _ (f : Frame) (words keys tag : List ℕ) (ref d : ℕ) (p : Prefix) where
  pub run_long : 8 < p.full.0 → {r : Run} → r ≡ run_below f words keys tag d p.full.0 (lowest_of f words keys ref) → r ≡ run_of f words keys tag ref d p
  unfolding run_of
  run_long h e = e ∙ simp (lt-leb p.full.0 8 h)

  pub run_short : p.full.0 ≤ 8 → {c k : ℕ} → k ≡ capped p.full.0 → c ≡ shared (between p.stored 0 k) (between tag d (length tag))
      → Some c ≡ run_of f words keys tag ref d p
  unfolding run_of
  run_short h {c} {k} s e =
      let z : k - 0 ≡ capped p.full.0 = omega arith in
      let q : c ≡ shared (held p) (drop d tag) =
      e ∙ ap (λ (n : ℕ). shared (take n p.stored) (between tag d (length tag))) z ∙ ap (shared (held p)) (rest_of tag d) in
      ap Some q ∙ simp (le-leb p.full.0 8 h)

  below_within : d ≤ length tag → (a : Found) (c : ℕ) → run_below f words keys tag d p.full.0 a ≡ Some c → d + c ≤ length tag
  below_within h (Ok leaf) c e =
      let q : shared (take p.full.0 (drop d (tag_at f words keys (leaf.number * 8 + 5)))) (drop d tag) ≡ c = cc in
      omega (arith, (shared_le (take p.full.0 (drop d (tag_at f words keys (leaf.number * 8 + 5)))) (drop d tag)).1, length-drop d tag)
  below_within h (Err refusal) c e = absurd (let z : ◌≡◌ {A = ℕ} 0 1 = cc in omega arith)

  -- as many bytes as the tag has, at most
  run_within : d ≤ length tag → (c : ℕ) → run_of f words keys tag ref d p ≡ Some c → d + c ≤ length tag
  unfolding run_of
  run_within h c e = go (leb p.full.0 8) e
    where
      go : (b : Bool) → choose b (Some (shared (held p) (drop d tag))) (run_below f words keys tag d p.full.0 (lowest_of f words keys ref)) ≡ Some c → d + c ≤ length tag
      go true e =
          let q : shared (held p) (drop d tag) ≡ c = cc in
          omega (arith, (shared_le (held p) (drop d tag)).1, length-drop d tag)
      go false e = below_within h (lowest_of f words keys ref) c e

  pub run_fits : {r : Run} {c : ℕ} → r ≡ run_of f words keys tag ref d p → r ≡ Some c → d ≤ length tag → length tag < 2 ^ 64 → Fits w64 (d + c)
  run_fits {r} {c} er e h k = omega (arith, run_within h c (sym er ∙ e))

-- ── at an inner record, whose prefix was read as p, and of whose run so much agrees ──
module _ (f : Frame) (words keys tag : List ℕ) (kind : ℕ) (rec : List ℕ) (ref d : ℕ) (up : Up) {p : Prefix} (ep : p ≡ prefix_at f.form rec)
    {r : Run} (er : r ≡ run_of f words keys tag ref d p) where
  inner_by : run_step f words keys tag kind rec ref d up r ≡ inner_step f words keys tag kind rec ref d up
  unfolding inner_step
  inner_by = ap (run_step f words keys tag kind rec ref d up) (er ∙ ap (run_of f words keys tag ref d) ep)

  pub inner_lost : r ≡ None → Break Broken ≡ inner_step f words keys tag kind rec ref d up
  inner_lost e = ap (run_step f words keys tag kind rec ref d up) (sym e) ∙ inner_by

  module _ {c : ℕ} (e : r ≡ Some c) where
    abbrev past : Prefix → Step
    past q =
        choose (leb q.full.0 c)
        (child_step up ref (get_or tag (d + q.full.0) 0) (child_at f.form kind rec (get_or tag (d + q.full.0) 0)) (d + q.full.0 + 1))
        (Break (fork_point up ref d c (lowest_of f words keys ref)))

    stepped : choose (leb (length tag) (d + c)) (Break Clash) (past p) ≡ inner_step f words keys tag kind rec ref d up
    stepped =
        ap (λ (q : Prefix). choose (leb (length tag) (d + c)) (Break Clash) (past q)) ep
        ∙ ap (run_step f words keys tag kind rec ref d up) (sym e)
        ∙ inner_by

    pub inner_clash : length tag ≤ d + c → Break Clash ≡ inner_step f words keys tag kind rec ref d up
    inner_clash h = simp (le-leb (length tag) (d + c) h) at stepped

    module _ (h : d + c < length tag) where
      pub inner_child : p.full.0 ≤ c → {s : Step}
          → s ≡ child_step up ref (get_or tag (d + p.full.0) 0) (child_at f.form kind rec (get_or tag (d + p.full.0) 0)) (d + p.full.0 + 1)
          → s ≡ inner_step f words keys tag kind rec ref d up
      inner_child k q = q ∙ simp (lt-leb (length tag) (d + c) h, le-leb p.full.0 c k) at stepped

      pub inner_fork : c < p.full.0 → {q : Point} → q ≡ fork_point up ref d c (lowest_of f words keys ref) → Break q ≡ inner_step f words keys tag kind rec ref d up
      inner_fork k q = ap Break q ∙ simp (lt-leb (length tag) (d + c) h, lt-leb p.full.0 c k) at stepped

-- ── a step, by what is arrived at ──
module _ (f : Frame) (words keys tag : List ℕ) where
  step_by : (left ref d : ℕ) (upper up : Up) (a : Arrival) → arrival_at f words keys left (place_at ref) ≡ a
      → step_from f words keys tag ref d upper up a ≡ step_of f words keys tag left ref d upper up
  unfolding step_of
  step_by left ref d upper up a e = ap (step_from f words keys tag ref d upper up) (sym e)

  -- x is what was arrived at
  module _ (left ref d : ℕ) (upper up : Up) {x : Arrival} (ex : x ≡ arrival_at f words keys left (place_at ref)) where
    pub step_as : {a : Arrival} {o : Step} → x ≡ a → o ≡ step_from f words keys tag ref d upper up a → o ≡ step_of f words keys tag left ref d upper up
    step_as {a} e h = h ∙ step_by left ref d upper up a (sym ex ∙ e)

    pub step_leaf : {n start : ℕ} {t : List ℕ} {p : Point} → x ≡ arrival.Leaf n start → t ≡ tag_at f words keys ref → p ≡ leaf_point tag t ref d upper up
        → Break p ≡ step_of f words keys tag left ref d upper up
    step_leaf e et h = step_as e (ap Break (h ∙ ap (λ (l : List ℕ). leaf_point tag l ref d upper up) et))

  -- a step past a run goes no deeper than the tag is long, and to a child that is there
  module _ (kind : ℕ) (rec : List ℕ) (ref d : ℕ) (up : Up) where
    past_next : (full c child byte : ℕ) (p : Point) (x y z : Bool) → leb (length tag) (d + c) ≡ x → leb full c ≡ y → eqb child 0 ≡ z → (r e b : ℕ)
        → choose {A = Step} x (Break Clash) (choose y (choose z (Break (Into up ref byte)) (Continue (child, d + full + 1, byte))) (Break p)) ≡ Continue (r, e, b)
        → (e ≤ length tag) × (byte ≡ b) × (0 < child)
    past_next full c child byte p false true false ex ey ez r e b q =
        let t : ◌≡◌ {A = ℕ × ℕ × ℕ} (child, d + full + 1, byte) (r, e, b) = cc in
        let k : d + full + 1 ≡ e = ap (λ (s : ℕ × ℕ × ℕ). s.1) t in
        let m : byte ≡ b = ap (λ (s : ℕ × ℕ × ℕ). s.2) t in
        (omega (arith, leb-false (length tag) (d + c) ex, leb-true full c ey), m, omega (arith, eqb-false child 0 ez))
    past_next full c child byte p true y z ex ey ez r e b q = absurd (let z : ◌≡◌ {A = ℕ} 0 1 = cc in omega arith)
    past_next full c child byte p false false z ex ey ez r e b q = absurd (let z : ◌≡◌ {A = ℕ} 0 1 = cc in omega arith)
    past_next full c child byte p false true true ex ey ez r e b q = absurd (let z : ◌≡◌ {A = ℕ} 0 1 = cc in omega arith)

    run_next : (x : Run) (r e b : ℕ) → run_step f words keys tag kind rec ref d up x ≡ Continue (r, e, b) → (e ≤ length tag) × (0 < child_at f.form kind rec b)
    run_next (Some c) r e b q =
        let full = (prefix_at f.form rec).full.0 in
        let byte = get_or tag (d + full) 0 in
        let child = child_at f.form kind rec byte in
        let t =
        past_next full c child byte (fork_point up ref d c (lowest_of f words keys ref)) (leb (length tag) (d + c)) (leb full c) (eqb child 0) refl refl refl r e b q in
        (t.0, subst (λ (n : ℕ). 0 < child_at f.form kind rec n) t.1 t.2)
    run_next None r e b q = absurd (let z : ◌≡◌ {A = ℕ} 0 1 = cc in omega arith)

    pub inner_next : (r e b : ℕ) → inner_step f words keys tag kind rec ref d up ≡ Continue (r, e, b) → (e ≤ length tag) × (0 < child_at f.form kind rec b)
    unfolding inner_step
    inner_next r e b q = run_next (run_of f words keys tag ref d (prefix_at f.form rec)) r e b q

  from_depth : (a : Arrival) (ref d : ℕ) (upper up : Up) (r e b : ℕ) → step_from f words keys tag ref d upper up a ≡ Continue (r, e, b) → e ≤ length tag
  from_depth (arrival.Leaf n start) ref d upper up r e b q = absurd (let z : ◌≡◌ {A = ℕ} 0 1 = cc in omega arith)
  from_depth (arrival.Inner kind start) ref d upper up r e b q =
      (inner_next kind (between words start (start + record_words f.form kind)) ref d up r e b q).0
  from_depth arrival.Broken ref d upper up r e b q = absurd (let z : ◌≡◌ {A = ℕ} 0 1 = cc in omega arith)

  pub step_depth : (left ref d : ℕ) (upper up : Up) (r e b : ℕ) → step_of f words keys tag left ref d upper up ≡ Continue (r, e, b) → e ≤ length tag
  step_depth left ref d upper up r e b q =
      from_depth (arrival_at f words keys left (place_at ref)) ref d upper up r e b (step_by left ref d upper up _ refl ∙ q)

  -- ── the way goes on where a step does, and ends where it does ──
  abbrev pub go_on : ℕ → ℕ → Up → Step → Point
  go_on left ref up s = elim s [ Continue (r, e, b) ↦ point_from f words keys tag left r e up (Some (ref, b)) | Break p ↦ p ]

  pub point_next : (left ref d : ℕ) (upper up : Up) (r e b : ℕ) → 0 < left → step_of f words keys tag left ref d upper up ≡ Continue (r, e, b)
      → point_from f words keys tag left ref d upper up ≡ point_from f words keys tag (left - 1) r e up (Some (ref, b))
  unfolding point_from
  point_next zero ref d upper up r e b h q = absurd (omega arith)
  point_next (suc left) ref d upper up r e b h q =
      ap (go_on left ref up) q ∙ ap (λ (n : ℕ). point_from f words keys tag n r e up (Some (ref, b))) (let z : left ≡ suc left - 1 = omega arith in z)

  pub point_end : (left ref d : ℕ) (upper up : Up) (p : Point) → step_of f words keys tag left ref d upper up ≡ Break p
      → point_from f words keys tag left ref d upper up ≡ p
  unfolding point_from
  point_end zero ref d upper up p e = ap ended_of e
  point_end (suc left) ref d upper up p e = ap (go_on left ref up) e

  pub point_over : (left ref d : ℕ) (upper up : Up) (r e b : ℕ) → left ≤ 0 → step_of f words keys tag left ref d upper up ≡ Continue (r, e, b)
      → point_from f words keys tag left ref d upper up ≡ Broken
  unfolding point_from
  point_over zero ref d upper up r e b h q = ap ended_of q
  point_over (suc left) ref d upper up r e b h q = absurd (omega arith)

-- the way at some record: it ends where the way from the root does
pub record Seeking (f : Frame) (words keys tag : List ℕ) (root left ref d : ℕ) (upper up : Up) : Type 0 where
  pub within : d ≤ length tag
  pub same_answer : point_of f words keys tag root ≡ point_from f words keys tag left ref d upper up

pub seeking_start : (f : Frame) (words keys tag : List ℕ) (root : ℕ) → Seeking f words keys tag root f.form.limit root 0 None None
unfolding point_of
seeking_start f words keys tag root = record { within = omega arith; same_answer = refl }
