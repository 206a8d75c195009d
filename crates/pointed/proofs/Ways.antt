-- Each step of the code's way, with places for references, is a step of the mathematics': the same tests of the same numbers, in the same order.
use Prim.Native.Nat.{ℕ, suc, ◌+◌, ◌*◌, ◌/◌, ◌%◌}
use mathlib.Core.Path.{◌≡◌, sym, ap, ap₂, ◌∙◌}
use mathlib.Core.Logic.{◌⊎◌, inl, inr, ite}
use mathlib.Core.List.{List}
use mathlib.Core.Option.{Option, none, some}
use mathlib.Core.Bool.{Bool, true, false}
use native.Mathlib.Omega.{arith}
use native.Mathlib.Decide.{dec_le}
use borrow.Author.Tests.{eq-eqb, ne_eqb}
use Rattle.std.specs.Prelude.{Some, Ok}
use Rattle.std.specs.declared.ops.ControlFlow.TheVariants.{Continue, Break}
use Rattle.points.specs.Point.{Step, leaf_point, lowest_of, fork_point, child_step, run_step, step_from, step_of, point_from}
use Rattle.points.specs.There.{Up}
use Rattle.tree.specs.Answer.{Found}
use lib.ListN.{length, get_or, drop}
use lib.Dec.{eqb, leb}
use Rattle.lists.specs.Scan.{choose}
use Rattle.lists.specs.Compare.{shared}
use Rattle.frames.specs.Place.{place_at}
use Rattle.frames.specs.declared.frame.Frame.{Frame}
use Rattle.records.specs.Own.{prefix_at, child_at}
use Rattle.tree.specs.Arrive.{arrival_at}
use Rattle.tree.specs.declared.arrive.Arrival.{Arrival}
use Rattle.points.specs.declared.insert_point.Point.{Point}
use Rattle.points.specs.declared.insert_point.Point.TheVariants.{Holds, Clash, Into, Fork}
use Rattle.art.specs.Stores.{Place, leaf_place, inner_place}
use Rattle.art.specs.Refs.{Refs, find_ref}
use Rattle.art.specs.Points as art
use Rattle.pointed.specs.Told.{up_told, told}
use Rattle.pointed.proofs.Agrees.{shared_is_length, choose_le}

-- ── references ──
-- the number of the leaf, and the kind and the number of the inner record, that a reference names
pub leaf_ref : (ref n : ℕ) → place_at ref ≡ leaf_place n → ref / 8 ≡ n
leaf_ref ref n = go (eqb (ref % 8) 5)
  where
    go : (b : Bool) → choose b (leaf_place (ref / 8)) (inner_place (ref % 8) (ref / 8)) ≡ leaf_place n → ref / 8 ≡ n
    go true e = cc
    go false e = absurd (let z : ◌≡◌ {A = ℕ} 0 1 = cc in omega arith)

pub inner_ref : (ref k n : ℕ) → place_at ref ≡ inner_place k n → (ref % 8 ≡ k) × (ref / 8 ≡ n)
inner_ref ref k n = go (eqb (ref % 8) 5)
  where
    go : (b : Bool) → choose b (leaf_place (ref / 8)) (inner_place (ref % 8) (ref / 8)) ≡ inner_place k n → (ref % 8 ≡ k) × (ref / 8 ≡ n)
    go true e = absurd (let z : ◌≡◌ {A = ℕ} 0 1 = cc in omega arith)
    go false e = (cc, cc)

-- ── at a leaf ──
pub leaf_told : (tag t : List ℕ) (ref n d : ℕ) (upper up : Up) → place_at ref ≡ leaf_place n
    → told (leaf_point tag t ref d upper up) ≡ art.stop_leaf tag t n d (art.shared_length (drop d tag) (drop d t)) (up_told upper) (up_told up)
unfolding leaf_point
leaf_told tag t ref n d upper up e =
    at (shared (drop d tag) (drop d t)) ∙ ap (λ (c : ℕ). art.stop_leaf tag t n d c (up_told upper) (up_told up)) (shared_is_length (drop d tag) (drop d t))
  where
    at : (c : ℕ) → told (choose (leb (length tag) (d + c)) (choose (leb (length t) (d + c)) (Holds upper up ref) Clash) (choose (leb (length t) (d + c)) Clash (Fork up ref ref d c))) ≡ art.stop_leaf tag t n d c (up_told upper) (up_told up)
    at c =
        choose_le told (length tag) (d + c) _ _
        ∙ ap₂ (ite (dec_le (length tag) (d + c))) (choose_le told (length t) (d + c) (Holds upper up ref) Clash) (choose_le told (length t) (d + c) Clash (Fork up ref ref d c))
        ∙ ap₂ (λ (x : Place) (m : ℕ). ite (dec_le (length tag) (d + c)) (ite (dec_le (length t) (d + c)) (art.holds (up_told upper) (up_told up) m) art.clashes) (ite (dec_le (length t) (d + c)) art.clashes (art.fork (up_told up) x m d c))) e (leaf_ref ref n e)

-- ── the way goes on where a step does, and ends where it does ──
pub after : (ℕ → ℕ → ℕ → Point) → Step → Point
after go s = elim s [ Continue (r, e, b) ↦ go r e b | Break p ↦ p ]

module _ (f : Frame) (words keys tag : List ℕ) where
  pub way_on : (left ref d : ℕ) (upper up : Up) (s : Step) → step_of f words keys tag (suc left) ref d upper up ≡ s
      → point_from f words keys tag (suc left) ref d upper up ≡ after (λ r e b. point_from f words keys tag left r e up (Some (ref, b))) s
  unfolding point_from after
  way_on left ref d upper up s e = ap (after (λ r e b. point_from f words keys tag left r e up (Some (ref, b)))) e

  pub step_by : (left ref d : ℕ) (upper up : Up) (a : Arrival) → arrival_at f words keys left (place_at ref) ≡ a → step_of f words keys tag left ref d upper up ≡ step_from f words keys tag ref d upper up a
  unfolding step_of
  step_by left ref d upper up a e = ap (step_from f words keys tag ref d upper up) e

-- ── at an inner record ──
-- the child for a byte, in both
abbrev pub SameKid : (ℕ → Point) → ℕ → Option Place → (Place → art.Point) → Type 0
SameKid go ref o go' = ((ref ≡ 0) × (o ≡ none)) ⊎ ((ref ≡ 0 → ⊥) × (y : Place) × (o ≡ some y) × (told (go ref) ≡ go' y))

pub kid_told : (go : ℕ → ℕ → ℕ → Point) (up : Up) (ref k n byte child e : ℕ) (o : Option Place) (go' : Place → art.Point) → place_at ref ≡ inner_place k n → SameKid (λ r. go r e byte) child o go'
    → told (after go (child_step up ref byte child e)) ≡ art.step_kid (up_told up) k n byte o go'
unfolding after
kid_told go up ref k n byte child e o go' at (inl z) =
    let i = inner_ref ref k n at in
    ap (λ (b : Bool). told (after go (choose b (Break (Into up ref byte)) (Continue (child, e, byte))))) (eq-eqb child 0 z.0)
    ∙ ap₂ (λ (k n : ℕ). art.into (up_told up) k n byte) i.0 i.1
    ∙ sym (ap (λ (o : Option Place). art.step_kid (up_told up) k n byte o go') z.1)
kid_told go up ref k n byte child e o go' at (inr z) =
    ap (λ (b : Bool). told (after go (choose b (Break (Into up ref byte)) (Continue (child, e, byte))))) (ne_eqb child 0 z.0)
    ∙ z.3
    ∙ sym (ap (λ (o : Option Place). art.step_kid (up_told up) k n byte o go') z.2)

module _ (f : Frame) (words keys tag : List ℕ) where
  -- with c bytes of the run agreeing
  pub run_told : (go : ℕ → ℕ → ℕ → Point) (go' : Place → ℕ → art.Up → art.Point) (kind : ℕ) (rec : List ℕ) (ref k n len : ℕ) (rs : Refs) (w total d c : ℕ) (up : Up)
      → place_at ref ≡ inner_place k n → (prefix_at f.form rec).full.0 ≡ len → lowest_of f words keys ref ≡ Ok (record { number = w; total = total })
      → (let byte = get_or tag (d + len) 0 in SameKid (λ r. go r (d + len + 1) byte) (child_at f.form kind rec byte) (find_ref rs byte) (λ y. go' y (suc (d + len)) (art.via k n byte)))
      → told (after go (run_step f words keys tag kind rec ref d up (Some c))) ≡ art.step_inner tag k n len rs w d c (up_told up) go'
  unfolding after
  run_told go go' kind rec ref k n len rs w total d c up at full low kid =
      ap₂ made full low
      ∙ choose_le (λ (s : Step). told (after go s)) (length tag) (d + c) _ _
      ∙ ap (ite (dec_le (length tag) (d + c)) art.clashes)
      (choose_le (λ (s : Step). told (after go s)) len c _ _
      ∙ ap₂ (ite (dec_le len c)) (kid_told go up ref k n byte _ (d + len + 1) (find_ref rs byte) (λ y. go' y (suc (d + len)) (art.via k n byte)) at kid)
      (ap₂ (λ (x : Place) (m : ℕ). art.fork (up_told up) x m d c) at (let i : (w * 8 + 5) / 8 ≡ w = omega arith in i)))
    where
      byte : ℕ
      byte = get_or tag (d + len) 0

      made : ℕ → Found → art.Point
      made full l =
          let b = get_or tag (d + full) 0 in
          told (after go (choose (leb (length tag) (d + c)) (Break Clash) (choose (leb full c) (child_step up ref b (child_at f.form kind rec b) (d + full + 1)) (Break (fork_point up ref d c l)))))
