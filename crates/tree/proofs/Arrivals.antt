-- What an arrival says: a record that a walk arrives at lies within the slices and obeys its rule; and the cases of `rule_at` and `arrival_at`.
use Prim.Native.Nat.{ℕ, ◌+◌, ◌*◌, ◌/◌, ◌%◌, ◌≤◌}
use mathlib.Core.Path.{◌≡◌, refl, sym, ap, subst, ◌∙◌}
use mathlib.Core.List.{List}
use mathlib.Core.Bool.{Bool, true, false, ◌&&◌}
use native.Mathlib.Omega.{arith}
use lib.ListN.{length}
use lib.Dec.{eqb}
use borrow.Author.Tests.{eq-eqb, ne_eqb, lt-ltb, le-ltb}
use Rattle.std.specs.Prelude.{Err}
use Rattle.refusals.specs.declared.Refusal.TheVariants.{Damaged, Missing}
use Rattle.tree.specs.Answer.{Found}
use Rattle.lists.specs.Scan.{choose}
use Rattle.lists.specs.Part.{between}
use Rattle.lists.proofs.Tests.{both}
use Rattle.frames.specs.Kind.{leaf_size}
use Rattle.frames.specs.Form.{record_words}
use Rattle.frames.specs.Frame.{root_word, frame_fits, FrameOf}
use Rattle.records.specs.Own.{inner_ok, leaf_ok}
use Rattle.frames.specs.Place.{place_at, in_pool, start_at, key_at}
use Rattle.records.specs.View.{rule_at}
use Rattle.frames.specs.declared.frame.Frame.{Frame}
use Rattle.frames.proofs.Places.{inner_kind, place_room, leaf_room, record_length, key_length}
use Rattle.art.specs.Stores.{Place, leaf_place, inner_place}
use Rattle.tree.specs.Arrive.{on_path, arrived, arrival_at, LeafThere, InnerFitsFrom, with_frame, from_root}
use Rattle.tree.specs.declared.arrive.Arrival.{Arrival}
use Rattle.tree.specs.declared.arrive.Arrival.TheVariants.{Leaf, Inner, Broken}

-- ── what a test of `!b` says of what b tells ──
pub fails : {b v : Bool} → b ≡ v → b ≡ false → v ≡ false
fails e n = sym e ∙ n

pub holds : {b v : Bool} → b ≡ v → b ≡ true → v ≡ true
holds e n = sym e ∙ n

-- ── the place that a reference names, by its kind ──
pub leaf_named : (ref : ℕ) → ref % 8 ≡ 5 → place_at ref ≡ leaf_place (ref / 8)
leaf_named ref e = ap (λ (b : Bool). choose b (leaf_place (ref / 8)) (inner_place (ref % 8) (ref / 8))) (eq-eqb (ref % 8) 5 e)

pub inner_named : (ref : ℕ) → (ref % 8 ≡ 5 → ⊥) → place_at ref ≡ inner_place (ref % 8) (ref / 8)
inner_named ref e = ap (λ (b : Bool). choose b (leaf_place (ref / 8)) (inner_place (ref % 8) (ref / 8))) (ne_eqb (ref % 8) 5 e)

-- ── a record of a pool lies within the slices ──
module _ {f : Frame} {words keys : List ℕ} (w : FrameOf f words keys) where
  -- a leaf, by its place and first word
  module _ (x : Place) (n start : ℕ) (e : x ≡ leaf_place n) (s : start ≡ start_at f x) (p : in_pool f x ≡ true) where
    pub leaf_in : (start + leaf_size ≤ length words) × (n * f.form.limit + f.form.limit ≤ length keys)
    leaf_in =
        let q : in_pool f (leaf_place n) ≡ true = ap (in_pool f) (sym e) ∙ p in
        let r = place_room w (leaf_place n) q in
        let t : start ≡ start_at f (leaf_place n) = s ∙ ap (start_at f) e in
        (omega arith, leaf_room w n q)

    pub rule_leaf : {r : Bool} → r ≡ leaf_ok f.form.limit (between words start (start + leaf_size)) (key_at f keys n) → r ≡ rule_at f words keys x
    rule_leaf told =
        told
        ∙ ap (λ (a : ℕ). leaf_ok f.form.limit (between words a (a + leaf_size)) (key_at f keys n)) (s ∙ ap (start_at f) e)
        ∙ sym (ap (rule_at f words keys) e)

    pub leaf_stands : rule_at f words keys x ≡ true → LeafThere f.form.limit words keys n start
    leaf_stands r =
        let q : in_pool f (leaf_place n) ≡ true = ap (in_pool f) (sym e) ∙ p in
        let t : start_at f (leaf_place n) ≡ start = sym (s ∙ ap (start_at f) e) in
        record {
          room = leaf_in.0;
          bytes = leaf_in.1;
          fits =
              record {
                long = subst (λ (a : ℕ). length (between words a (a + leaf_size)) ≡ 6) t (record_length w (leaf_place n) q);
                wide = key_length w n q;
                ok = rule_leaf refl ∙ r;
              };
        }

  -- an inner record
  module _ (x : Place) (k n start : ℕ) (e : x ≡ inner_place k n) (s : start ≡ start_at f x) (p : in_pool f x ≡ true) where
    pub inner_in : ((1 ≤ k) × (k ≤ 4)) × (start + record_words f.form k ≤ length words)
    inner_in =
        let q : in_pool f (inner_place k n) ≡ true = ap (in_pool f) (sym e) ∙ p in
        let r = place_room w (inner_place k n) q in
        let t : start ≡ start_at f (inner_place k n) = s ∙ ap (start_at f) e in
        (inner_kind w k n q, omega arith)

    pub rule_inner : {r : Bool} → r ≡ inner_ok f.form k (between words start (start + record_words f.form k)) → r ≡ rule_at f words keys x
    rule_inner told =
        told
        ∙ ap (λ (a : ℕ). inner_ok f.form k (between words a (a + record_words f.form k))) (s ∙ ap (start_at f) e)
        ∙ sym (ap (rule_at f words keys) e)

    pub inner_stands : rule_at f words keys x ≡ true → InnerFitsFrom f.form words k start
    inner_stands r =
        let q : in_pool f (inner_place k n) ≡ true = ap (in_pool f) (sym e) ∙ p in
        let t : start_at f (inner_place k n) ≡ start = sym (s ∙ ap (start_at f) e) in
        record {
          room = inner_in.1;
          fits =
              record {
                low = inner_in.0.0;
                high = inner_in.0.1;
                long =
                    subst (λ (a : ℕ). length (between words a (a + record_words f.form k)) ≡ record_words f.form k) t
                    (record_length w (inner_place k n) q);
                ok = rule_inner refl ∙ r;
              };
        }

-- ── the cases of an arrival ──
module _ (f : Frame) (words keys : List ℕ) (left : ℕ) (x : Place) where
  pub arrive_outside : in_pool f x ≡ false → Broken ≡ arrival_at f words keys left x
  unfolding arrival_at
  arrive_outside p = simp p

  module _ (p : in_pool f x ≡ true) where
    pub arrive_breaks : rule_at f words keys x ≡ false → Broken ≡ arrival_at f words keys left x
    unfolding arrival_at
    arrive_breaks r = simp (p, r)

    module _ (r : rule_at f words keys x ≡ true) (start : ℕ) (s : start ≡ start_at f x) where
      pub arrive_leaf : (n : ℕ) → x ≡ leaf_place n → Leaf n start ≡ arrival_at f words keys left x
      unfolding arrival_at
      arrive_leaf n e = ap (Leaf n) (s ∙ ap (start_at f) e) ∙ sym (ap (arrived f) e) ∙ simp (p, r, ap (on_path left) e)

      pub arrive_spent : (k n : ℕ) → x ≡ inner_place k n → left ≡ 0 → Broken ≡ arrival_at f words keys left x
      unfolding arrival_at
      arrive_spent k n e z = simp (p, r, ap (on_path left) e ∙ le-ltb 0 left (omega arith))

      pub arrive_inner : (k n : ℕ) → x ≡ inner_place k n → (left ≡ 0 → ⊥) → Inner k start ≡ arrival_at f words keys left x
      unfolding arrival_at
      arrive_inner k n e z =
          ap (Inner k) (s ∙ ap (start_at f) e) ∙ sym (ap (arrived f) e) ∙ simp (p, r, ap (on_path left) e ∙ lt-ltb 0 left (omega arith))

-- ── what an arrival says ──
abbrev There : Frame → List ℕ → List ℕ → Arrival → Type 0
There f words keys (Leaf n start) = LeafThere f.form.limit words keys n start
There f words keys (Inner k start) = InnerFitsFrom f.form words k start
There f words keys Broken = Unit

module _ {f : Frame} {words keys : List ℕ} (w : FrameOf f words keys) (left : ℕ) (x : Place) where
  arrived_there : (x : Place) → in_pool f x ≡ true → rule_at f words keys x ≡ true → There f words keys (arrived f x)
  arrived_there (leaf_place n) p r = leaf_stands w (leaf_place n) n (start_at f (leaf_place n)) refl refl p r
  arrived_there (inner_place k n) p r = inner_stands w (inner_place k n) k n (start_at f (inner_place k n)) refl refl p r

  there : There f words keys (arrival_at f words keys left x)
  unfolding arrival_at
  there = go (in_pool f x && (rule_at f words keys x && on_path left x)) refl
    where
      go : (b : Bool) → in_pool f x && (rule_at f words keys x && on_path left x) ≡ b → There f words keys (choose b (arrived f x) Broken)
      go true e =
          let p = both (in_pool f x) (rule_at f words keys x && on_path left x) e in
          arrived_there x p.0 (both (rule_at f words keys x) (on_path left x) p.1).0
      go false e = tt

  pub leaf_there : (n start : ℕ) → arrival_at f words keys left x ≡ Leaf n start → LeafThere f.form.limit words keys n start
  leaf_there n start e = subst (There f words keys) e there

  pub inner_there : (k start : ℕ) → arrival_at f words keys left x ≡ Inner k start → InnerFitsFrom f.form words k start
  inner_there k start e = subst (There f words keys) e there

-- ── where a call begins ──
module _ {A : Type 0} (words keys : List ℕ) (given : Frame → A) (refused : A) where
  pub frame_out : frame_fits words keys ≡ false → refused ≡ with_frame words keys given refused
  unfolding with_frame
  frame_out e = simp e

  pub frame_in : {f : Frame} → FrameOf f words keys → given f ≡ with_frame words keys given refused
  unfolding with_frame
  frame_in w = ap given w.read ∙ simp w.fits

module _ (words keys : List ℕ) (walked : Frame → Found) {f : Frame} (w : FrameOf f words keys) (root : ℕ) (e : root ≡ root_word words) where
  begun : (b : Bool) → eqb root 0 ≡ b → choose b (Err Missing) (walked f) ≡ from_root words keys walked
  begun b z =
      ap (λ (b : Bool). choose b (Err Missing) (walked f)) (sym z ∙ ap (λ (r : ℕ). eqb r 0) e)
      ∙ frame_in words keys (λ f. choose (eqb (root_word words) 0) (Err Missing) (walked f)) (Err Damaged) w

  pub root_none : root ≡ 0 → Err Missing ≡ from_root words keys walked
  root_none z = begun true (eq-eqb root 0 z)

  pub root_walk : (root ≡ 0 → ⊥) → walked f ≡ from_root words keys walked
  root_walk z = begun false (ne_eqb root 0 z)
