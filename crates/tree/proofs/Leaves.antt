-- A leaf that was seen lies within the slices, and its tag is the front of its key bytes; a leaf that is arrived at was seen.
use Prim.Native.Nat.{ℕ, ◌+◌, ◌-◌, ◌*◌, ◌/◌, ◌%◌, ◌≤◌}
use mathlib.Core.Path.{◌≡◌, refl, sym, ap, ◌∙◌}
use mathlib.Core.List.{List}
use mathlib.Core.Bool.{Bool, true, false, ◌&&◌}
use native.Mathlib.Omega.{arith}
use lib.ListN.{length, take}
use lib.Dec.{eqb}
use borrow.Author.Tests.{eqb-true}
use Rattle.lists.specs.Scan.{choose}
use Rattle.lists.specs.Part.{between}
use Rattle.lists.proofs.Tests.{both}
use Rattle.lists.proofs.Parts.{between_front}
use Rattle.frames.specs.Kind.{leaf_size}
use Rattle.frames.specs.Frame.{FrameOf}
use Rattle.frames.specs.Place.{place_at, in_pool, start_at, record_at, key_at}
use Rattle.frames.specs.declared.frame.Frame.{Frame}
use Rattle.records.specs.Words.{tag_length}
use Rattle.records.specs.View.{rule_at}
use Rattle.records.proofs.Owns.{leaf_rule}
use Rattle.art.specs.Stores.{Place, leaf_place, inner_place}
use Rattle.tree.specs.Seen.{LeafSeen, length_at, tag_at}
use Rattle.tree.specs.Arrive.{on_path, arrived, arrival_at}
use Rattle.tree.specs.declared.arrive.Arrival.{Arrival}
use Rattle.tree.specs.declared.arrive.Arrival.TheVariants.{Leaf, Broken}
use Rattle.tree.proofs.Arrivals.{leaf_named, leaf_in}

-- ── a leaf that was seen ──
module _ {f : Frame} {words keys : List ℕ} {ref : ℕ} (l : LeafSeen f words keys ref) where
  pub seen_pool : in_pool f (place_at ref) ≡ true
  seen_pool = ap (in_pool f) (leaf_named ref l.kind) ∙ l.pool

module _ {f : Frame} {words keys : List ℕ} (w : FrameOf f words keys) {ref : ℕ} (l : LeafSeen f words keys ref) where
  pub seen_bytes : ref / 8 * f.form.limit + f.form.limit ≤ length keys
  seen_bytes = (leaf_in w (leaf_place (ref / 8)) (ref / 8) (start_at f (leaf_place (ref / 8))) refl refl l.pool).1

  module _ (start : ℕ) (s : start ≡ start_at f (place_at ref)) where
    pub seen_room : start + leaf_size ≤ length words
    seen_room = (leaf_in w (place_at ref) (ref / 8) start (leaf_named ref l.kind) s (seen_pool l)).0

    pub seen_length : (n : ℕ) → n ≡ tag_length (between words start (start + leaf_size)) → (n ≡ length_at f words ref) × (n ≤ f.form.limit)
    seen_length n e =
        let q : start ≡ start_at f (leaf_place (ref / 8)) = s ∙ ap (start_at f) (leaf_named ref l.kind) in
        let t : n ≡ length_at f words ref = e ∙ ap (λ (b : ℕ). tag_length (between words b (b + leaf_size))) q in
        (t, omega (arith, (leaf_rule f.form.limit (record_at f words (leaf_place (ref / 8))) (key_at f keys (ref / 8)) l.rule).short))

pub seen_tag : (f : Frame) (words keys : List ℕ) (ref n : ℕ) → n ≡ length_at f words ref → n ≤ f.form.limit
    → between keys (ref / 8 * f.form.limit) (ref / 8 * f.form.limit + n) ≡ tag_at f words keys ref
unfolding tag_at
seen_tag f words keys ref n e h =
    let a = ref / 8 * f.form.limit in
    let q : a + n - a ≡ length_at f words ref = omega arith in
    sym (between_front keys a (a + n) (a + f.form.limit) (omega arith)) ∙ ap (λ (k : ℕ). take k (key_at f keys (ref / 8))) q

-- ── a leaf that is arrived at was seen ──
module _ (f : Frame) (words keys : List ℕ) where
  leaf_picked : (left ref n start : ℕ) (b : Bool) → eqb (ref % 8) 5 ≡ b → (x : Place) → x ≡ choose b (leaf_place (ref / 8)) (inner_place (ref % 8) (ref / 8)) → (t : Bool)
      → in_pool f x && (rule_at f words keys x && on_path left x) ≡ t → choose t (arrived f x) Broken ≡ Leaf n start → LeafSeen f words keys ref
  leaf_picked left ref n start b k x p false q a = absurd (let z : ◌≡◌ {A = ℕ} 0 1 = cc in omega arith)
  leaf_picked left ref n start true k x p true q a =
      let u = both (in_pool f x) (rule_at f words keys x && on_path left x) q in
      record { kind = eqb-true _ _ k; pool = ap (in_pool f) (sym p) ∙ u.0; rule = ap (rule_at f words keys) (sym p) ∙ (both (rule_at f words keys x) (on_path left x) u.1).0 }
  leaf_picked left ref n start false k x p true q a =
      let z : ◌≡◌ {A = Arrival} (arrived f (inner_place (ref % 8) (ref / 8))) (Leaf n start) = ap (arrived f) (sym p) ∙ a in
      absurd (let y : ◌≡◌ {A = ℕ} 0 1 = cc in omega arith)

  pub leaf_arrived : (left ref n start : ℕ) → arrival_at f words keys left (place_at ref) ≡ Leaf n start → LeafSeen f words keys ref
  unfolding arrival_at
  leaf_arrived left ref n start e =
      leaf_picked left ref n start (eqb (ref % 8) 5) refl (place_at ref) refl (in_pool f (place_at ref) && (rule_at f words keys (place_at ref) && on_path left (place_at ref))) refl e
