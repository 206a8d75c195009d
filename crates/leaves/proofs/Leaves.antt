-- The cases of `leaf_state` and `next_of`, and what a leaf in use that obeys its rule has.
use Prim.Native.Nat.{ℕ, ◌+◌, ◌-◌, ◌*◌, ◌≤◌, ◌<◌}
use mathlib.Core.Path.{◌≡◌, refl, sym, ap, ◌∙◌}
use mathlib.Core.List.{List, []}
use mathlib.Core.Bool.{Bool, true, false}
use native.Mathlib.Omega.{arith}
use borrow.Author.Tests.{eq-eqb, ne_eqb, lt-ltb}
use Rattle.std.specs.Prelude.{Ok, Err}
use Rattle.refusals.specs.declared.Refusal.TheVariants.{Damaged, Missing, NotInUse}
use Rattle.leaves.specs.Leaf.{LeafState, leaf_state, next_at, next_of, next_from, next_leaf_of, facts_from, facts_of, len_from, tag_len, tag_of}
use lib.ListN.{length, get_or, take}
use lib.Dec.{eqb}
use Rattle.lists.specs.Scan.{choose}
use Rattle.lists.specs.Part.{between}
use Rattle.lists.proofs.Parts.{between_front}
use Rattle.frames.specs.Kind.{leaf_size}
use Rattle.frames.specs.Frame.{FrameOf}
use Rattle.frames.specs.Place.{place_at, in_pool, start_at, record_at, key_at}
use Rattle.records.specs.Words.{used_as, tag_length}
use Rattle.records.specs.View.{rule_at}
use Rattle.frames.specs.declared.frame.Frame.{Frame}
use Rattle.records.proofs.Owns.{leaf_rule}
use Rattle.frames.proofs.Places.{ref_leaf}
use Rattle.art.specs.Stores.{Place, leaf_place, inner_place}
use Rattle.tree.specs.Answer.{leaf_found}
use Rattle.tree.specs.Arrive.{LeafThere}
use Rattle.tree.proofs.Arrivals.{leaf_stands, frame_in}

-- ── the reference of a leaf number of the pool ──
pub ref_pooled : (f : Frame) {n ref : ℕ} → ref ≡ n * 8 + 5 → n < get_or f.caps 5 0 → in_pool f (place_at ref) ≡ true
ref_pooled f {n} r h = ap (in_pool f) (ref_leaf r) ∙ lt-ltb n (get_or f.caps 5 0) h

-- ── what stands at a leaf number ──
module _ (f : Frame) (words keys : List ℕ) (n : ℕ) where
  pub state_outside : in_pool f (leaf_place n) ≡ false → Err NotInUse ≡ leaf_state f words keys n
  unfolding leaf_state
  state_outside p = simp p

  -- by a number of the pool, the first word of its reference's place, and what the leaf there is used as
  module _ {ref : ℕ} (r : ref ≡ n * 8 + 5) (h : n < get_or f.caps 5 0) (start : ℕ) (s : start ≡ start_at f (place_at ref)) {u : ℕ} (e : u ≡ used_as (between words start (start + leaf_size))) where
    begins : start ≡ start_at f (leaf_place n)
    begins = s ∙ ap (start_at f) (ref_leaf r)

    head : used_as (record_at f words (leaf_place n)) ≡ u
    head = ap (λ (a : ℕ). used_as (between words a (a + leaf_size))) (sym begins) ∙ sym e

    pub state_free : u ≡ 0 → Err NotInUse ≡ leaf_state f words keys n
    unfolding leaf_state
    state_free z = simp (lt-ltb n (get_or f.caps 5 0) h, eq-eqb _ _ (head ∙ z))

    module _ (z : u ≡ 0 → ⊥) where
      used : eqb (used_as (record_at f words (leaf_place n))) 0 ≡ false
      used = ne_eqb _ _ (λ e. z (sym head ∙ e))

      ruled : (b : Bool) → rule_at f words keys (place_at ref) ≡ b → choose b (Ok start) (Err Damaged) ≡ leaf_state f words keys n
      unfolding leaf_state
      ruled b t =
          ap (λ (a : ℕ). choose b (Ok a) (Err Damaged)) begins
          ∙ ap (λ (b : Bool). choose b (Ok (start_at f (leaf_place n))) (Err Damaged)) (sym t ∙ ap (rule_at f words keys) (ref_leaf r))
          ∙ simp (lt-ltb n (get_or f.caps 5 0) h, used)

      pub state_broken : rule_at f words keys (place_at ref) ≡ false → Err Damaged ≡ leaf_state f words keys n
      state_broken t = ruled false t

      pub state_good : rule_at f words keys (place_at ref) ≡ true → Ok start ≡ leaf_state f words keys n
      state_good t = ruled true t

-- a good leaf's first word, and the leaf there
pub record GoodLeaf (f : Frame) (words keys : List ℕ) (n start : ℕ) : Type 0 where
  pub pooled : in_pool f (leaf_place n) ≡ true
  pub begins : start ≡ start_at f (leaf_place n)
  pub there : LeafThere f.form.limit words keys n start

-- and its record
pub good_record : {f : Frame} {words keys : List ℕ} {n start : ℕ} → GoodLeaf f words keys n start
    → record_at f words (leaf_place n) ≡ between words start (start + leaf_size)
good_record {words = words} g = ap (λ (a : ℕ). between words a (a + leaf_size)) (sym g.begins)

module _ {f : Frame} {words keys : List ℕ} (w : FrameOf f words keys) (n : ℕ) where
  pub good_leaf : (start : ℕ) → leaf_state f words keys n ≡ Ok start → GoodLeaf f words keys n start
  unfolding leaf_state
  good_leaf start e = go (in_pool f x) refl (eqb (used_as (record_at f words x)) 0) (rule_at f words keys x) refl e
    where
      x : Place
      x = leaf_place n

      go : (p : Bool) → in_pool f x ≡ p → (z r : Bool) → rule_at f words keys x ≡ r
          → choose p (choose z (Err NotInUse) (choose r (Ok (start_at f x)) (Err Damaged))) (Err NotInUse) ≡ Ok start → GoodLeaf f words keys n start
      go true p false true r e =
          let s : start ≡ start_at f x = cc in
          record { pooled = p; begins = s; there = leaf_stands w x n start refl s p r }
      go true p false false r e = absurd (let z : ◌≡◌ {A = ℕ} 0 1 = cc in omega arith)
      go true p true r q e = absurd (let z : ◌≡◌ {A = ℕ} 0 1 = cc in omega arith)
      go false p z r q e = absurd (let z : ◌≡◌ {A = ℕ} 0 1 = cc in omega arith)

-- ── the next leaf ──
module _ (f : Frame) (words : List ℕ) (ref : ℕ) where
  pub next_none : ref ≡ 0 → Err Missing ≡ next_of f words ref
  unfolding next_of
  next_none z = simp (eq-eqb ref 0 z)

  module _ (z : ref ≡ 0 → ⊥) where
    named : (x : Place) → place_at ref ≡ x → next_at f words x ≡ next_of f words ref
    unfolding next_of
    named x e = ap (next_at f words) (sym e) ∙ simp (ne_eqb ref 0 z)

    pub next_inner : (k n : ℕ) → place_at ref ≡ inner_place k n → Err Damaged ≡ next_of f words ref
    next_inner k n e = named (inner_place k n) e

    module _ (n : ℕ) (e : place_at ref ≡ leaf_place n) where
      pub next_outside : in_pool f (place_at ref) ≡ false → Err Damaged ≡ next_of f words ref
      next_outside p = simp (ap (in_pool f) (sym e) ∙ p) at (named (leaf_place n) e)

      module _ (p : in_pool f (place_at ref) ≡ true) (start : ℕ) (s : start ≡ start_at f (place_at ref)) {u : ℕ} (h : u ≡ used_as (between words start (start + leaf_size))) where
        rec_is : record_at f words (leaf_place n) ≡ between words start (start + leaf_size)
        rec_is = ap (λ (a : ℕ). between words a (a + leaf_size)) (sym (s ∙ ap (start_at f) e))

        next_head : used_as (record_at f words (leaf_place n)) ≡ u
        next_head = ap used_as rec_is ∙ sym h

        pub next_unused : (u ≡ 1 → ⊥) → Err Damaged ≡ next_of f words ref
        next_unused v = simp (ap (in_pool f) (sym e) ∙ p, ne_eqb _ _ (λ q. v (sym next_head ∙ q))) at (named (leaf_place n) e)

        pub next_found : u ≡ 1 → leaf_found n (between words start (start + leaf_size)) ≡ next_of f words ref
        next_found v =
            ap (leaf_found n) (sym rec_is) ∙ simp (ap (in_pool f) (sym e) ∙ p, eq-eqb _ _ (next_head ∙ v)) at (named (leaf_place n) e)

-- ── the tag ──
module _ {f : Frame} {words keys : List ℕ} (w : FrameOf f words keys) (n : ℕ) where
  -- a tag with bytes is a good leaf's, and lies within its key bytes
  pub tag_short : 0 < tag_len f words keys n → (tag_len f words keys n ≤ f.form.limit) × (n * f.form.limit + f.form.limit ≤ length keys)
  unfolding tag_len
  tag_short h = go (leaf_state f words keys n) refl h
    where
      rec : List ℕ
      rec = record_at f words (leaf_place n)

      go : (s : LeafState) → leaf_state f words keys n ≡ s → 0 < len_from rec s → (len_from rec s ≤ f.form.limit) × (n * f.form.limit + f.form.limit ≤ length keys)
      go (Ok start) e h =
          let g = good_leaf w n start e in
          let r = leaf_rule f.form.limit (between words start (start + leaf_size)) (key_at f keys n) g.there.fits.ok in
          (omega (arith, r.short, ap tag_length (good_record g)), g.there.bytes)
      go (Err refusal) e h = absurd (omega arith)

  pub tag_part : (len : ℕ) → len ≤ f.form.limit
      → between keys (n * f.form.limit) (n * f.form.limit + len) ≡ take len (key_at f keys n)
  tag_part len h =
      let a = n * f.form.limit in
      sym (between_front keys a (a + len) (a + f.form.limit) (omega arith))
      ∙ ap (λ (m : ℕ). take m (key_at f keys n)) (let q : a + len - a ≡ len = omega arith in q)

-- ── each call, by what stands at the number ──
module _ {f : Frame} {words keys : List ℕ} (w : FrameOf f words keys) (n : ℕ) where
  pub next_by : (s : LeafState) → leaf_state f words keys n ≡ s → next_from f words n s ≡ next_leaf_of words keys n
  next_by s e = ap (next_from f words n) (sym e) ∙ frame_in words keys (λ f. next_from f words n (leaf_state f words keys n)) (Err Damaged) w

  pub facts_by : (s : LeafState) → leaf_state f words keys n ≡ s → facts_from (record_at f words (leaf_place n)) s ≡ facts_of words keys n
  facts_by s e =
      ap (facts_from (record_at f words (leaf_place n))) (sym e)
      ∙ frame_in words keys (λ f. facts_from (record_at f words (leaf_place n)) (leaf_state f words keys n)) (Err Damaged) w

  pub len_by : (s : LeafState) → leaf_state f words keys n ≡ s → len_from (record_at f words (leaf_place n)) s ≡ tag_len f words keys n
  unfolding tag_len
  len_by s e = ap (len_from (record_at f words (leaf_place n))) (sym e)

  pub tag_by : (len : ℕ) → len ≡ tag_len f words keys n → take len (key_at f keys n) ≡ tag_of words keys n
  tag_by len e =
      ap (λ (m : ℕ). take m (key_at f keys n)) e ∙ frame_in words keys (λ f. take (tag_len f words keys n) (key_at f keys n)) [] w
