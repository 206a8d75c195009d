-- Blank records, and the sweep over a pool.
use Prim.Native.Nat.{ℕ, zero, suc, ◌+◌, ◌*◌, ◌/◌, ◌%◌, ◌≤◌, ◌<◌}
use mathlib.Core.Path.{◌≡◌, refl, sym, ap, ◌∙◌}
use mathlib.Core.List.{List}
use mathlib.Core.Bool.{Bool, true, false, ◌&&◌, and-false}
use native.Mathlib.Omega.{arith}
use native.Mathlib.Numerals.{add-one}
use native.Mathlib.Decide.{ℕ_discrete}
use lib.ListN.{length, get_or}
use lib.Dec.{ltb}
use borrow.Author.Tests.{lt-ltb}
use Rattle.lists.specs.Scan.{choose, all_pass, at_most}
use Rattle.lists.specs.Part.{between}
use Rattle.lists.proofs.Tests.{both, and_both}
use Rattle.frames.specs.Kind.{leaf_size}
use Rattle.frames.specs.Form.{record_words}
use Rattle.frames.specs.Frame.{FrameOf}
use Rattle.frames.specs.Place.{place_at, in_pool, start_at, key_at}
use Rattle.frames.proofs.Frames.{framed, caps_most}
use Rattle.frames.proofs.Places.{pool_by}
use Rattle.frames.specs.declared.frame.Frame.{Frame}
use Rattle.records.specs.View.{blank_at}
use Rattle.art.specs.Stores.{Place}
use Rattle.tree.proofs.Arrivals.{leaf_named, inner_named, leaf_in, inner_in}
use Rattle.whole.specs.Marks.{mark_at, unmarked}
use Rattle.whole.specs.Sweep.{all_under, swept_at, swept_pool, swept}

-- ── the record that a reference names, by its first word ──
-- a record of a pool, of a block whose frame is known
pub record RecordHere (f : Frame) (words keys : List ℕ) (ref start : ℕ) : Type 0 where
  pub frame : FrameOf f words keys
  pub pool : in_pool f (place_at ref) ≡ true
  pub first : start ≡ start_at f (place_at ref)

pub record_here : {f : Frame} {words keys : List ℕ} {ref start : ℕ} → FrameOf f words keys → in_pool f (place_at ref) ≡ true → start ≡ start_at f (place_at ref) → RecordHere f words keys ref start
record_here w p e = record { frame = w; pool = p; first = e }

module _ {f : Frame} {words keys : List ℕ} {ref start : ℕ} (h : RecordHere f words keys ref start) where
  -- a leaf: its words and its key bytes lie within the slices, and it is blank where they are 0
  module _ (k : ref % 8 ≡ 5) where
    pub leaf_within : (start + leaf_size ≤ length words) × (ref / 8 * f.form.limit + f.form.limit ≤ length keys)
    leaf_within = leaf_in h.frame (place_at ref) (ref / 8) start (leaf_named ref k) h.first h.pool

    pub blank_leaf : {a b : Bool} → a ≡ all_pass (at_most 0) (between words start (start + leaf_size)) → b ≡ all_pass (at_most 0) (key_at f keys (ref / 8)) → a && b ≡ blank_at f words keys (place_at ref)
    blank_leaf {a} {b} p q =
        ap (λ (t : Bool). t && b) p
        ∙ ap (λ (t : Bool). all_pass (at_most 0) (between words start (start + leaf_size)) && t) q
        ∙ ap (λ (i : ℕ). all_pass (at_most 0) (between words i (i + leaf_size)) && all_pass (at_most 0) (key_at f keys (ref / 8))) (h.first ∙ ap (start_at f) (leaf_named ref k))
        ∙ ap (blank_at f words keys) (sym (leaf_named ref k))

  -- an inner record: its kind is one of the table's, its words lie within the slice, and it is blank where they are 0
  module _ (k : ref % 8 ≡ 5 → ⊥) where
    pub inner_within : ((1 ≤ ref % 8) × (ref % 8 ≤ 4)) × (start + record_words f.form (ref % 8) ≤ length words)
    inner_within = inner_in h.frame (place_at ref) (ref % 8) (ref / 8) start (inner_named ref k) h.first h.pool

    pub blank_inner : {a : Bool} {z : ℕ} → z ≡ record_words f.form (ref % 8) → a ≡ all_pass (at_most 0) (between words start (start + z)) → a ≡ blank_at f words keys (place_at ref)
    blank_inner {a} {z} e p =
        p
        ∙ ap (λ (i : ℕ). all_pass (at_most 0) (between words start (start + i))) e
        ∙ ap (λ (i : ℕ). all_pass (at_most 0) (between words i (i + record_words f.form (ref % 8)))) (h.first ∙ ap (start_at f) (inner_named ref k))
        ∙ ap (blank_at f words keys) (sym (inner_named ref k))

-- ── each number below ──
pub under_next : (n : ℕ) (p : ℕ → Bool) → all_under n p ≡ true → p n ≡ true → all_under (n + 1) p ≡ true
under_next n p a b = ap (λ (k : ℕ). all_under k p) (add-one n) ∙ ap (λ (t : Bool). t && p n) a ∙ b

pub under_fails : (n i : ℕ) (p : ℕ → Bool) → i < n → p i ≡ false → all_under n p ≡ false
under_fails zero i p h e = absurd (omega arith)
under_fails (suc n) i p h e = go (ℕ_discrete i n) (λ k. under_fails n i p k e)
  where
    go : Dec (i ≡ n) → (i < n → all_under n p ≡ false) → all_under n p && p n ≡ false
    go (yes q) ih = ap (λ (b : Bool). all_under n p && b) (ap p (sym q) ∙ e) ∙ and-false (all_under n p)
    go (no q) ih = ap (λ (b : Bool). b && p n) (ih (omega arith))

pub under_at : (n : ℕ) (p : ℕ → Bool) → all_under n p ≡ true → (i : ℕ) → i < n → p i ≡ true
under_at zero p e i h = absurd (omega arith)
under_at (suc n) p e i h = go (ℕ_discrete i n) (both (all_under n p) (p n) e) (λ a k. under_at n p a i k)
  where
    go : Dec (i ≡ n) → (all_under n p ≡ true) × (p n ≡ true) → (all_under n p ≡ true → i < n → p i ≡ true) → p i ≡ true
    go (yes q) b ih = ap p q ∙ b.1
    go (no q) b ih = ih b.0 (omega arith)

pub under_by : (n : ℕ) (p : ℕ → Bool) → ((i : ℕ) → i < n → p i ≡ true) → all_under n p ≡ true
under_by zero p h = refl
under_by (suc n) p h = and_both (under_by n p (λ i k. h i (omega arith))) (h n (omega arith))

-- ── a record was reached, or is blank ──
module _ (f : Frame) (words keys m : List ℕ) (x : Place) where
  pub swept_new : {b : Bool} → unmarked (mark_at f x) m ≡ true → b ≡ blank_at f words keys x → b ≡ swept_at f words keys m x
  unfolding swept_at
  swept_new e h = h ∙ ap (λ (t : Bool). choose t (blank_at f words keys x) true) (sym e)

  pub swept_old : unmarked (mark_at f x) m ≡ false → true ≡ swept_at f words keys m x
  unfolding swept_at
  swept_old e = ap (λ (t : Bool). choose t (blank_at f words keys x) true) (sym e)

-- ── a pool ──
module _ {f : Frame} {words keys : List ℕ} (w : FrameOf f words keys) where
  -- a record's number is small, and the reference made from it names the record
  pub pool_small : (k i : ℕ) → k ≤ 5 → i < get_or f.caps k 0 → i ≤ 4096
  pool_small k i h l = omega (arith, caps_most (framed w) k (omega arith))

  pub pool_place : (k i : ℕ) {ref : ℕ} → k ≤ 5 → i < get_or f.caps k 0 → ref ≡ i * 8 + k → in_pool f (place_at ref) ≡ true
  pool_place k i h l e = ap (λ (x : ℕ). in_pool f (place_at x)) e ∙ here
    where
      here : in_pool f (place_at (i * 8 + k)) ≡ true
      here =
          let a : (i * 8 + k) % 8 ≡ k = omega arith in
          let b : (i * 8 + k) / 8 ≡ i = omega arith in
          sym (pool_by f (i * 8 + k) (framed w))
          ∙ ap (λ (x : ℕ). ltb x (get_or f.caps ((i * 8 + k) % 8) 0)) b
          ∙ ap (λ (x : ℕ). ltb i (get_or f.caps x 0)) a
          ∙ lt-ltb i (get_or f.caps k 0) l

module _ (f : Frame) (words keys m : List ℕ) (k i : ℕ) where
  pub pool_fails : {ref : ℕ} {b : Bool} → i < get_or f.caps k 0 → ref ≡ i * 8 + k → b ≡ swept_at f words keys m (place_at ref) → b ≡ false → false ≡ swept_pool f words keys m k
  unfolding swept_pool
  pool_fails h r e t =
      sym (under_fails (get_or f.caps k 0) i (λ n. swept_at f words keys m (place_at (n * 8 + k))) h (ap (λ (x : ℕ). swept_at f words keys m (place_at x)) (sym r) ∙ sym e ∙ t))

  pub pool_next : {ref : ℕ} {b : Bool} → all_under i (λ n. swept_at f words keys m (place_at (n * 8 + k))) ≡ true → ref ≡ i * 8 + k → b ≡ swept_at f words keys m (place_at ref)
      → b ≡ true → all_under (i + 1) (λ n. swept_at f words keys m (place_at (n * 8 + k))) ≡ true
  pool_next a r e t = under_next i (λ n. swept_at f words keys m (place_at (n * 8 + k))) a (ap (λ (x : ℕ). swept_at f words keys m (place_at x)) (sym r) ∙ sym e ∙ t)

  pub pool_end : i ≡ get_or f.caps k 0 → all_under i (λ n. swept_at f words keys m (place_at (n * 8 + k))) ≡ true → true ≡ swept_pool f words keys m k
  unfolding swept_pool
  pool_end e a = sym a ∙ ap (λ (n : ℕ). all_under n (λ n. swept_at f words keys m (place_at (n * 8 + k)))) e

-- all five
pub swept_by : (f : Frame) (words keys m : List ℕ) {a b c d e : Bool} → a ≡ swept_pool f words keys m 1 → b ≡ swept_pool f words keys m 2 → c ≡ swept_pool f words keys m 3
    → d ≡ swept_pool f words keys m 4 → e ≡ swept_pool f words keys m 5 → a && b && c && d && e ≡ swept f words keys m
unfolding swept
swept_by f words keys m p q r s t = rw (p, q, r, s, t)
