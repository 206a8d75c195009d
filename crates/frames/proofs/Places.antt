-- The place that a reference names, by the reference's kind and number, and the room that a place of a pool has.
use Prim.Native.Nat.{ℕ, ◌+◌, ◌*◌, ◌/◌, ◌%◌, ◌≤◌, ◌<◌}
use mathlib.Core.Path.{◌≡◌, refl, sym, ap, ◌∙◌}
use mathlib.Core.List.{List}
use mathlib.Core.Bool.{Bool, true, false, ◌&&◌, and-false}
use native.Mathlib.Omega.{arith}
use lib.ListN.{length, get_or}
use lib.Dec.{eqb, leb, ltb}
use borrow.Author.Tests.{le-leb, leb-true, ltb-true, eqb-true, eqb-false, eq-eqb, ne_eqb}
use Rattle.lists.specs.Scan.{choose}
use Rattle.lists.proofs.Tests.{both}
use Rattle.lists.proofs.Parts.{between_length}
use Rattle.frames.specs.Frame.{Framed, FrameOf}
use Rattle.frames.specs.Place.{place_at, ref_of, in_pool, start_at, size_at, record_at, key_at}
use Rattle.frames.specs.declared.frame.Frame.{Frame}
use Rattle.art.specs.Stores.{Place, leaf_place, inner_place}
use Rattle.frames.proofs.Frames.{framed_room, frame_room, key_room, frame_size, leaf_size}

module _ (f : Frame) (ref : ℕ) where
  abbrev named : Bool → Place
  named b = choose b (leaf_place (ref / 8)) (inner_place (ref % 8) (ref / 8))

  pub start_by : get_or f.starts (ref % 8) 0 + ref / 8 * get_or f.sizes (ref % 8) 0 ≡ start_at f (place_at ref)
  start_by = go (eqb (ref % 8) 5) refl
    where
      go : (b : Bool) → eqb (ref % 8) 5 ≡ b → get_or f.starts (ref % 8) 0 + ref / 8 * get_or f.sizes (ref % 8) 0 ≡ start_at f (named b)
      go true e = ap (λ (k : ℕ). get_or f.starts k 0 + ref / 8 * get_or f.sizes k 0) (eqb-true _ _ e)
      go false e = refl

  pub pool_by : Framed f → ltb (ref / 8) (get_or f.caps (ref % 8) 0) ≡ in_pool f (place_at ref)
  pool_by w = go (eqb (ref % 8) 5) refl (ltb (ref / 8) (get_or f.caps (ref % 8) 0)) refl
    where
      go : (b : Bool) → eqb (ref % 8) 5 ≡ b → (t : Bool) → ltb (ref / 8) (get_or f.caps (ref % 8) 0) ≡ t
          → ltb (ref / 8) (get_or f.caps (ref % 8) 0) ≡ in_pool f (named b)
      go true e t u = ap (λ (k : ℕ). ltb (ref / 8) (get_or f.caps k 0)) (eqb-true _ _ e)
      go false e true u =
          let r = framed_room w (ref / 8) (ref % 8) (omega arith) (ltb-true _ _ u) in
          let z = eqb-false (ref % 8) 5 e in
          sym (ap (λ (b : Bool). b && ltb (ref / 8) (get_or f.caps (ref % 8) 0)) (le-leb (ref % 8) 4 (omega arith)))
      go false e false u = u ∙ sym (ap (λ (b : Bool). leb (ref % 8) 4 && b) u ∙ and-false (leb (ref % 8) 4))

-- the first word of the place that a reference names is a small number
pub start_small : {f : Frame} → Framed f → (ref : ℕ) → in_pool f (place_at ref) ≡ true
    → get_or f.starts (ref % 8) 0 + ref / 8 * get_or f.sizes (ref % 8) 0 ≤ 10485760
start_small {f} w ref e =
    let h : ref / 8 < get_or f.caps (ref % 8) 0 = ltb-true _ _ (pool_by f ref w ∙ e) in
    (framed_room w (ref / 8) (ref % 8) (omega arith) h).2

module _ {f : Frame} {words keys : List ℕ} (w : FrameOf f words keys) where
  -- an inner place's kind is one of four
  pub inner_kind : (k n : ℕ) → in_pool f (inner_place k n) ≡ true → (1 ≤ k) × (k ≤ 4)
  inner_kind k n e =
      let p = both (leb k 4) (ltb n (get_or f.caps k 0)) e in
      let h = leb-true k 4 p.0 in
      ((frame_room w n k (omega arith) (ltb-true _ _ p.1)).0, h)

  -- a place of a pool ends before the trailer
  pub place_room : (x : Place) → in_pool f x ≡ true → start_at f x + size_at f x + 16 ≤ length words
  place_room (leaf_place n) e = omega (arith, frame_room w n 5 (omega arith) (ltb-true _ _ e), leaf_size w)
  place_room (inner_place k n) e =
      let p = both (leb k 4) (ltb n (get_or f.caps k 0)) e in
      let h = leb-true k 4 p.0 in
      let r = frame_room w n k (omega arith) (ltb-true _ _ p.1) in
      omega (arith, frame_size w k r.0 h)

  -- and a leaf's tag has its room
  pub leaf_room : (n : ℕ) → in_pool f (leaf_place n) ≡ true → n * f.form.limit + f.form.limit ≤ length keys
  leaf_room n e = key_room w n (ltb-true _ _ e)

  pub record_length : (x : Place) → in_pool f x ≡ true → length (record_at f words x) ≡ size_at f x
  record_length x e =
      let r = place_room x e in
      between_length words (start_at f x) (start_at f x + size_at f x) (omega arith) (omega arith) ∙ omega arith

  pub key_length : (n : ℕ) → in_pool f (leaf_place n) ≡ true → length (key_at f keys n) ≡ f.form.limit
  key_length n e =
      let r = leaf_room n e in
      let a = n * f.form.limit in
      between_length keys a (a + f.form.limit) (omega arith) (omega arith) ∙ omega arith

-- ── references and places name each other ──
pub ref_place : (ref : ℕ) → ref_of (place_at ref) ≡ ref
ref_place ref = go (eqb (ref % 8) 5) refl
  where
    go : (b : Bool) → eqb (ref % 8) 5 ≡ b → ref_of (choose b (leaf_place (ref / 8)) (inner_place (ref % 8) (ref / 8))) ≡ ref
    go true e = omega (arith, eqb-true (ref % 8) 5 e)
    go false e = omega arith

pub place_leaf : (n : ℕ) → place_at (n * 8 + 5) ≡ leaf_place n
place_leaf n =
    let k : (n * 8 + 5) % 8 ≡ 5 = omega arith in
    let m : (n * 8 + 5) / 8 ≡ n = omega arith in
    ap (λ (b : Bool). choose b (leaf_place ((n * 8 + 5) / 8)) (inner_place ((n * 8 + 5) % 8) ((n * 8 + 5) / 8))) (eq-eqb _ _ k) ∙ ap leaf_place m

pub ref_leaf : {ref n : ℕ} → ref ≡ n * 8 + 5 → place_at ref ≡ leaf_place n
ref_leaf {n = n} e = ap place_at e ∙ place_leaf n

pub place_inner : (k n : ℕ) → k ≤ 4 → place_at (n * 8 + k) ≡ inner_place k n
place_inner k n h =
    let r = n * 8 + k in
    let a : r % 8 ≡ k = omega arith in
    let m : r / 8 ≡ n = omega arith in
    ap (λ (b : Bool). choose b (leaf_place (r / 8)) (inner_place (r % 8) (r / 8))) (ne_eqb (r % 8) 5 (λ e. omega arith))
    ∙ ap (λ (j : ℕ). inner_place j (r / 8)) a
    ∙ ap (inner_place k) m

pub place_ref : (f : Frame) (x : Place) → in_pool f x ≡ true → place_at (ref_of x) ≡ x
place_ref f (leaf_place n) e = place_leaf n
place_ref f (inner_place k n) e = place_inner k n (leb-true _ _ (both (leb k 4) (ltb n (get_or f.caps k 0)) e).0)
