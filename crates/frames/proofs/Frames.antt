-- What a fitting frame gives: the sizes of its pools' records, and the room that each place has in the words and in the key bytes.
use Prim.Native.Nat.{ℕ, zero, suc, ◌+◌, ◌*◌, ◌≤◌, ◌<◌}
use mathlib.Core.Path.{◌≡◌, refl, sym, ap, subst, ◌∙◌}
use mathlib.Core.List.{List}
use mathlib.Core.Bool.{Bool, true, false, ◌&&◌}
use native.Mathlib.Omega.{arith}
use native.Mathlib.Nat.{mul-le-mul_right, suc-mul}
use lib.ListN.{length, get_or}
use lib.Dec.{eqb, leb}
use borrow.Author.Tests.{leb-true, eqb-true}
use Rattle.lists.proofs.Tests.{both}
use Rattle.frames.specs.Form.{form_known, form_of, record_words, sizes_of, SmallSizes}
use Rattle.frames.specs.Frame.{trailer_of, frame_fits, frame_of, caps_of, caps_small, SmallCaps, backs_of, backs_match, form_fits, trailer_fits, frame_with, Framed, FrameOf, caps_list, sizes_list, starts_list}
use Rattle.frames.specs.declared.form.Form.{Form}
use Rattle.frames.specs.declared.form.Sizes.{Sizes}
use Rattle.frames.specs.declared.frame.Caps.{Caps}
use Rattle.frames.specs.declared.frame.Frame.{Frame}
use Rattle.lists.proofs.Tables.{both5}
use Rattle.frames.proofs.KindTable.{by_kind}
use Rattle.frames.proofs.FormTable.{form_rules, known_sizes}

pub caps_small_lem : (c : Caps) → caps_small c ≡ true → SmallCaps c
caps_small_lem c e =
    let p = both5 (leb c.c1 4096) (leb c.c2 4096) (leb c.c3 4096) (leb c.c4 4096) (leb c.c5 4096) e in
    record { s1 = leb-true _ _ p.0; s2 = leb-true _ _ p.1; s3 = leb-true _ _ p.2; s4 = leb-true _ _ p.3; s5 = leb-true _ _ p.4 }

-- ── the trailer's test, by its two ways ──
module _ (t : List ℕ) (n k : ℕ) (known small : Bool) (c : Caps) (a : known ≡ form_known (get_or t 0 0)) (b : c ≡ caps_of t) (d : small ≡ caps_small c) where
  tested : (v : Bool) → known && small ≡ v → form_known (get_or t 0 0) && caps_small (caps_of t) ≡ v
  tested v e = ap (λ (x : Bool). x && caps_small (caps_of t)) (sym a) ∙ ap (λ (x : Bool). known && x) (ap caps_small (sym b) ∙ sym d) ∙ e

  pub trailer_in : known && small ≡ true → (form : Form) → form ≡ form_of (get_or t 0 0) → (r : Bool) → r ≡ form_fits form t c n k → r ≡ trailer_fits t n k
  unfolding trailer_fits
  trailer_in e form f r g =
      let q : form_fits form t c n k ≡ form_fits (form_of (get_or t 0 0)) t (caps_of t) n k =
      ap (λ (x : Form). form_fits x t c n k) f ∙ ap (λ (x : Caps). form_fits (form_of (get_or t 0 0)) t x n k) b in
      simp (tested true e) (g ∙ q)

  pub trailer_out : known && small ≡ false → false ≡ trailer_fits t n k
  unfolding trailer_fits
  trailer_out e = simp (tested false e)

-- what holds of each number below 8
pub by_eight : (P : ℕ → Type 0) → P 0 → P 1 → P 2 → P 3 → P 4 → P 5 → P 6 → P 7 → (k : ℕ) → k < 8 → P k
by_eight P a b c d e f g h zero l = a
by_eight P a b c d e f g h (suc zero) l = b
by_eight P a b c d e f g h (suc (suc zero)) l = c
by_eight P a b c d e f g h (suc (suc (suc zero))) l = d
by_eight P a b c d e f g h (suc (suc (suc (suc zero)))) l = e
by_eight P a b c d e f g h (suc (suc (suc (suc (suc zero))))) l = f
by_eight P a b c d e f g h (suc (suc (suc (suc (suc (suc zero)))))) l = g
by_eight P a b c d e f g h (suc (suc (suc (suc (suc (suc (suc zero))))))) l = h
by_eight P a b c d e f g h (suc (suc (suc (suc (suc (suc (suc (suc k)))))))) l = absurd (omega arith)

-- no pool has more than 4,096 records
abbrev Small : Frame → ℕ → Type 0
Small f k = get_or f.caps k 0 ≤ 4096

pub caps_most : {f : Frame} → Framed f → (k : ℕ) → k < 8 → get_or f.caps k 0 ≤ 4096
caps_most {f} w k h =
    let s = w.small_caps in
    subst (λ (g : Frame). Small g k) (sym w.made)
    (by_eight (Small (frame_with w.form w.sizes w.caps)) (omega arith) s.s1 s.s2 s.s3 s.s4 s.s5 (omega arith) (omega arith) k h)

-- the nth of c records of z words ends within them
pub nth_ends : (n c z : ℕ) → n < c → n * z + z ≤ c * z
nth_ends n c z h = omega (arith, mul-le-mul_right z h, suc-mul n z)

-- the nth record of a kind's pool ends before the trailer
abbrev Ends : Sizes → Caps → ℕ → ℕ → Type 0
Ends z c n k =
    n < get_or (caps_list c) k 0 → (1 ≤ k) × (k ≤ 5) × (get_or (starts_list z c) k 0 + n * get_or (sizes_list z) k 0 + get_or (sizes_list z) k 0 ≤ (backs_of z c).b1)

caps_room : (z : Sizes) (c : Caps) (n k : ℕ) → k < 8 → Ends z c n k
caps_room z c n =
    by_eight (Ends z c n)
    (λ h. absurd (omega arith))
    (λ h. omega (arith, nth_ends n c.c1 z.z1 h))
    (λ h. omega (arith, nth_ends n c.c2 z.z2 h))
    (λ h. omega (arith, nth_ends n c.c3 z.z3 h))
    (λ h. omega (arith, nth_ends n c.c4 z.z4 h))
    (λ h. omega (arith, nth_ends n c.c5 z.z5 h))
    (λ h. absurd (omega arith))
    (λ h. absurd (omega arith))

-- all pools together
backs_most : (z : Sizes) (c : Caps) → SmallSizes z → SmallCaps c → (backs_of z c).b1 ≤ 10485760
backs_most z c a b =
    omega (arith, mul-le-mul_right z.z1 b.s1, mul-le-mul_right z.z2 b.s2, mul-le-mul_right z.z3 b.s3, mul-le-mul_right z.z4 b.s4, mul-le-mul_right z.z5 b.s5)

module _ {f : Frame} (w : Framed f) where
  abbrev Within : Frame → ℕ → ℕ → Type 0
  Within g n k = n < get_or g.caps k 0 → (1 ≤ k) × (k ≤ 5) × (get_or g.starts k 0 + n * get_or g.sizes k 0 ≤ 10485760)

  -- only kinds 1 to 5 have records, and their first words are small numbers
  pub framed_room : (n k : ℕ) → k < 8 → Within f n k
  framed_room n k l =
      subst (λ (g : Frame). Within g n k) (sym w.made)
      (λ h. let r = caps_room w.sizes w.caps n k l h in (r.0, r.1, omega (arith, backs_most w.sizes w.caps w.small_sizes w.small_caps)))

-- the form that a trailer names
abbrev pub form_at : List ℕ → Form
form_at t = form_of (get_or t 0 0)

-- what a fitting frame's test says
pub record Totals (words keys : List ℕ) : Type 0 where
  pub long : 16 ≤ length words
  pub known : form_known (get_or (trailer_of words) 0 0) ≡ true
  pub small : caps_small (caps_of (trailer_of words)) ≡ true
  pub total : length words ≡ (backs_of (sizes_of (form_at (trailer_of words))) (caps_of (trailer_of words))).b1 + 16
  pub bytes : length keys ≡ get_or (trailer_of words) 10 0 * (form_at (trailer_of words)).limit
  pub backs : backs_match (trailer_of words) (backs_of (sizes_of (form_at (trailer_of words))) (caps_of (trailer_of words))) ≡ true

pub totals : (words keys : List ℕ) → frame_fits words keys ≡ true → Totals words keys
unfolding frame_fits trailer_fits form_fits
totals words keys e =
    let t = trailer_of words in
    let b = backs_of (sizes_of (form_at t)) (caps_of t) in
    let p = both (leb 16 (length words)) (trailer_fits t (length words) (length keys)) e in
    let q = both (form_known (get_or t 0 0) && caps_small (caps_of t)) (form_fits (form_at t) t (caps_of t) (length words) (length keys)) p.1 in
    let g = both (form_known (get_or t 0 0)) (caps_small (caps_of t)) q.0 in
    let h =
    both5 true (backs_match t b) (eqb (get_or t 15 0) (b.b1 + 16)) (eqb (length words) (get_or t 15 0)) (eqb (length keys) (get_or t 10 0 * (form_at t).limit)) q.1 in
    record { long = leb-true _ _ p.0; known = g.0; small = g.1; total = eqb-true _ _ h.3 ∙ eqb-true _ _ h.2; bytes = eqb-true _ _ h.4; backs = h.1 }

pub framed : {f : Frame} {words keys : List ℕ} → FrameOf f words keys → Framed f
unfolding frame_of
framed {f} {words} {keys} w =
    let z = totals words keys w.fits in
    let t = trailer_of words in
    record {
      form = form_at t;
      sizes = sizes_of (form_at t);
      caps = caps_of t;
      made = w.read;
      small_sizes = known_sizes (get_or t 0 0) z.known (form_at t) refl (sizes_of (form_at t)) refl;
      small_caps = caps_small_lem (caps_of t) z.small;
    }

module _ {f : Frame} {words keys : List ℕ} (w : FrameOf f words keys) where
  abbrev Room : Frame → ℕ → ℕ → Type 0
  Room g n k =
      n < get_or g.caps k 0 → (1 ≤ k) × (k ≤ 5) × (get_or g.starts k 0 + n * get_or g.sizes k 0 + get_or g.sizes k 0 + 16 ≤ length words)

  pub frame_room : (n k : ℕ) → k < 8 → Room f n k
  unfolding frame_of
  frame_room n k l =
      let z = totals words keys w.fits in
      subst (λ (g : Frame). Room g n k) (sym w.read)
      (λ h. let r = caps_room (sizes_of (form_at (trailer_of words))) (caps_of (trailer_of words)) n k l h in (r.0, r.1, omega arith))

  pub key_room : (n : ℕ) → n < get_or f.caps 5 0 → n * f.form.limit + f.form.limit ≤ length keys
  unfolding frame_of
  key_room n =
      let z = totals words keys w.fits in
      subst (λ (g : Frame). n < get_or g.caps 5 0 → n * g.form.limit + g.form.limit ≤ length keys) (sym w.read)
      (λ h. omega (arith, nth_ends n (get_or (trailer_of words) 10 0) (form_at (trailer_of words)).limit h))

  -- a pool's records have the form's sizes
  pub frame_size : (k : ℕ) → 1 ≤ k → k ≤ 4 → get_or f.sizes k 0 ≡ record_words f.form k
  unfolding frame_of
  frame_size k l h =
      subst (λ (g : Frame). get_or g.sizes k 0 ≡ record_words g.form k) (sym w.read)
      (by_kind (λ k. get_or (sizes_list (sizes_of (form_at (trailer_of words)))) k 0 ≡ record_words (form_at (trailer_of words)) k) refl refl refl refl k l h)

  pub leaf_size : get_or f.sizes 5 0 ≡ 6
  unfolding frame_of
  leaf_size = subst (λ (g : Frame). get_or g.sizes 5 0 ≡ 6) (sym w.read) refl

  -- no form's tags are longer
  pub limit_small : f.form.limit ≤ 128
  unfolding frame_of
  limit_small = subst (λ (g : Frame). g.form.limit ≤ 128) (sym w.read) (form_rules (get_or (trailer_of words) 0 0) (totals words keys w.fits).known).limit
