-- 7 never comes: each record of a block takes at least 52 bytes of its file, a leaf with its key bytes, so that a file of 60,000 bytes has no more records than there are bytes of scratch.
use Prim.Native.Nat.{ℕ, ◌+◌, ◌-◌, ◌*◌, ◌≤◌}
use mathlib.Core.Path.{◌≡◌, refl}
use mathlib.Core.List.{List}
use mathlib.Core.Bool.{Bool, true, false, ◌&&◌}
use native.Mathlib.Nat.{mul-le-mul_left}
use native.Mathlib.Omega.{arith}
use lib.ListN.{length, replicate, length-replicate}
use lib.Dec.{leb, ltb}
use borrow.Author.Tests.{leb-true, le-ltb}
use Rattle.std.specs.Prelude.{Ok, Err}
use Rattle.refusals.specs.declared.Refusal.TheVariants.{Damaged, ShortScratch}
use Rattle.stations.specs.Stations.{Totalled, tally_of, total_check, total_of}
use Rattle.lists.specs.Scan.{choose}
use Rattle.lists.proofs.Tests.{both}
use Rattle.lists.proofs.Tables.{every_at}
use Rattle.frames.specs.Kind.{kind_row}
use Rattle.frames.specs.Form.{forms, no_form, form_known, form_of, record_words}
use Rattle.frames.specs.Frame.{caps_of, trailer_of, frame_fits, frame_of, frame}
use Rattle.frames.specs.declared.form.Form.{Form}
use Rattle.frames.specs.declared.frame.Frame.{Frame}
use Rattle.frames.proofs.FormTable.{form_in}
use Rattle.frames.proofs.Frames.{form_at, totals}
use Rattle.whole.specs.Marks.{places_in}
use Rattle.whole.specs.Check as check
use Rattle.whole.specs.Check.{whole_by, whole_of, check_of}

-- in every form the smallest inner record has 13 words or more, which are 52 bytes, and a leaf beside its 6 words 28 key bytes or more, which are 52 bytes too
room_test : ℕ → Form → Bool
room_test n form = leb 13 (record_words form 1) && leb 28 form.limit

room_tested : (n : ℕ) → form_known n ≡ true → (13 ≤ record_words (form_of n) 1) × (28 ≤ (form_of n).limit)
unfolding form_of room_test kind_row
room_tested n e =
    let p = both (leb 13 (record_words (form_of n) 1)) (leb 28 (form_of n).limit) (every_at room_test no_form forms 1 refl (n - 1) (form_in n e).1) in
    (leb-true _ _ p.0, leb-true _ _ p.1)

-- ── the records of a block ──
-- so many records take so many words: 52 bytes each, or more
record Takes (records words : ℕ) : Type 0 where
  least : 52 * records ≤ 4 * words

pool_takes : (c z : ℕ) → 13 ≤ z → Takes c (c * z)
pool_takes c z h = record { least = omega (arith, mul-le-mul_left c h) }

and_takes : {a b x y : ℕ} → Takes a x → Takes b y → Takes (a + b) (x + y)
and_takes p q = record { least = omega arith }

-- beside the pools of inner records and the leaves with their key bytes a file has 68 bytes
all_fit : (a c x n k : ℕ) → Takes a x → 28 * c ≤ k → n ≡ x + c * 6 + 16 → 4 + 4 * n + k ≤ 60000 → a + c ≤ 1152
all_fit a c x n k p q e h = omega arith

pub room_enough : (words keys : List ℕ) → frame_fits words keys ≡ true → 4 + 4 * length words + length keys ≤ 60000 → places_in (frame words) ≤ 1152
unfolding places_in frame_of kind_row
room_enough words keys e h =
    let t = totals words keys e in
    let c = caps_of (trailer_of words) in
    let size = record_words (form_at (trailer_of words)) in
    let r = room_tested _ t.known in
    let p = and_takes (pool_takes c.c1 (size 1) r.0) (and_takes (pool_takes c.c2 (size 2) (omega (arith, r.0))) (and_takes (pool_takes c.c3 (size 3) (omega (arith, r.0))) (pool_takes c.c4 (size 4) (omega (arith, r.0))))) in
    let q = all_fit _ c.c5 _ (length words) (length keys) p (omega (arith, t.bytes, mul-le-mul_left c.c5 r.1)) (omega (arith, t.total)) h in
    omega (arith, q)

-- ── the call on such a block ──
-- the scratch that is lent
abbrev zeros : List ℕ
zeros = replicate 1152 0

-- what is found, by the whole check alone
abbrev pub plain : (words keys beginning : List ℕ) → Bool → Totalled
plain words keys beginning whole = choose whole (Ok (tally_of words keys beginning)) (Err Damaged)

module _ (words keys beginning : List ℕ) (h : 4 + 4 * length words + length keys ≤ 60000) where
  pub total_plain : (total_of words keys zeros beginning).result ≡ plain words keys beginning (whole_of words keys)
  unfolding total_of check_of whole_of
  total_plain = by_frame (frame_fits words keys) refl
    where
      f : Frame
      f = frame words

      by_whole : (short : Bool) → short ≡ false → (w : Bool)
          → total_check words keys beginning (choose short (check.answer (Err ShortScratch) zeros) (check.answer (choose w (Ok tt) (Err Damaged)) (check.cleared (places_in f) zeros))).result ≡ plain words keys beginning w
      by_whole true e w = absurd (let z : ◌≡◌ {A = ℕ} 0 1 = cc in omega arith)
      by_whole false e true = refl
      by_whole false e false = refl

      by_frame : (b : Bool) → frame_fits words keys ≡ b
          → total_check words keys beginning (choose b (check.check_with f words keys zeros) (check.answer (Err Damaged) zeros)).result ≡ plain words keys beginning (choose b (whole_by f words keys) false)
      by_frame false e = refl
      by_frame true e = by_whole (ltb (length zeros) (places_in f)) (le-ltb (length zeros) (places_in f) (omega (arith, room_enough words keys e h, length-replicate {A = ℕ} 1152 0))) (whole_by f words keys)
