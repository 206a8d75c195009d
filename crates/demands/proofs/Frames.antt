-- Only start writes the words of the frame: an accepted insert or delete leaves a sound block in the same frame, and any other call leaves its words.
use Prim.Native.Nat.{ℕ, ◌+◌, ◌*◌}
use mathlib.Core.Path.{◌≡◌, refl, sym, ap, ap₂, ◌∙◌}
use mathlib.Core.List.{List, [], ◌∷◌}
use mathlib.Core.Bool.{true, ◌&&◌}
use lib.ListN.{length, get_or}
use lib.Dec.{eqb, leb}
use borrow.Author.Tests.{eqb-true}
use Rattle.lists.proofs.Tests.{both}
use Rattle.lists.proofs.Tables.{both5}
use Rattle.frames.specs.Form.{form_known, form_of, sizes_of}
use Rattle.frames.specs.Frame.{caps_of, caps_small, backs_of, backs_match, form_fits, trailer_fits, trailer_of, frame_fits, frame_with, frame_of, frame}
use Rattle.frames.specs.declared.frame.Caps.{Caps}
use Rattle.frames.specs.declared.frame.Frame.{Frame}
use Rattle.frames.proofs.FormTable.{form_rules}
use Rattle.frames.proofs.Frames.{totals}
use Rattle.reading.specs.Answers.{Bytes}
use Rattle.demands.specs.Calls.{Call, start, query, ask, edit, Slices, run}
use Rattle.demands.specs.Histories.{Block, Turn, lent, next, after_all, CallBytes, AllBytes}
use Rattle.demands.specs.Frames.{frame_words, FrameKept, NoStart, NoStarts}
use Rattle.demands.proofs.Edits.{edit_either}
use Rattle.demands.proofs.Steps.{step_bytes}

-- ── the frame's words by the form and the capacities ──
abbrev made_of : ℕ → Caps → List ℕ
made_of n c =
    let b = backs_of (sizes_of (form_of n)) c in
    n ∷ b.b1 ∷ b.b2 ∷ b.b3 ∷ b.b4 ∷ b.b5 ∷ c.c1 ∷ c.c2 ∷ c.c3 ∷ c.c4 ∷ c.c5 ∷ (b.b1 + 16) ∷ []

-- where the frame fits, they are what these give
fits_made : (words keys : List ℕ) → frame_fits words keys ≡ true → frame_words words ≡ made_of (get_or (trailer_of words) 0 0) (caps_of (trailer_of words))
unfolding frame_fits trailer_fits form_fits
fits_made words keys e =
    let t = trailer_of words in
    let form = form_of (get_or t 0 0) in
    let b = backs_of (sizes_of form) (caps_of t) in
    let p = both (leb 16 (length words)) (trailer_fits t (length words) (length keys)) e in
    let q = both (form_known (get_or t 0 0) && caps_small (caps_of t)) (form_fits form t (caps_of t) (length words) (length keys)) p.1 in
    let h =
    both5 true (backs_match t b) (eqb (get_or t 15 0) (b.b1 + 16)) (eqb (length words) (get_or t 15 0)) (eqb (length keys) (get_or t 10 0 * form.limit)) q.1 in
    let d = both5 (eqb (get_or t 1 0) b.b1) (eqb (get_or t 2 0) b.b2) (eqb (get_or t 3 0) b.b3) (eqb (get_or t 4 0) b.b4) (eqb (get_or t 5 0) b.b5) h.1 in
    λ k.
    get_or t 0 0 ∷ eqb-true (get_or t 1 0) b.b1 d.0 k ∷ eqb-true (get_or t 2 0) b.b2 d.1 k ∷ eqb-true (get_or t 3 0) b.b3 d.2 k
    ∷ eqb-true (get_or t 4 0) b.b4 d.3 k ∷ eqb-true (get_or t 5 0) b.b5 d.4 k
    ∷ get_or t 6 0 ∷ get_or t 7 0 ∷ get_or t 8 0 ∷ get_or t 9 0 ∷ get_or t 10 0 ∷ eqb-true (get_or t 15 0) (b.b1 + 16) h.2 k ∷ []

-- the form's number is that of the trailer
form_number : (words keys : List ℕ) → frame_fits words keys ≡ true → (frame words).form.number ≡ get_or (trailer_of words) 0 0
unfolding frame_of
form_number words keys fits = (form_rules (get_or (trailer_of words) 0 0) (totals words keys fits).known).number

abbrev caps_in : Frame → Caps
caps_in f = record { c1 = get_or f.caps 1 0; c2 = get_or f.caps 2 0; c3 = get_or f.caps 3 0; c4 = get_or f.caps 4 0; c5 = get_or f.caps 5 0 }

-- so two blocks that fit the same frame have the same words of it, and the same lengths
fits_same : (words keys words' keys' : List ℕ) → frame_fits words keys ≡ true → frame_fits words' keys' ≡ true → frame words' ≡ frame words → FrameKept words keys words' keys'
unfolding frame_of
fits_same words keys words' keys' fits fits' e =
    let z = totals words keys fits in
    let z' = totals words' keys' fits' in
    let n : get_or (trailer_of words') 0 0 ≡ get_or (trailer_of words) 0 0 = sym (form_number words' keys' fits') ∙ ap (λ (f : Frame). f.form.number) e ∙ form_number words keys fits in
    let c : caps_of (trailer_of words') ≡ caps_of (trailer_of words) = ap caps_in e in
    record {
      trailer = fits_made words' keys' fits' ∙ ap₂ made_of n c ∙ sym (fits_made words keys fits);
      words_long = z'.total ∙ ap₂ (λ (m : ℕ) (c : Caps). (backs_of (sizes_of (form_of m)) c).b1 + 16) n c ∙ sym z.total;
      keys_long = z'.bytes ∙ ap₂ (λ (m : ℕ) (c : Caps). c.c5 * (form_of m).limit) n c ∙ sym z.bytes;
    }

-- ── the calls ──
kept : (words keys : List ℕ) → FrameKept words keys words keys
kept words keys = record { trailer = refl; words_long = refl; keys_long = refl }

-- whatever the memory holds, no call but start touches a word of the frame
pub frame_kept : (c : Call) → NoStart c → CallBytes c → (s : Slices) → Bytes s.keys → FrameKept s.words s.keys (run c s).slices.words (run c s).slices.keys
frame_kept (start form c) h b s k = absurd h
frame_kept (query q) h b s k = kept s.words s.keys
frame_kept (ask a) h b s k = kept s.words s.keys
frame_kept (edit e) h b s k = edit_either e s b k (FrameKept s.words s.keys) (kept s.words s.keys) (λ z w j c. fits_same _ _ _ _ z.fits c.after.fits c.same_frame)

-- ── any calls but start ──
pub frames_kept : (b : Block) → Bytes b.keys → (ts : List Turn) → NoStarts ts → AllBytes ts → FrameKept b.words b.keys (after_all b ts).words (after_all b ts).keys
frames_kept b k [] n h = kept b.words b.keys
frames_kept b k (t ∷ ts) n h =
    let one = frame_kept t.call n.0 h.0 (lent b t.scratch) k in
    let all = frames_kept (next b t) (step_bytes b k t h.0) ts n.1 h.1 in
    record { trailer = all.trailer ∙ one.trailer; words_long = all.words_long ∙ one.words_long; keys_long = all.keys_long ∙ one.keys_long }

-- ── so the frame that is read stays, and whether it fits ──
module _ {words keys words' keys' : List ℕ} (k : FrameKept words keys words' keys') where
  at : (j : ℕ) → get_or (frame_words words') j 0 ≡ get_or (frame_words words) j 0
  at j = ap (λ (l : List ℕ). get_or l j 0) k.trailer

  pub kept_frame : frame words' ≡ frame words
  unfolding frame_of
  kept_frame = ap₂ (λ (n : ℕ) (c : Caps). frame_with (form_of n) (sizes_of (form_of n)) c) (at 0) (λ i. record { c1 = at 6 i; c2 = at 7 i; c3 = at 8 i; c4 = at 9 i; c5 = at 10 i })

  pub kept_fits : frame_fits words' keys' ≡ frame_fits words keys
  unfolding frame_fits trailer_fits form_fits
  kept_fits = rw (at 0, at 1, at 2, at 3, at 4, at 5, at 6, at 7, at 8, at 9, at 10, at 11, k.words_long, k.keys_long)
