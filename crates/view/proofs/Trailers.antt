-- One of the trailer's words 11 to 14 written: the frame is read from the others, and no place reaches into the trailer.
use Prim.Native.Nat.{ℕ, ◌+◌, ◌-◌, ◌≤◌, ◌<◌}
use mathlib.Core.Path.{◌≡◌, refl, sym, ap, ap₂, ◌∙◌}
use mathlib.Core.Logic.{◌≢◌}
use mathlib.Core.List.{List}
use mathlib.Core.Bool.{Bool, true, ◌&&◌}
use native.Mathlib.Omega.{arith}
use lib.ListN.{length, get_or, set, length-set}
use lib.Seq.{get_or-set_same, get_or-set_other}
use lib.Dec.{leb}
use borrow.Author.Tests.{leb-true}
use Rattle.lists.specs.Part.{between}
use Rattle.lists.proofs.Parts.{between_length, between_set_after, between_set_in}
use Rattle.frames.specs.Frame.{FrameOf, frame_fits, frame_of, trailer_of, trailer_fits, form_fits}
use Rattle.frames.specs.Place.{in_pool, start_at, size_at, record_at}
use Rattle.records.specs.View.{cell_of}
use Rattle.frames.specs.declared.frame.Frame.{Frame}
use Rattle.frames.proofs.Frames.{totals}
use Rattle.frames.proofs.Places.{place_room}
use Rattle.art.specs.Stores.{Place}
use Rattle.pools.specs.Link.{set_trailer}
use Rattle.view.specs.Cells.{Same}
use Rattle.view.proofs.Views.{same_at, same_view}

-- a trailer's words 0 to 10 and 15 give the frame
module _ (t t' : List ℕ) (same : (j : ℕ) → (j < 11) → get_or t' j 0 ≡ get_or t j 0) (end : get_or t' 15 0 ≡ get_or t 15 0) where
  at : (j : ℕ) → leb j 10 ≡ true → get_or t' j 0 ≡ get_or t j 0
  at j h = same j (omega (arith, leb-true j 10 h))

  frame_by : frame_of t' ≡ frame_of t
  unfolding frame_of
  frame_by = rw (at 0 refl, at 6 refl, at 7 refl, at 8 refl, at 9 refl, at 10 refl)

  fits_by : (n k : ℕ) → trailer_fits t' n k ≡ trailer_fits t n k
  unfolding trailer_fits form_fits
  fits_by n k =
      rw (at 0 refl, at 1 refl, at 2 refl, at 3 refl, at 4 refl, at 5 refl, at 6 refl, at 7 refl, at 8 refl, at 9 refl, at 10 refl, end)

module _ {f : Frame} {words keys : List ℕ} (w : FrameOf f words keys) (i v : ℕ) where
  enough : 16 ≤ length words
  enough = (totals words keys w.fits).long

  pub trailer_length : length (set_trailer i v words) ≡ length words
  unfolding set_trailer
  trailer_length = length-set words (length words - 16 + i) v

  -- the word read back, and the others
  trailer_set : i < 16 → trailer_of (set_trailer i v words) ≡ set (trailer_of words) i v
  unfolding set_trailer
  trailer_set h =
      ap (λ (n : ℕ). between (set_trailer i v words) (n - 16) n) trailer_length
      ∙ between_set_in words (length words - 16) (length words) (length words - 16 + i) v (omega arith) (omega (arith, enough))
      ∙ ap (λ (j : ℕ). set (trailer_of words) j v) (let e : length words - 16 + i - (length words - 16) ≡ i = omega arith in e)

  pub trailer_same : i < 16 → get_or (trailer_of (set_trailer i v words)) i 0 ≡ v
  trailer_same h =
      ap (λ (t : List ℕ). get_or t i 0) (trailer_set h)
      ∙ get_or-set_same (trailer_of words) i v 0 (omega (arith, enough, between_length words (length words - 16) (length words) (omega arith) (omega arith)))

  pub trailer_other : i < 16 → (j : ℕ) → j ≢ i → get_or (trailer_of (set_trailer i v words)) j 0 ≡ get_or (trailer_of words) j 0
  trailer_other h j ne = ap (λ (t : List ℕ). get_or t j 0) (trailer_set h) ∙ get_or-set_other (trailer_of words) i j v 0 ne

  pub trailer_record : (x : Place) → in_pool f x ≡ true → record_at f (set_trailer i v words) x ≡ record_at f words x
  unfolding set_trailer
  trailer_record x hx =
      between_set_after words (start_at f x) (start_at f x + size_at f x) (length words - 16 + i) v (omega arith) (omega (arith, place_room w x hx))

  pub trailer_keeps : (x : Place) → in_pool f x ≡ true → Same f words keys (set_trailer i v words) keys x
  trailer_keeps x hx = same_at f words keys (set_trailer i v words) keys x (trailer_record x hx) refl

  pub trailer_view : cell_of f (set_trailer i v words) keys ≡ cell_of f words keys
  trailer_view = same_view f words keys (set_trailer i v words) keys (λ x hx. (trailer_keeps x hx).cell)

  -- the words that are not the frame's
  module _ (low : 11 ≤ i) (high : i ≤ 14) where
    same : (j : ℕ) → j < 11 → get_or (trailer_of (set_trailer i v words)) j 0 ≡ get_or (trailer_of words) j 0
    same j h = trailer_other (omega arith) j (λ e. omega arith)

    end : get_or (trailer_of (set_trailer i v words)) 15 0 ≡ get_or (trailer_of words) 15 0
    end = trailer_other (omega arith) 15 (λ e. omega arith)

    pub trailer_fits_lem : FrameOf f (set_trailer i v words) keys
    unfolding frame_fits
    trailer_fits_lem =
        record {
          read = w.read ∙ sym (frame_by (trailer_of words) (trailer_of (set_trailer i v words)) same end);
          fits =
              ap₂ (λ (n m : ℕ). leb 16 n && trailer_fits (trailer_of (set_trailer i v words)) m (length keys)) trailer_length trailer_length
              ∙ ap (λ (b : Bool). leb 16 (length words) && b) (fits_by (trailer_of words) (trailer_of (set_trailer i v words)) same end (length words) (length keys))
              ∙ w.fits;
        }
