-- A record written at its place is one cell written into the view, since the places of the pools and the trailer lie apart.
use Prim.Native.Nat.{ℕ, ◌+◌, ◌-◌, ◌≤◌}
use mathlib.Core.Path.{◌≡◌, refl, sym, ap, ap₂, ◌∙◌}
use mathlib.Core.Logic.{◌⊎◌, inl, inr, ◌≢◌}
use mathlib.Core.List.{List}
use mathlib.Core.Bool.{true, ◌&&◌}
use native.Mathlib.Omega.{arith}
use lib.ListN.{length}
use lib.Dec.{leb}
use Rattle.lists.specs.Part.{between}
use Rattle.lists.proofs.Parts.{splice_length, splice_same, splice_before, splice_after}
use Rattle.frames.specs.Frame.{FrameOf, frame_fits, frame_of, trailer_of, trailer_fits}
use Rattle.frames.specs.Place.{in_pool, start_at, size_at, record_at, put_at}
use Rattle.records.specs.View.{cell_of, rule_at, blank_at, key_for, cell_in, rule_in, blank_in}
use Rattle.frames.specs.declared.frame.Frame.{Frame}
use Rattle.frames.proofs.Places.{place_room}
use Rattle.art.specs.Stores.{Place, write}
use Rattle.view.specs.Cells.{Same}
use Rattle.view.proofs.Apart.{apart}
use Rattle.view.proofs.Views.{same_at, one_cell}

-- the frame stays where the trailer and both lengths do
pub frame_stays : {f : Frame} {words keys : List ℕ} → FrameOf f words keys → (words' keys' : List ℕ) → length words' ≡ length words → length keys' ≡ length keys
    → trailer_of words' ≡ trailer_of words → FrameOf f words' keys'
unfolding frame_fits
frame_stays {f} {words} {keys} w words' keys' n k t =
    record {
      read = w.read ∙ ap frame_of (sym t);
      fits =
          ap₂ (λ (m : ℕ) (l : List ℕ). leb 16 m && trailer_fits l m (length keys')) n t
          ∙ ap (λ (m : ℕ). leb 16 (length words) && trailer_fits (trailer_of words) (length words) m) k
          ∙ w.fits;
    }

module _ {f : Frame} {words keys : List ℕ} (w : FrameOf f words keys) (y : Place) (rec : List ℕ) (hy : in_pool f y ≡ true) (fit : length rec ≡ size_at f y) where
  within : start_at f y + size_at f y + 16 ≤ length words
  within = place_room w y hy

  exact : length rec ≡ start_at f y + size_at f y - start_at f y
  exact = fit ∙ omega arith

  pub put_length : length (put_at f words y rec) ≡ length words
  put_length = splice_length words (start_at f y) (start_at f y + size_at f y) rec (omega arith) (omega (arith, within)) exact

  pub put_same : record_at f (put_at f words y rec) y ≡ rec
  put_same = splice_same words (start_at f y) (start_at f y + size_at f y) rec (omega arith) (omega (arith, within)) exact

  pub put_other : (x : Place) → in_pool f x ≡ true → x ≢ y → record_at f (put_at f words y rec) x ≡ record_at f words x
  put_other x hx ne = go (apart w x y hx hy ne)
    where
      go : (start_at f x + size_at f x ≤ start_at f y) ⊎ (start_at f y + size_at f y ≤ start_at f x) → record_at f (put_at f words y rec) x ≡ record_at f words x
      go (inl l) =
          splice_before words (start_at f y) (start_at f y + size_at f y) rec (omega arith) (omega (arith, within)) exact (start_at f x) (start_at f x + size_at f x) (omega arith) l
      go (inr l) = splice_after words (start_at f y) (start_at f y + size_at f y) rec (omega arith) (omega (arith, within)) exact (start_at f x) (start_at f x + size_at f x) l

  pub put_trailer : trailer_of (put_at f words y rec) ≡ trailer_of words
  put_trailer =
      ap (λ (n : ℕ). between (put_at f words y rec) (n - 16) n) put_length
      ∙ splice_after words (start_at f y) (start_at f y + size_at f y) rec (omega arith) (omega (arith, within)) exact (length words - 16) (length words) (omega (arith, within))

  pub put_fits : FrameOf f (put_at f words y rec) keys
  put_fits = frame_stays w (put_at f words y rec) keys put_length refl put_trailer

  -- every other place is as it was
  pub put_keeps : (x : Place) → in_pool f x ≡ true → x ≢ y → Same f words keys (put_at f words y rec) keys x
  put_keeps x hx ne = same_at f words keys (put_at f words y rec) keys x (put_other x hx ne) refl

  -- the view after the write
  pub put_cell : cell_of f (put_at f words y rec) keys ≡ write (cell_of f words keys) y (cell_in f y rec (key_for f keys y))
  put_cell =
      one_cell f words keys (put_at f words y rec) keys y hy (λ x hx ne. (put_keeps x hx ne).cell)
      ∙ ap (λ (l : List ℕ). write (cell_of f words keys) y (cell_in f y l (key_for f keys y))) put_same

  -- its rule, and whether it is blank
  pub put_rule : rule_at f (put_at f words y rec) keys y ≡ rule_in f y rec (key_for f keys y)
  put_rule = ap (λ (l : List ℕ). rule_in f y l (key_for f keys y)) put_same

  pub put_blank : blank_at f (put_at f words y rec) keys y ≡ blank_in y rec (key_for f keys y)
  put_blank = ap (λ (l : List ℕ). blank_in y l (key_for f keys y)) put_same
