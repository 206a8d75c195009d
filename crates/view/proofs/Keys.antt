-- The key bytes of one leaf written, alone and with the leaf's record.
use Prim.Native.Nat.{ℕ, ◌+◌, ◌-◌, ◌*◌, ◌≤◌}
use mathlib.Core.Path.{◌≡◌, refl, ap, ap₂, ◌∙◌}
use mathlib.Core.Logic.{◌⊎◌, inl, inr, ◌≢◌}
use mathlib.Core.List.{List}
use mathlib.Core.Bool.{true}
use native.Mathlib.Omega.{arith}
use lib.ListN.{length}
use Rattle.lists.proofs.Parts.{splice_length, splice_same, splice_before, splice_after}
use Rattle.frames.specs.Frame.{FrameOf}
use Rattle.frames.specs.Place.{in_pool, key_at, put_at, put_key}
use Rattle.records.specs.View.{leaf_cell_of, cell_of, key_for}
use Rattle.frames.specs.declared.frame.Frame.{Frame}
use Rattle.frames.proofs.Places.{leaf_room}
use Rattle.art.specs.Stores.{Place, leaf_place, inner_place, write}
use Rattle.view.specs.Cells.{Same}
use Rattle.view.proofs.Apart.{keys_apart}
use Rattle.view.proofs.Views.{same_at, one_cell}
use Rattle.view.proofs.Puts.{frame_stays, put_same, put_other, put_fits}

module _ {f : Frame} {words keys : List ℕ} (w : FrameOf f words keys) (n : ℕ) (key : List ℕ) (hn : in_pool f (leaf_place n) ≡ true) (fit : length key ≡ f.form.limit) where
  from : ℕ
  from = n * f.form.limit

  room : from + f.form.limit ≤ length keys
  unfolding from
  room = leaf_room w n hn

  exact : length key ≡ from + f.form.limit - from
  exact = fit ∙ omega arith

  pub key_length : length (put_key f keys n key) ≡ length keys
  unfolding from
  key_length = splice_length keys from (from + f.form.limit) key (omega arith) room exact

  pub key_same : key_at f (put_key f keys n key) n ≡ key
  unfolding from
  key_same = splice_same keys from (from + f.form.limit) key (omega arith) room exact

  pub key_other : (m : ℕ) → m ≢ n → key_at f (put_key f keys n key) m ≡ key_at f keys m
  unfolding from
  key_other m ne = go (keys_apart f.form.limit m n ne)
    where
      go : (m * f.form.limit + f.form.limit ≤ n * f.form.limit) ⊎ (n * f.form.limit + f.form.limit ≤ m * f.form.limit)
          → key_at f (put_key f keys n key) m ≡ key_at f keys m
      go (inl l) = splice_before keys from (from + f.form.limit) key (omega arith) room exact (m * f.form.limit) (m * f.form.limit + f.form.limit) (omega arith) l
      go (inr l) = splice_after keys from (from + f.form.limit) key (omega arith) room exact (m * f.form.limit) (m * f.form.limit + f.form.limit) l

  -- the key bytes of every other place
  pub key_apart : (x : Place) → x ≢ leaf_place n → key_for f (put_key f keys n key) x ≡ key_for f keys x
  key_apart (leaf_place m) ne = key_other m (λ e. ne (ap leaf_place e))
  key_apart (inner_place k m) ne = refl

  pub key_fits : FrameOf f words (put_key f keys n key)
  key_fits = frame_stays w words (put_key f keys n key) refl key_length refl

  -- ── with the leaf's record ──
  module _ (rec : List ℕ) (long : length rec ≡ 6) where
    pub leaf_fits : FrameOf f (put_at f words (leaf_place n) rec) (put_key f keys n key)
    leaf_fits = frame_stays (put_fits w (leaf_place n) rec hn long) (put_at f words (leaf_place n) rec) (put_key f keys n key) refl key_length refl

    pub leaf_keeps : (x : Place) → in_pool f x ≡ true → x ≢ leaf_place n → Same f words keys (put_at f words (leaf_place n) rec) (put_key f keys n key) x
    leaf_keeps x hx ne =
        same_at f words keys (put_at f words (leaf_place n) rec) (put_key f keys n key) x (put_other w (leaf_place n) rec hn long x hx ne) (key_apart x ne)

    pub leaf_view : cell_of f (put_at f words (leaf_place n) rec) (put_key f keys n key) ≡ write (cell_of f words keys) (leaf_place n) (leaf_cell_of n rec key)
    leaf_view =
        one_cell f words keys (put_at f words (leaf_place n) rec) (put_key f keys n key) (leaf_place n) hn (λ x hx ne. (leaf_keeps x hx ne).cell)
        ∙ ap₂ (λ (r k : List ℕ). write (cell_of f words keys) (leaf_place n) (leaf_cell_of n r k)) (put_same w (leaf_place n) rec hn long) key_same
