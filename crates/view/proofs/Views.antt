-- The view is made of the records and key bytes of the pools' places: where these stay, it stays, and where one place's change, one cell is written.
use Prim.Native.Nat.{ℕ}
use mathlib.Core.Path.{◌≡◌, refl, sym, ap, ap₂, ◌∙◌, fun_ext}
use mathlib.Core.Logic.{◌≢◌, ite}
use mathlib.Core.List.{List}
use mathlib.Core.Bool.{Bool, true, false}
use lib.ListN.{get_or}
use borrow.Author.Tests.{eq-eqb, ne_eqb}
use Rattle.lists.specs.Scan.{choose}
use Rattle.frames.specs.Place.{in_pool, record_at}
use Rattle.records.specs.View.{key_for, cell_in, rule_in, blank_in, raw_cell, cell_of}
use Rattle.frames.specs.declared.frame.Frame.{Frame}
use Rattle.art.specs.Stores.{Place, leaf_place, inner_place, place_dec, unused, Used, write}
use Rattle.view.specs.Cells.{word_zero, Same}

module _ (f : Frame) (words keys : List ℕ) where
  -- the cell of a place of a pool, and of any other
  pub cell_in_lem : (x : Place) → in_pool f x ≡ true → cell_of f words keys x ≡ cell_in f x (record_at f words x) (key_for f keys x)
  unfolding cell_of
  cell_in_lem x h = ap (λ (b : Bool). choose b (raw_cell f words keys x) unused) h

  pub cell_out : (x : Place) → in_pool f x ≡ false → cell_of f words keys x ≡ unused
  unfolding cell_of
  cell_out x h = ap (λ (b : Bool). choose b (raw_cell f words keys x) unused) h

-- a record with 0 in word 0 shows nothing, any other something
pub free_cell : (f : Frame) (x : Place) (rec key : List ℕ) → get_or rec 0 0 ≡ 0 → cell_in f x rec key ≡ unused
free_cell f (leaf_place n) rec key e = simp (eq-eqb (get_or rec 0 0) 0 e)
free_cell f (inner_place k n) rec key e = simp (eq-eqb (get_or rec 0 0) 0 e)

pub used_cell : (f : Frame) (x : Place) (rec key : List ℕ) → get_or rec 0 0 ≢ 0 → Used (cell_in f x rec key)
used_cell f (leaf_place n) rec key e = simp (ne_eqb (get_or rec 0 0) 0 e) tt
used_cell f (inner_place k n) rec key e = simp (ne_eqb (get_or rec 0 0) 0 e) tt

pub cell_free : (f : Frame) (words keys : List ℕ) (x : Place) → word_zero f words x ≡ 0 → cell_of f words keys x ≡ unused
cell_free f words keys x e = go (in_pool f x) refl
  where
    go : (b : Bool) → in_pool f x ≡ b → cell_of f words keys x ≡ unused
    go true h = cell_in_lem f words keys x h ∙ free_cell f x (record_at f words x) (key_for f keys x) e
    go false h = cell_out f words keys x h

pub cell_used : (f : Frame) (words keys : List ℕ) (x : Place) → in_pool f x ≡ true → word_zero f words x ≢ 0 → Used (cell_of f words keys x)
cell_used f words keys x h e = rw (cell_in_lem f words keys x h) (used_cell f x (record_at f words x) (key_for f keys x) e)

-- a used cell is that of a record in use
pub used_place : (f : Frame) (words keys : List ℕ) (x : Place) → Used (cell_of f words keys x) → (in_pool f x ≡ true) × (word_zero f words x ≢ 0)
used_place f words keys x u = (go (in_pool f x) refl, λ e. rw (cell_free f words keys x e) at u)
  where
    go : (b : Bool) → in_pool f x ≡ b → b ≡ true
    go true h = refl
    go false h = absurd (rw (cell_out f words keys x h) at u)

module _ (f : Frame) (words keys words' keys' : List ℕ) where
  -- the same record and key bytes
  pub same_at : (x : Place) → record_at f words' x ≡ record_at f words x → key_for f keys' x ≡ key_for f keys x → Same f words keys words' keys' x
  same_at x r k =
      record {
        cell = cell (in_pool f x) refl;
        rule = ap₂ (rule_in f x) r k;
        blank = ap₂ (blank_in x) r k;
      }
    where
      cell : (b : Bool) → in_pool f x ≡ b → cell_of f words' keys' x ≡ cell_of f words keys x
      cell true h = cell_in_lem f words' keys' x h ∙ ap₂ (cell_in f x) r k ∙ sym (cell_in_lem f words keys x h)
      cell false h = cell_out f words' keys' x h ∙ sym (cell_out f words keys x h)

  -- the same cell at every place of the pools
  pub same_view : ((x : Place) → in_pool f x ≡ true → cell_of f words' keys' x ≡ cell_of f words keys x) → cell_of f words' keys' ≡ cell_of f words keys
  same_view h = fun_ext (λ x. go x (in_pool f x) refl)
    where
      go : (x : Place) (b : Bool) → in_pool f x ≡ b → cell_of f words' keys' x ≡ cell_of f words keys x
      go x true e = h x e
      go x false e = cell_out f words' keys' x e ∙ sym (cell_out f words keys x e)

  -- the same cell at every place of the pools but one
  pub one_cell : (y : Place) → in_pool f y ≡ true → ((x : Place) → in_pool f x ≡ true → x ≢ y → cell_of f words' keys' x ≡ cell_of f words keys x)
      → cell_of f words' keys' ≡ write (cell_of f words keys) y (cell_in f y (record_at f words' y) (key_for f keys' y))
  one_cell y hy h = fun_ext (λ x. go x (place_dec x y) (in_pool f x) refl)
    where
      go : (x : Place) (d : Dec (x ≡ y)) (b : Bool) → in_pool f x ≡ b
          → cell_of f words' keys' x ≡ ite d (cell_in f y (record_at f words' y) (key_for f keys' y)) (cell_of f words keys x)
      go x (yes e) b p = ap (cell_of f words' keys') e ∙ cell_in_lem f words' keys' y hy
      go x (no n) true p = h x p n
      go x (no n) false p = cell_out f words' keys' x p ∙ sym (cell_out f words keys x p)
