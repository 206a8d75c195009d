-- A block in which one place has changed shows one cell changed: every other place has its cell, its rule and its blankness as before.
use Prim.Native.Nat.{ℕ}
use mathlib.Core.Path.{◌≡◌, sym, ap, subst, ◌∙◌}
use mathlib.Core.Logic.{◌≢◌, ite}
use mathlib.Core.List.{List}
use mathlib.Core.Bool.{true}
use lib.ListN.{length, get_or}
use Rattle.lists.specs.Scan.{all_pass, at_most}
use Rattle.prefix.specs.Run.{held}
use Rattle.prefix.specs.declared.Prefix.{Prefix}
use Rattle.frames.specs.Frame.{FrameOf, root_word, count_word}
use Rattle.frames.specs.Place.{in_pool, size_at, put_at}
use Rattle.frames.specs.declared.frame.Frame.{Frame}
use Rattle.records.specs.Own.{inner_ok}
use Rattle.records.specs.View.{Held, places, inner_cell_of, cell_of, rule_at, blank_at}
use Rattle.art.specs.Stores.{Place, inner_place, place_dec, Cell, unused, inner_cell, Store, Used, write}
use Rattle.art.specs.Refs.{Refs}
use Rattle.art.specs.Chain.{Links}
use Rattle.edits.specs.Rows.{Row}
use Rattle.edits.specs.Inner.{Inner}
use Rattle.edits.proofs.Inners.{inner_shows}
use Rattle.view.specs.Cells.{Same}
use Rattle.view.specs.Links.{links_of}
use Rattle.view.proofs.Views.{used_place}
use Rattle.view.proofs.Puts.{put_cell, put_rule, put_blank, put_keeps, put_fits, put_trailer}
use Rattle.view.proofs.Chains.{inner_links}
use Rattle.states.specs.State.{State}

-- the words and key bytes after a change at y: the frame fits, y has the cell c and obeys what goes with it, and every other place is as it was
pub record Changed (f : Frame) (words keys words' keys' : List ℕ) (y : Place) (c : Cell Held) : Type 0 where
  pub frame : FrameOf f words' keys'
  pub cells : cell_of f words' keys' ≡ write (cell_of f words keys) y c
  pub rule : Used c → rule_at f words' keys' y ≡ true
  pub blank : c ≡ unused → blank_at f words' keys' y ≡ true
  pub others : (x : Place) → in_pool f x ≡ true → x ≢ y → Same f words keys words' keys' x

module _ {f : Frame} {words keys : List ℕ} {σ : Store Held} {links : Links} {root count : ℕ} (s : State f words keys σ links root count) where
  -- a used place is in its pool
  pub used_pool : (x : Place) → Used (σ x) → in_pool f x ≡ true
  used_pool x u = (used_place f words keys x (subst (λ (τ : Store Held). Used (τ x)) (sym s.cells) u)).0

  module _ {words' keys' : List ℕ} {y : Place} {c : Cell Held} (h : Changed f words keys words' keys' y c) where
    rules_after : (x : Place) → Used (write σ y c x) → rule_at f words' keys' x ≡ true
    rules_after x = go (place_dec x y)
      where
        go : (d : Dec (x ≡ y)) → Used (ite d c (σ x)) → rule_at f words' keys' x ≡ true
        go (yes e) u = subst (λ (z : Place). rule_at f words' keys' z ≡ true) (sym e) (h.rule u)
        go (no n) u = (h.others x (used_pool x u) n).rule ∙ s.rules x u

    free_after : (x : Place) → in_pool f x ≡ true → write σ y c x ≡ unused → blank_at f words' keys' x ≡ true
    free_after x p = go (place_dec x y)
      where
        go : (d : Dec (x ≡ y)) → ite d c (σ x) ≡ unused → blank_at f words' keys' x ≡ true
        go (yes e) u = subst (λ (z : Place). blank_at f words' keys' z ≡ true) (sym e) (h.blank u)
        go (no n) u = (h.others x p n).blank ∙ s.free x p u

    pub state_changed : {links' : Links} {root' count' : ℕ} → links_of f words' ≡ links' → root_word words' ≡ root' → count_word words' ≡ count'
        → State f words' keys' (write σ y c) links' root' count'
    state_changed l r n =
        record {
          frame = h.frame;
          cells = h.cells ∙ ap (λ (τ : Store Held). write τ y c) s.cells;
          rules = rules_after;
          free = free_after;
          links_are = l;
          root_is = r;
          count_is = n;
        }

  -- an inner record written
  module _ (k n : ℕ) (rec : List ℕ) (pool : in_pool f (inner_place k n) ≡ true) (fit : length rec ≡ size_at f (inner_place k n)) where
    pub inner_state : (c : Cell Held) → inner_cell_of f.form k rec ≡ c → (Used c → inner_ok f.form k rec ≡ true) → (c ≡ unused → all_pass (at_most 0) rec ≡ true)
        → State f (put_at f words (inner_place k n) rec) keys (write σ (inner_place k n) c) links root count
    inner_state c e rule blank =
        let w = s.frame in
        let t = put_trailer w (inner_place k n) rec pool fit in
        state_changed
        (record {
          frame = put_fits w (inner_place k n) rec pool fit;
          cells = put_cell w (inner_place k n) rec pool fit ∙ ap (write (cell_of f words keys) (inner_place k n)) e;
          rule = λ u. put_rule w (inner_place k n) rec pool fit ∙ rule u;
          blank = λ u. put_blank w (inner_place k n) rec pool fit ∙ blank u;
          others = put_keeps w (inner_place k n) rec pool fit;
        })
        (inner_links w k n rec pool fit ∙ s.links_are) (ap (λ (l : List ℕ). get_or l 11 0) t ∙ s.root_is) (ap (λ (l : List ℕ). get_or l 14 0) t ∙ s.count_is)

  -- one that obeys its rule, with its prefix and its row
  pub inner_put : (k n : ℕ) (rec : List ℕ) (p : Prefix) (row : Row) (len : ℕ) (st : List ℕ) (rs : Refs) → in_pool f (inner_place k n) ≡ true → Inner f.form k rec p row
      → p.full.0 ≡ len → held p ≡ st → places row ≡ rs → State f (put_at f words (inner_place k n) rec) keys (write σ (inner_place k n) (inner_cell len st rs)) links root count
  inner_put k n rec p row len st rs pool i a b c =
      inner_state k n rec pool i.fits.long (inner_cell len st rs) (inner_shows i ∙ (λ j. inner_cell (a j) (b j) (c j))) (λ u. i.fits.ok) (λ e. absurd (subst Used e tt))
