-- Every used inner record is one of the tree's, each once, so they are as many as the tree's branchings.
use Prim.Native.Nat.{ℕ, zero, suc, ◌+◌, ◌≤◌, ◌<◌}
use mathlib.Core.Path.{◌≡◌, refl, sym, ap, ap₂, subst, ◌∙◌}
use mathlib.Core.List.{List, []}
use mathlib.Core.Option.{Option, none, some}
use mathlib.Core.Bool.{Bool, true, false}
use native.Mathlib.Omega.{arith}
use lib.ListN.{get_or}
use borrow.Author.Tests.{le-leb, lt-ltb, ltb-true, ltb-false}
use Rattle.lists.specs.Scan.{choose, nonzero}
use Rattle.lists.proofs.Tests.{and_both}
use Rattle.frames.specs.Frame.{FrameOf, frame}
use Rattle.frames.specs.Place.{in_pool, record_at}
use Rattle.frames.specs.declared.frame.Frame.{Frame}
use Rattle.frames.proofs.Places.{inner_kind}
use Rattle.records.specs.Words.{used_as}
use Rattle.records.specs.View.{Held, cell_of}
use Rattle.art.specs.Trees.{Tree, leaf, inner, Row, end, child}
use Rattle.art.specs.Drawings.{draw}
use Rattle.art.specs.Deletes.{held, Sane}
use Rattle.art.specs.Facts.{forks, row_forks, branchings}
use Rattle.art.specs.Stores.{Place, inner_place, Cell, unused, leaf_cell, inner_cell, Used}
use Rattle.art.specs.Calls.{OnceOf}
use Rattle.art.specs.Points.{store_of}
use Rattle.art.proofs.Passes.{store_on}
use Rattle.art.proofs.Facts.{used_inner_lem}
use Rattle.view.proofs.Views.{cell_free, cell_used}
use Rattle.whole.specs.Sound.{Sound}
use Rattle.whole.proofs.Sounds.{used_pool}
use Rattle.reading.specs.Listing.{totals}
use Rattle.demands.specs.Drawn.{used_below, used_inner}
use Rattle.demands.proofs.Sums.{sum, four, heft, row_heft, sum_same, four_empty, heft_four}
use Rattle.demands.proofs.Totals.{plain, plain_contents, plain_good, plain_forks}

-- ── used cells of a store, counted ──
abbrev pub one : Cell Held → ℕ
one unused = 0
one (leaf_cell t a) = 1
one (inner_cell n st rs) = 1

pub one_used : (c : Cell Held) → Used c → one c ≡ 1
one_used unused u = elim u [ ]
one_used (leaf_cell t a) u = refl
one_used (inner_cell n st rs) u = refl

-- a tree has as many inner records as branchings
mutual
  heft_forks : (t : Tree Held) → heft one t ≡ forks t
  heft_forks (leaf n s a) = refl
  heft_forks (inner k n run r) = omega (arith, row_heft_forks r)

  row_heft_forks : (r : Row Held) → row_heft one r ≡ row_forks r
  row_heft_forks end = refl
  row_heft_forks (child b t r) = ap₂ ◌+◌ (heft_forks t) (row_heft_forks r)

-- ── the block ──
module _ (f : Frame) (words keys : List ℕ) where
  used_one : (k n : ℕ) → k ≤ 4 → n < get_or f.caps k 0 → choose {A = ℕ} (nonzero (used_as (record_at f words (inner_place k n)))) 1 0 ≡ one (cell_of f words keys (inner_place k n))
  used_one k n h l = go (nonzero (used_as (record_at f words (inner_place k n)))) refl
    where
      x : Place
      x = inner_place k n

      inside : in_pool f x ≡ true
      inside = and_both (le-leb k 4 h) (lt-ltb n (get_or f.caps k 0) l)

      go : (b : Bool) → nonzero (used_as (record_at f words x)) ≡ b → choose {A = ℕ} b 1 0 ≡ one (cell_of f words keys x)
      go true e = sym (one_used (cell_of f words keys x) (cell_used f words keys x inside (λ z. let p : 0 < used_as (record_at f words x) = ltb-true 0 (used_as (record_at f words x)) e in omega arith)))
      go false e = sym (ap one (cell_free f words keys x (let p : used_as (record_at f words x) ≤ 0 = ltb-false 0 (used_as (record_at f words x)) e in omega arith)))

  below_counts : (k m : ℕ) → k ≤ 4 → m ≤ get_or f.caps k 0 → used_below f words k m ≡ sum one (cell_of f words keys) (inner_place k) m
  below_counts k zero h l = refl
  below_counts k (suc m) h l = ap₂ ◌+◌ (below_counts k m h (omega arith)) (used_one k m h (omega arith))

  abbrev used_of : ℕ → ℕ
  used_of k = used_below f words k (get_or f.caps k 0)

  used_four : used_of 1 + used_of 2 + used_of 3 + used_of 4 ≡ four one f (cell_of f words keys)
  used_four =
      let is : (k : ℕ) → k ≤ 4 → used_of k ≡ sum one (cell_of f words keys) (inner_place k) (get_or f.caps k 0) = λ k h. below_counts k (get_or f.caps k 0) h (omega arith) in
      omega (arith, is 1 (omega arith), is 2 (omega arith), is 3 (omega arith), is 4 (omega arith))

-- as many inner records are in use as the drawing has branchings
pub used_inner_drawn : {words keys : List ℕ} (s : Sound words keys) → used_inner words ≡ branchings (draw (totals (held s.tree)))
used_inner_drawn {words} {keys} s =
    used_four (frame words) words keys
    ∙ ap₂ ◌+◌ (ap₂ ◌+◌ (ap₂ ◌+◌ (same 1) (same 2)) (same 3)) (same 4)
    ∙ go s.tree s.good s.once s.shown
  where
    same : (k : ℕ) → sum one (cell_of (frame words) words keys) (inner_place k) (get_or (frame words).caps k 0) ≡ sum one (store_of s.tree) (inner_place k) (get_or (frame words).caps k 0)
    same k = sum_same one (cell_of (frame words) words keys) (store_of s.tree) (inner_place k) (get_or (frame words).caps k 0) (λ n l. ap one (s.shown (inner_place k n)))

    go : (d : Option (Tree Held)) → Sane d → OnceOf d → ((x : Place) → cell_of (frame words) words keys x ≡ store_of d x) → four one (frame words) (store_of d) ≡ branchings (draw (totals (held d)))
    go none g o h = four_empty one refl (frame words)
    go (some t) g o h =
        let w : FrameOf (frame words) words keys = record { read = refl; fits = s.fits } in
        heft_four one refl (frame words) (inner_kind w) t [] o (λ x i. used_pool (frame words) words keys x (subst Used (sym (h x)) (store_on t [] x i)))
        ∙ heft_forks t ∙ sym (plain_forks t) ∙ used_inner_lem (plain t) (plain_good t g) ∙ ap (λ l. branchings (draw l)) (plain_contents t)
