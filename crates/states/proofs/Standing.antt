-- A cell in use is that of a record that obeys its rule, so that its length, stored bytes and row are those of the record's words.
use Prim.Native.Nat.{ℕ, ◌<◌}
use mathlib.Core.Path.{◌≡◌, sym, ap, subst, ◌∙◌}
use mathlib.Core.Logic.{inl, inr}
use mathlib.Core.List.{List}
use mathlib.Core.Bool.{true}
use native.Mathlib.Omega.{arith}
use lib.ListN.{length}
use Rattle.prefix.specs.Run.{held}
use Rattle.frames.specs.Frame.{FrameOf}
use Rattle.frames.specs.Place.{ref_of, in_pool, record_at}
use Rattle.frames.specs.declared.frame.Frame.{Frame}
use Rattle.frames.proofs.Places.{inner_kind}
use Rattle.records.specs.Own.{prefix_at}
use Rattle.records.specs.Row.{row_at}
use Rattle.records.specs.View.{Held, places, cell_of}
use Rattle.art.specs.Tags.{Tag}
use Rattle.art.specs.Stores.{Place, leaf_place, inner_place, leaf_cell, inner_cell, Store, Used}
use Rattle.art.specs.Refs.{Refs}
use Rattle.art.specs.Chain.{Links}
use Rattle.edits.specs.Inner.{Inner}
use Rattle.edits.proofs.Inners.{inner_own, inner_size}
use Rattle.view.specs.Links.{UsedOrEnd}
use Rattle.view.specs.Seen.{LeafShows, LeafObeys}
use Rattle.view.proofs.Seen.{seen_leaf, seen_inner, leaf_obeys, inner_obeys}
use Rattle.states.specs.State.{State}

module _ {f : Frame} {words keys : List ℕ} (w : FrameOf f words keys) where
  -- the reference to a place of a pool is not 0
  pub ref_some : (y : Place) → in_pool f y ≡ true → 0 < ref_of y
  ref_some (leaf_place n) h = omega arith
  ref_some (inner_place k n) h = omega (arith, inner_kind w k n h)

-- the inner record of this kind and number stands there with this length, these stored bytes and this row
pub record Stands (f : Frame) (words : List ℕ) (k n len : ℕ) (st : List ℕ) (rs : Refs) : Type 0 where
  pub pool : in_pool f (inner_place k n) ≡ true
  pub own : Inner f.form k (record_at f words (inner_place k n)) (prefix_at f.form (record_at f words (inner_place k n))) (row_at f.form k (record_at f words (inner_place k n)))
  pub len_is : (prefix_at f.form (record_at f words (inner_place k n))).full.0 ≡ len
  pub stored_is : held (prefix_at f.form (record_at f words (inner_place k n))) ≡ st
  pub refs_are : places (row_at f.form k (record_at f words (inner_place k n))) ≡ rs
  pub size : length (row_at f.form k (record_at f words (inner_place k n))) ≡ length rs

module _ {f : Frame} {words keys : List ℕ} {σ : Store Held} {links : Links} {root count : ℕ} (s : State f words keys σ links root count) where
  pub shown_at : (x : Place) → cell_of f words keys x ≡ σ x
  shown_at x = ap (λ (τ : Store Held). τ x) s.cells

  pub stands : (k n len : ℕ) (st : List ℕ) (rs : Refs) → σ (inner_place k n) ≡ inner_cell len st rs → Stands f words k n len st rs
  unfolding prefix_at
  stands k n len st rs e =
      let v = seen_inner f words keys k n len st rs (shown_at (inner_place k n) ∙ e) in
      let o = inner_obeys s.frame v (s.rules (inner_place k n) (subst Used (sym e) tt)) in
      let i = inner_own o.fits in
      record { pool = v.pool; own = i; len_is = sym v.len_is; stored_is = sym v.stored_is; refs_are = sym v.refs_are; size = inner_size i ∙ o.count_is }

  -- a leaf
  module _ (n : ℕ) (t : Tag) (a : Held) (e : σ (leaf_place n) ≡ leaf_cell t a) where
    pub leaf_seen : LeafShows f words keys n t a
    leaf_seen = seen_leaf f words keys n t a (shown_at (leaf_place n) ∙ e)

    pub leaf_stands : LeafObeys f words keys n t
    leaf_stands = leaf_obeys s.frame leaf_seen (s.rules (leaf_place n) (subst Used (sym e) tt))

-- 0, or a reference to a leaf in use, is one still where the words are written and every leaf has the cell that it had
pub kept_end : {f : Frame} {words keys words' keys' : List ℕ} {σ τ : Store Held} {links links' : Links} {root count root' count' : ℕ} → State f words keys σ links root count
    → State f words' keys' τ links' root' count' → ((n : ℕ) → τ (leaf_place n) ≡ σ (leaf_place n)) → (ref : ℕ) → UsedOrEnd f words keys ref → UsedOrEnd f words' keys' ref
kept_end s h kept ref (inl e) = inl e
kept_end {f} {words} {keys} {words'} {keys'} s h kept ref (inr u) =
    inr (u.0, u.1, subst Used (shown_at s (leaf_place u.0) ∙ sym (kept u.0) ∙ sym (shown_at h (leaf_place u.0))) u.2)
