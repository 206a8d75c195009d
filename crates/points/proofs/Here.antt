-- References to records that are there. An inner record's kind is one of four; a leaf of the pool lies within the words.
use Prim.Native.Nat.{ℕ, ◌+◌, ◌*◌, ◌/◌, ◌%◌, ◌≤◌}
use mathlib.Core.Path.{◌≡◌, refl, sym, ap, subst, ◌∙◌}
use mathlib.Core.List.{List}
use mathlib.Core.Bool.{Bool, true, false}
use native.Mathlib.Omega.{arith}
use lib.ListN.{length, get_or}
use lib.Dec.{eqb}
use borrow.Author.Tests.{eqb-true, ltb-true}
use Rattle.lists.specs.Scan.{choose}
use Rattle.lists.specs.Part.{between}
use Rattle.frames.specs.Kind.{leaf_size}
use Rattle.frames.specs.Form.{record_words}
use Rattle.frames.specs.Frame.{FrameOf}
use Rattle.frames.specs.Place.{place_at, in_pool, start_at, size_at, record_at, kind_at}
use Rattle.frames.specs.declared.frame.Frame.{Frame}
use Rattle.frames.proofs.Frames.{framed, caps_most}
use Rattle.frames.proofs.Places.{ref_leaf, place_room}
use Rattle.records.specs.Own.{InnerFits}
use Rattle.art.specs.Stores.{leaf_place, inner_place}
use Rattle.tree.proofs.Arrivals.{inner_named}
use Rattle.points.specs.There.{InnerFitsAt}

pub place_kind : (ref : ℕ) → kind_at (place_at ref) ≡ ref % 8
place_kind ref = go (eqb (ref % 8) 5) refl
  where
    go : (b : Bool) → eqb (ref % 8) 5 ≡ b → kind_at (choose b (leaf_place (ref / 8)) (inner_place (ref % 8) (ref / 8))) ≡ ref % 8
    go true e = omega (arith, eqb-true (ref % 8) 5 e)
    go false e = refl

module _ {f : Frame} {words : List ℕ} (ref : ℕ) (h : InnerFitsAt f words (place_at ref)) where
  pub here_kind : (1 ≤ ref % 8) × (ref % 8 ≤ 4)
  here_kind = (omega (arith, place_kind ref, h.fits.low), omega (arith, place_kind ref, h.fits.high))

  pub here_place : place_at ref ≡ inner_place (ref % 8) (ref / 8)
  here_place = inner_named ref (λ e. omega (arith, here_kind.1))

  -- its words, from its first word on
  module _ {start z : ℕ} (s : start ≡ start_at f (place_at ref)) (e : z ≡ record_words f.form (ref % 8)) where
    pub here_record : between words start (start + z) ≡ record_at f words (place_at ref)
    here_record =
        ap (λ (a : ℕ). between words a (a + z)) s
        ∙ ap (λ (k : ℕ). between words (start_at f (place_at ref)) (start_at f (place_at ref) + k)) (e ∙ sym (ap (size_at f) here_place))

    pub here_fits : InnerFits f.form (ref % 8) (between words start (start + z))
    here_fits =
        subst (InnerFits f.form (ref % 8)) (sym here_record)
        (subst (λ (k : ℕ). InnerFits f.form k (record_at f words (place_at ref))) (place_kind ref) h.fits)

    pub here_within : {keys : List ℕ} → FrameOf f words keys → start + z + 16 ≤ length words
    here_within w = omega (arith, s, e, ap (size_at f) here_place, place_room w (place_at ref) h.pool)

module _ {f : Frame} {words keys : List ℕ} (w : FrameOf f words keys) (n : ℕ) (p : in_pool f (leaf_place n) ≡ true) where
  pub leaf_small : n ≤ 4096
  leaf_small = omega (arith, ltb-true n (get_or f.caps 5 0) p, caps_most (framed w) 5 (omega arith))

  module _ {ref : ℕ} (e : ref ≡ n * 8 + 5) where
    pub leaf_names : place_at ref ≡ leaf_place n
    leaf_names = ref_leaf e

    pub leaf_there : in_pool f (place_at ref) ≡ true
    leaf_there = ap (in_pool f) leaf_names ∙ p

    pub leaf_within : {start : ℕ} → start ≡ start_at f (place_at ref) → start + leaf_size + 16 ≤ length words
    leaf_within s = omega (arith, s ∙ ap (start_at f) leaf_names, place_room w (leaf_place n) p)
