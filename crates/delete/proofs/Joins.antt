-- The one child left: a leaf stays as it is, and a record's prefix takes in what was above it.
use Prim.Native.Nat.{ℕ, ◌%◌, ◌/◌}
use mathlib.Core.Path.{◌≡◌, refl, sym, ap}
use mathlib.Core.List.{List}
use mathlib.Core.Bool.{Bool, true, false, true≢false}
use lib.Dec.{eqb}
use borrow.Author.Tests.{eq-eqb, ne_eqb}
use Rattle.lists.specs.Scan.{choose}
use Rattle.prefix.specs.Run.{merge_of}
use Rattle.frames.specs.Place.{place_at, record_at}
use Rattle.frames.specs.declared.frame.Frame.{Frame}
use Rattle.records.specs.Own.{prefix_at}
use Rattle.art.specs.Stores.{Place, leaf_place, inner_place}
use Rattle.points.specs.There.{InnerFitsAt}
use Rattle.writes.specs.At.{prefixed_at}
use Rattle.delete.specs.Apply.{joined_at, JoinReady}

module _ (f : Frame) (words : List ℕ) (child : ℕ) where
  abbrev named : Bool → Place
  named b = choose b (leaf_place (child / 8)) (inner_place (child % 8) (child / 8))

  pub combined_here : (child % 8 ≡ 5 → ⊥) → JoinReady f words (place_at child) → InnerFitsAt f words (place_at child)
  combined_here ne = go (eqb (child % 8) 5) (ne_eqb (child % 8) 5 ne)
    where
      go : (b : Bool) → b ≡ false → JoinReady f words (named b) → InnerFitsAt f words (named b)
      go true e h = absurd (true≢false e)
      go false e h = h

  module _ (x : Place) (byte : ℕ) where
    pub combined_leaf : child % 8 ≡ 5 → words ≡ joined_at f x (place_at child) byte words
    combined_leaf e = sym (ap (λ (b : Bool). joined_at f x (named b) byte words) (eq-eqb (child % 8) 5 e))

    pub combined_inner : (child % 8 ≡ 5 → ⊥)
        → prefixed_at f (place_at child) (merge_of (prefix_at f.form (record_at f words x)) byte (prefix_at f.form (record_at f words (place_at child)))) words
        ≡ joined_at f x (place_at child) byte words
    combined_inner ne = go (eqb (child % 8) 5) (ne_eqb (child % 8) 5 ne)
      where
        go : (b : Bool) → b ≡ false
            → prefixed_at f (named b) (merge_of (prefix_at f.form (record_at f words x)) byte (prefix_at f.form (record_at f words (named b)))) words ≡ joined_at f x (named b) byte words
        go true e = absurd (true≢false e)
        go false e = refl
