-- A reference that names a leaf of the pool: its words stand before the trailer.
use Prim.Native.Nat.{ℕ, ◌+◌, ◌≤◌}
use mathlib.Core.Path.{◌≡◌, ap, ◌∙◌}
use mathlib.Core.Logic.{inl, inr}
use mathlib.Core.List.{List}
use mathlib.Core.Bool.{true}
use native.Mathlib.Omega.{arith}
use lib.ListN.{length}
use Rattle.art.specs.Stores.{leaf_place}
use Rattle.frames.specs.Kind.{leaf_size}
use Rattle.frames.specs.Frame.{FrameOf}
use Rattle.frames.specs.Place.{place_at, in_pool, start_at}
use Rattle.frames.specs.declared.frame.Frame.{Frame}
use Rattle.frames.proofs.Places.{place_leaf, place_room}
use Rattle.pools.specs.Link.{LeafOrEnd}

module _ {f : Frame} {words keys : List ℕ} (w : FrameOf f words keys) (ref : ℕ) (d : ref ≡ 0 → ⊥) where
  pub leaf_in : LeafOrEnd f ref → in_pool f (place_at ref) ≡ true
  leaf_in (inl e) = absurd (d e)
  leaf_in (inr (n, e, h)) = ap (λ (r : ℕ). in_pool f (place_at r)) e ∙ ap (in_pool f) (place_leaf n) ∙ h

  pub leaf_ends : LeafOrEnd f ref → start_at f (place_at ref) + leaf_size + 16 ≤ length words
  leaf_ends (inl e) = absurd (d e)
  leaf_ends (inr (n, e, h)) = omega (arith, place_room w (leaf_place n) h, ap (λ (r : ℕ). start_at f (place_at r)) e ∙ ap (start_at f) (place_leaf n))
