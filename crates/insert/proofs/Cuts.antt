-- What is below a new branching: a leaf stays as it is, and a record's prefix is cut.
use Prim.Native.Nat.{ℕ, ◌+◌, ◌%◌, ◌/◌, ◌≤◌, ◌<◌}
use mathlib.Core.Path.{◌≡◌, refl, sym, ap, ◌∙◌}
use mathlib.Core.List.{List}
use mathlib.Core.Bool.{Bool, true, false, true≢false}
use native.Mathlib.Omega.{arith}
use lib.ListN.{length, length-take}
use lib.Dec.{eqb}
use mir.Syntax.{w32}
use mir.Val.{Fits}
use borrow.Author.Tests.{eq-eqb, ne_eqb, eqb-true}
use Rattle.lists.specs.Scan.{choose}
use Rattle.prefix.specs.Run.{split_of}
use Rattle.prefix.specs.declared.Prefix.{Prefix}
use Rattle.frames.specs.Frame.{FrameOf}
use Rattle.frames.specs.Place.{place_at, in_pool, record_at, key_at}
use Rattle.frames.specs.declared.frame.Frame.{Frame}
use Rattle.frames.proofs.Frames.{limit_small}
use Rattle.frames.proofs.Places.{inner_kind, key_length}
use Rattle.records.specs.Own.{prefix_at}
use Rattle.art.specs.Stores.{Place, leaf_place, inner_place}
use Rattle.tree.specs.Seen.{length_at, tag_at, LeafSeen}
use Rattle.points.specs.There.{InnerFitsAt}
use Rattle.writes.specs.At.{InnerPoolAt, prefixed_at}
use Rattle.writes.proofs.Spots.{here_place, prefix_short}
use Rattle.writes.proofs.Kept.{prefixed_kept}
use Rattle.insert.specs.Apply.{cut_at, CutOrLeaf}

-- a leaf's tag is no longer than the form's limit
pub tag_short : {f : Frame} {words keys : List ℕ} → FrameOf f words keys → (ref : ℕ) → LeafSeen f words keys ref → length (tag_at f words keys ref) ≤ f.form.limit
unfolding tag_at
tag_short {f} {words} {keys} w ref seen = omega (arith, length-take (length_at f words ref) (key_at f keys (ref / 8)), key_length w (ref / 8) seen.pool)

-- no reference to a record of a pool is 0
pub pool_some : {f : Frame} {words keys : List ℕ} → FrameOf f words keys → (ref : ℕ) → in_pool f (place_at ref) ≡ true → 0 < ref
pool_some {f} w ref h = go (eqb (ref % 8) 5) refl h
  where
    go : (b : Bool) → eqb (ref % 8) 5 ≡ b → in_pool f (choose b (leaf_place (ref / 8)) (inner_place (ref % 8) (ref / 8))) ≡ true → 0 < ref
    go true e p = omega (arith, eqb-true (ref % 8) 5 e)
    go false e p = omega (arith, (inner_kind w (ref % 8) (ref / 8) p).0)

-- ── by the kind of what is below ──
-- a record whose prefix is longer than what agrees of it
record Cuts (f : Frame) (words : List ℕ) (x : Place) (c : ℕ) (t : List ℕ) (d : ℕ) : Type 0 where
  pub here : InnerFitsAt f words x
  pub inside : c + 1 ≤ (prefix_at f.form (record_at f words x)).full.0
  pub whole : d + (prefix_at f.form (record_at f words x)).full.0 ≤ length t

module _ (f : Frame) (words : List ℕ) (below c : ℕ) (t : List ℕ) (d : ℕ) where
  abbrev named : Bool → Place
  named b = choose b (leaf_place (below / 8)) (inner_place (below % 8) (below / 8))

  pub cut_leaf : below % 8 ≡ 5 → words ≡ cut_at f (place_at below) c t d words
  cut_leaf e = sym (ap (λ (b : Bool). cut_at f (named b) c t d words) (eq-eqb (below % 8) 5 e))

  module _ (ne : below % 8 ≡ 5 → ⊥) where
    cut_inner : prefixed_at f (place_at below) (split_of (prefix_at f.form (record_at f words (place_at below))) (c + 1) t d) words ≡ cut_at f (place_at below) c t d words
    cut_inner = go (eqb (below % 8) 5) (ne_eqb (below % 8) 5 ne)
      where
        go : (b : Bool) → b ≡ false → prefixed_at f (named b) (split_of (prefix_at f.form (record_at f words (named b))) (c + 1) t d) words ≡ cut_at f (named b) c t d words
        go true e = absurd (true≢false e)
        go false e = refl

    module _ (h : CutOrLeaf f words (place_at below) c t d) where
      ready : Cuts f words (place_at below) c t d
      ready = go (eqb (below % 8) 5) (ne_eqb (below % 8) 5 ne) h
        where
          go : (b : Bool) → b ≡ false → CutOrLeaf f words (named b) c t d → Cuts f words (named b) c t d
          go true e k = absurd (true≢false e)
          go false e k = record { here = k.here; inside = k.inside; whole = k.whole }

      pub cut_here : InnerFitsAt f words (place_at below)
      cut_here = ready.here

      pub cut_place : InnerPoolAt f (place_at below)
      cut_place = here_place ready.here

      -- a word can hold what agrees, and one more
      pub cut_fits : {keys : List ℕ} → FrameOf f words keys → Fits w32 c
      cut_fits w = omega (arith, ready.inside, prefix_short ready.here, limit_small w)

      pub cut_fits_one : {keys : List ℕ} → FrameOf f words keys → Fits w32 (c + 1)
      cut_fits_one w = omega (arith, ready.inside, prefix_short ready.here, limit_small w)

      -- p is the prefix as it was read, q what is left of it, l the words with that
      module _ {p : Prefix} (ep : p ≡ prefix_at f.form (record_at f words (place_at below))) where
        pub cut_inside : c + 1 ≤ p.full.0
        cut_inside = omega (arith, ready.inside, ap (λ (q : Prefix). q.full.0) ep)

        pub cut_whole : d + p.full.0 ≤ length t
        cut_whole = omega (arith, ready.whole, ap (λ (q : Prefix). q.full.0) ep)

        module _ {q : Prefix} (eq : q ≡ split_of p (c + 1) t d) where
          module _ {l : List ℕ} (el : l ≡ prefixed_at f (place_at below) q words) where
            pub cut_made : l ≡ cut_at f (place_at below) c t d words
            cut_made =
                el
                ∙ ap (λ (x : Prefix). prefixed_at f (place_at below) x words) (eq ∙ ap (λ (x : Prefix). split_of x (c + 1) t d) ep)
                ∙ cut_inner

            pub cut_kept : {keys : List ℕ} → FrameOf f words keys → length l ≡ length words → FrameOf f l keys
            cut_kept w k = prefixed_kept w l k (place_at below) ready.here.pool q el
