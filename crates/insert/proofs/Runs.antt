-- Where a tag parts from a record's run, the leaf below has the whole run at the record's depth.
use Prim.Native.Nat.{ℕ, ◌+◌, ◌≤◌, ◌<◌}
use mathlib.Core.Path.{◌≡◌, refl, ap, ◌∙◌}
use mathlib.Core.List.{[], ◌∷◌, ◌++◌}
use native.Mathlib.Omega.{arith}
use lib.ListN.{length, take, drop, length-append}
use lib.Seq.{take_at, drop_at}
use Rattle.art.specs.Tags.{Tag}
use Rattle.art.specs.Trees.{Tree, Good}
use Rattle.art.specs.Facts.{height}
use Rattle.art.specs.Stores.{Place, leaf_place, inner_place, inner_cell, Store, root, refs}
use Rattle.art.specs.Refs.{Refs}
use Rattle.art.specs.Walks.{Shows}
use Rattle.art.specs.Points.{Up, top, Point, holds, clashes, into, fork, broken, store_tag, point}
use Rattle.art.proofs.Reach.{Reach, held_leaf, short_leaf, long_leaf, part_leaf, same_run, short_run, part_run, no_kid, a_kid, seek_reaches}

module _ {A : Type 0} where
  -- the record's run, which the leaf w has at depth d
  pub record RunAt (σ : Store A) (k n w d c : ℕ) : Type 0 where
    pub run : Tag
    pub rs : Refs
    pub shown : σ (inner_place k n) ≡ inner_cell (length run) (take 8 run) rs
    pub longer : c < length run
    pub after : Tag
    pub path : Tag
    pub depth : length path ≡ d
    pub leaf : store_tag σ w ≡ path ++ (run ++ after)

  abbrev pub PlaceRun : Store A → Place → (w d c : ℕ) → Type 0
  PlaceRun σ (leaf_place n) w d c = Unit {0}
  PlaceRun σ (inner_place k n) w d c = RunAt σ k n w d c

  abbrev pub PointRun : Store A → Point → Type 0
  PointRun σ (holds upper up n) = Unit {0}
  PointRun σ clashes = Unit {0}
  PointRun σ (into up k n x) = Unit {0}
  PointRun σ (fork up y w d c) = PlaceRun σ y w d c
  PointRun σ broken = Unit {0}

  module _ (σ : Store A) where
    reach_run : {t : Tree A} {p u : Tag} {upper up : Up} {pt : Point} → Reach σ t p u upper up pt → PointRun σ pt
    reach_run (held_leaf e em h) = tt
    reach_run (short_leaf y w e em) = tt
    reach_run (long_leaf x w e em) = tt
    reach_run (part_leaf c x i y j e e' ne em h) = tt
    reach_run (same_run e em) = tt
    reach_run (short_run y w e em) = tt
    reach_run (part_run {k} {n} {run} {r} {p} c x i y j e e' ne em h w z ew) =
        record { run = run; rs = refs r; shown = h; longer = omega (arith, ap length e', length-append c (y ∷ j)); after = z; path = p; depth = refl; leaf = ew }
    reach_run (no_kid x w e em nh eh h) = tt
    reach_run (a_kid x w e em i eh h hr kid b) = reach_run b

    pub point_run : (f : ℕ) (t : Tree A) → Good t → Shows t [] σ → height t < f → (s : Tag) → PointRun σ (point f σ (root t) s)
    point_run f t g h l s = reach_run (seek_reaches f f σ t g [] s s refl h l l top top)

  module _ {σ : Store A} {k n w d c : ℕ} (r : RunAt σ k n w d c) where
    -- the leaf's tag is long enough for it
    pub run_room : d + length r.run ≤ length (store_tag σ w)
    run_room = omega (arith, ap length r.leaf, length-append r.path (r.run ++ r.after), length-append r.run r.after, r.depth)

    -- and has it at depth d
    pub run_there : take (length r.run) (drop d (store_tag σ w)) ≡ r.run
    run_there =
        ap (λ (t : Tag). take (length r.run) (drop d t)) r.leaf
        ∙ ap (take (length r.run)) (drop_at r.path (r.run ++ r.after) d r.depth)
        ∙ take_at r.run r.after (length r.run) refl
