-- A point tells the truth of its store: the records that it names are there, with the children, bytes and lengths that its writes lean on.
use mathlib.Core.Path.{◌≡◌, refl, sym, ap, ◌∙◌}
use mathlib.Core.Logic.{◌≢◌}
use mathlib.Core.Option.{Option, none, some}
use mathlib.Core.List.{[], ◌∷◌, ◌++◌, append_assoc}
use Prim.Native.Nat.{ℕ, ◌+◌, ◌<◌}
use native.Mathlib.Omega.{arith}
use lib.ListN.{length, take, length-append}
use lib.Seq.{take_at}
use Rattle.art.specs.Tags.{Tag}
use Rattle.art.specs.Trees.{Tree, Good}
use Rattle.art.specs.Facts.{height}
use Rattle.art.specs.Stores.{Place, cell_tag, leaf_place, inner_place, leaf_cell, Store, root, refs}
use Rattle.art.specs.Walks.{Shows}
use Rattle.art.specs.Points.{Up, top, Point, store_tag, point, UpFits, UpperFits, RunFits, ForkFits, PointFits}
use Rattle.art.proofs.Refs.{find_kid, find_no_kid}
use Rattle.art.proofs.Reach.{next_byte, Reach, held_leaf, short_leaf, long_leaf, part_leaf, same_run, short_run, part_run, no_kid, a_kid, seek_reaches}

module _ {A : Type 0} (σ : Store A) where
  -- two tags that part after the path and the bytes c
  parts : (up : Up) (Y : Place) (w : ℕ) (p c : Tag) (x : ℕ) (i : Tag) (y : ℕ) (j s : Tag) → s ≡ p ++ (c ++ x ∷ i) → store_tag σ w ≡ p ++ (c ++ y ∷ j) → x ≢ y → RunFits σ Y w (length c) → UpFits σ up Y → ForkFits σ s up Y w (length p) (length c)
  parts up Y w p c x i y j s es et ne run above = record {
    inside = omega (arith, ap length es, length-append p (c ++ x ∷ i), length-append c (x ∷ i));
    inside_leaf = omega (arith, ap length et, length-append p (c ++ y ∷ j), length-append c (y ∷ j));
    agree = front x i s es ∙ sym (front y j (store_tag σ w) et);
    differ = λ e. ne (sym (next_byte p c x i s es) ∙ e ∙ next_byte p c y j (store_tag σ w) et);
    run = run;
    above = above;
  }
    where
      front : (b : ℕ) (z t : Tag) → t ≡ p ++ (c ++ b ∷ z) → take (length p + length c) t ≡ p ++ c
      front b z t e = ap (take (length p + length c)) (e ∙ sym (append_assoc p c (b ∷ z))) ∙ take_at (p ++ c) (b ∷ z) _ (length-append p c)

  reach_fits : {t : Tree A} {p u : Tag} {upper up : Up} {pt : Point} → Reach σ t p u upper up pt → (s : Tag) → s ≡ p ++ u → UpFits σ up (root t) → UpperFits σ upper up → PointFits σ s pt
  reach_fits (held_leaf {n} {rest} {v} {p} e em h) s es f g = record { held = v; shown = h ∙ ap (λ (t : Tag). leaf_cell t v) (sym (es ∙ ap (λ (z : Tag). p ++ z) e)); above = f; upper_above = g }
  reach_fits (short_leaf y w e em) s es f g = tt
  reach_fits (long_leaf x w e em) s es f g = tt
  reach_fits (part_leaf {n} {rest} {v} {p} {u} {upper} {up} c x i y j e e' ne em h) s es f g =
      parts up (leaf_place n) n p c x i y j s (es ∙ ap (λ (z : Tag). p ++ z) e) (ap cell_tag h ∙ ap (λ (z : Tag). p ++ z) e') ne refl f
  reach_fits (same_run e em) s es f g = tt
  reach_fits (short_run y w e em) s es f g = tt
  reach_fits (part_run {k} {n} {run} {r} {p} {u} {upper} {up} c x i y j e e' ne em h w z ew) s es f g =
      parts up (inner_place k n) w p c x i y (j ++ z) s (es ∙ ap (λ (q : Tag). p ++ q) e)
      (ew ∙ ap (λ (q : Tag). p ++ (q ++ z)) e' ∙ ap (λ (q : Tag). p ++ q) (append_assoc c (y ∷ j) z)) ne
      (length run, refs r, record { stored = take 8 run; shown = h }, omega (arith, ap length e', length-append c (y ∷ j))) f
  reach_fits (no_kid {k} {n} {run} {r} {p} {u} x w e em nh eh h) s es f g =
      let es' : s ≡ p ++ (run ++ x ∷ w) = es ∙ ap (λ (q : Tag). p ++ q) e in
      record {
        len = length run;
        rs = refs r;
        at_record = record { stored = take 8 run; shown = h };
        missing = find_no_kid x r nh;
        depth = length p + length run;
        inside = omega (arith, ap length es', length-append p (run ++ x ∷ w), length-append run (x ∷ w));
        byte = next_byte p run x w s es';
        above = f;
      }
  reach_fits (a_kid {k} {n} {run} {r} {p} {u} x w e em i eh h hr kid b) s es f g =
      reach_fits b s (es ∙ ap (λ (q : Tag). p ++ q) e ∙ simp append_assoc)
      (record { len = length run; rs = refs r; parent = record { stored = take 8 run; shown = h }; child = find_kid x r ∙ kid.picks (Option Place) none (λ c t. some (root t)) }) f

  -- what the point of a tag tells of a store that shows a tree is so
  pub point_fits : (f : ℕ) (t : Tree A) → Good t → Shows t [] σ → height t < f → (s : Tag) → PointFits σ s (point f σ (root t) s)
  point_fits f t g h l s = reach_fits (seek_reaches f f σ t g [] s s refl h l l top top) s refl tt refl
