-- What is read of the records of a sound block is the drawing of its tree, and so of what it holds.
use Prim.Native.Nat.{ℕ, zero, suc, ◌<◌}
use mathlib.Core.Path.{◌≡◌, refl, sym, ap, ap₂, subst, ◌∙◌, fun_ext}
use mathlib.Core.List.{List, [], ◌∷◌, ◌++◌}
use mathlib.Core.Option.{Option, none, some}
use mathlib.Core.Bool.{true}
use native.Mathlib.Omega.{arith}
use lib.ListN.{length, take}
use Rattle.frames.specs.Frame.{frame, root_word}
use Rattle.frames.specs.Place.{place_at, in_pool}
use Rattle.frames.proofs.Places.{place_ref}
use Rattle.records.specs.View.{Held, cell_of}
use Rattle.art.specs.Tags.{Tag}
use Rattle.art.specs.Trees.{Tree, leaf, inner, Row, end, child}
use Rattle.art.specs.Drawings.{branch, kid, draw, sketch, sketch_row}
use Rattle.art.specs.Deletes.{held}
use Rattle.art.specs.Facts.{height, row_height}
use Rattle.art.specs.Stores.{Place, Cell, Store, Used, Once, root, refs}
use Rattle.art.specs.Points.{store_of}
use Rattle.art.specs.Walks.{Shows, ShowsRow}
use Rattle.art.proofs.Stores.{own}
use Rattle.art.proofs.Walks.{store_shows}
use Rattle.art.proofs.Drawings.{sketch_is_draw}
use Rattle.reading.specs.Shown.{Shown}
use Rattle.reading.proofs.Entries.{few_inner}
use Rattle.whole.specs.Sound.{Rooted, Sound}
use Rattle.whole.proofs.Sounds.{used_pool}
use Rattle.pointed.proofs.Sounds.{sound_shown}
use Rattle.reading.specs.Listing.{totals}
use Rattle.demands.specs.Drawn.{kids_drawn, cell_drawn, drawn_from, drawing_of}
use Rattle.demands.proofs.Totals.{plain, plain_row, plain_contents, plain_good}

-- ── the records of a tree, read from its root on ──
module _ (σ : Store Held) where
  mutual
    drawn_tree : (t : Tree Held) (most : ℕ) (p : Tag) → Shows t p σ → height t < most → drawn_from most σ (root t) ≡ sketch p (plain t)
    drawn_tree (leaf n s a) zero p h l = absurd (omega arith)
    drawn_tree (leaf n s a) (suc most) p h l = ap (λ (c : Cell Held). cell_drawn c (λ y. drawn_from most σ y)) h
    drawn_tree (inner k n run r) zero p h l = absurd (omega arith)
    drawn_tree (inner k n run r) (suc most) p h l =
        ap (λ (c : Cell Held). cell_drawn c (λ y. drawn_from most σ y)) h.0 ∙ ap (branch (length run) (take 8 run)) (drawn_row r most (p ++ run) h.1 (omega arith))

    drawn_row : (r : Row Held) (most : ℕ) (q : Tag) → ShowsRow r q σ → row_height r < most → kids_drawn (refs r) (λ y. drawn_from most σ y) ≡ sketch_row q (plain_row r)
    drawn_row end most q h l = refl
    drawn_row (child b t r) most q h l = ap₂ (kid b) (drawn_tree t most (q ++ b ∷ []) h.0 (omega arith)) (drawn_row r most q h.1 (omega arith))

-- ── a sound block ──
module _ (words keys : List ℕ) where
  abbrev pub Cells : Option (Tree Held) → Type 0
  Cells d = (x : Place) → cell_of (frame words) words keys x ≡ store_of d x

  pub root_used : (t : Tree Held) → Cells (some t) → Used (cell_of (frame words) words keys (root t))
  root_used t h = subst Used (sym (h (root t))) (own t [])

  pub root_pool : (t : Tree Held) → Cells (some t) → in_pool (frame words) (root t) ≡ true
  root_pool t h = used_pool (frame words) words keys (root t) (root_used t h)

  pub tree_shown : (t : Tree Held) → Cells (some t) → Once t [] → Shows t [] (cell_of (frame words) words keys)
  tree_shown t h o = subst (Shows t []) (sym (fun_ext h)) (store_shows t [] o)

-- it draws what its tags and totals alone draw
pub drawing_held : {words keys : List ℕ} (s : Sound words keys) → drawing_of words keys ≡ draw (totals (held s.tree))
drawing_held {words} {keys} s = go s.tree (sound_shown s) s.rooted
  where
    most : ℕ
    most = (frame words).form.limit

    go : (d : Option (Tree Held)) → Shown (frame words) words keys d → Rooted (root_word words) d → drawing_of words keys ≡ draw (totals (held d))
    go none h r = ap (λ (c : Cell Held). cell_drawn c (λ y. drawn_from most (cell_of (frame words) words keys) y)) (h.cells (place_at (root_word words)))
    go (some t) h r =
        ap (drawn_from (suc most) (cell_of (frame words) words keys)) (ap place_at r ∙ place_ref (frame words) (root t) (root_pool words keys t h.cells))
        ∙ drawn_tree (cell_of (frame words) words keys) t (suc most) [] (tree_shown words keys t h.cells h.once) (omega (arith, few_inner h))
        ∙ sketch_is_draw (plain t) (plain_good t h.good) ∙ ap (λ l. draw l) (plain_contents t)
