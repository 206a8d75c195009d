-- On a block that shows a tree the code's way of a tag ends at the mathematics' point: at each record both make the same step, down the tree.
use Prim.Native.Nat.{ℕ, zero, suc, ◌+◌, ◌≤◌, ◌<◌}
use mathlib.Core.Path.{◌≡◌, refl, sym, ap, ap₂, subst, ◌∙◌}
use mathlib.Core.Logic.{◌⊎◌, inl, inr}
use mathlib.Core.List.{List, [], ◌∷◌, ◌++◌}
use mathlib.Core.Option.{Option, none, some}
use mathlib.Core.Bool.{true}
use native.Mathlib.Omega.{arith}
use borrow.Author.Tests.{leb-true}
use Rattle.std.specs.Prelude.{Some, None}
use Rattle.points.specs.Point.{Run, run_step, inner_step, point_from, point_of}
use Rattle.points.specs.There.{Up}
use lib.ListN.{length, get_or, take, drop, length-append}
use Rattle.points.proofs.Steps.{point_end}
use Rattle.lists.specs.Scan.{all_pass, at_most}
use Rattle.lists.proofs.Tests.{both}
use Rattle.frames.specs.Frame.{FrameOf, root_word}
use Rattle.frames.specs.Place.{place_at, record_at}
use Rattle.frames.specs.declared.frame.Frame.{Frame}
use Rattle.records.specs.Own.{prefix_at, child_at}
use Rattle.records.specs.Row.{row_at, ref_for}
use Rattle.records.specs.View.{Held, cell_of, rule_at}
use Rattle.records.proofs.RowRules.{row_rule}
use Rattle.tree.specs.Seen.{tag_at}
use Rattle.points.specs.declared.insert_point.Point.{Point}
use Rattle.art.specs.Tags.{Tag}
use Rattle.art.specs.Trees.{Tree, leaf, inner, Row, Good, GoodRow}
use Rattle.art.specs.Facts.{height, row_height}
use Rattle.art.specs.Stores.{Place, leaf_place, inner_place, Cell, leaf_cell, Used, root, refs}
use Rattle.art.specs.Refs.{find_ref}
use Rattle.art.specs.Walks.{Shows}
use Rattle.art.specs.Points as art
use Rattle.view.specs.Seen.{InnerShows}
use Rattle.view.proofs.Seen.{seen_inner, inner_obeys}
use Rattle.reading.specs.Shown.{Shown}
use Rattle.reading.specs.Answers.{Bytes}
use Rattle.reading.proofs.Arrivals as arrival
use Rattle.reading.proofs.Entries.{shown_root, zero_unused, tree_shows, few_inner}
use Rattle.pointed.specs.Told.{up_told, told}
use Rattle.pointed.proofs.Lowest.{tag_seen, lowest_below}
use Rattle.reading.proofs.Kids.{KidOf, row_kid}
use Rattle.pointed.proofs.Runs.{run_agrees}
use Rattle.pointed.proofs.Ways.{leaf_ref, inner_ref, leaf_told, after, way_on, step_by, SameKid, run_told}

-- ── a tag's bytes ──
-- tested one by one, each is below 256, and so is what is read past the end
pub tag_bytes : (tag : List ℕ) → all_pass (at_most 255) tag ≡ true → Bytes tag
tag_bytes [] e i = omega arith
tag_bytes (x ∷ tag) e zero = omega (arith, leb-true x 255 (both (at_most 255 x) (all_pass (at_most 255) tag) e).0)
tag_bytes (x ∷ tag) e (suc i) = tag_bytes tag (both (at_most 255 x) (all_pass (at_most 255) tag) e).1 i

-- ── the way over a block that shows a tree ──
module _ {f : Frame} {words keys : List ℕ} (w : FrameOf f words keys) (rules : (x : Place) → Used (cell_of f words keys x) → rule_at f words keys x ≡ true)
    (tag : List ℕ) (bytes : Bytes tag) (m : ℕ) where
  -- the law with so many inner records left: for a tree shown below a path, of which only the length counts
  abbrev Law : ℕ → Type 0
  Law left = (t : Tree Held) → Good t → (p : Tag) → Shows t p (cell_of f words keys) → height t ≤ left → height t ≤ f.form.limit → height t < m → (i : ℕ) → height t < i
      → (ref : ℕ) → place_at ref ≡ root t → (d : ℕ) → d ≡ length p → (upper up : Up)
      → told (point_from f words keys tag left ref d upper up) ≡ art.seek m i (cell_of f words keys) tag (root t) d (up_told upper) (up_told up)

  at_leaf : (left n : ℕ) (t : Tag) (a : Held) → cell_of f words keys (leaf_place n) ≡ leaf_cell t a → (i ref : ℕ) → place_at ref ≡ leaf_place n → (d : ℕ) (upper up : Up)
      → told (point_from f words keys tag left ref d upper up) ≡ art.seek m (suc i) (cell_of f words keys) tag (leaf_place n) d (up_told upper) (up_told up)
  at_leaf left n t a h i ref e d upper up =
      ap told (point_end f words keys tag left ref d upper up _ (step_by f words keys tag left ref d upper up _ (arrival.at_leaf f words keys rules left ref n t a h e)))
      ∙ leaf_told tag (tag_at f words keys ref) ref n d upper up e
      ∙ ap (λ (x : Tag). art.stop_leaf tag x n d (art.shared_length (drop d tag) (drop d x)) (up_told upper) (up_told up)) (tag_seen f words keys ref n t a h (leaf_ref ref n e))
      ∙ sym (ap (art.seek_leaf tag n d (up_told upper) (up_told up)) h)

  -- below an inner record both go on in the same child, or end
  kid_same : (left k n : ℕ) (p run : Tag) (r : Row Held) → GoodRow r → Shows (inner k n run r) p (cell_of f words keys)
      → row_height r ≤ left → row_height r ≤ f.form.limit → row_height r < m → (i : ℕ) → row_height r < i
      → (ref : ℕ) → place_at ref ≡ inner_place k n → (d : ℕ) → d ≡ length p → (up : Up) → Law left
      → (let byte = get_or tag (d + length run) 0 in
      SameKid (λ c. point_from f words keys tag left c (d + length run + 1) up (Some (ref, byte))) (child_at f.form k (record_at f words (inner_place k n)) byte) (find_ref (refs r) byte)
      (λ y. art.seek m i (cell_of f words keys) tag y (suc (d + length run)) (up_told up) (art.via k n byte)))
  kid_same left k n p run r g h l few lm i li ref e d ed up law = go (row_kid (cell_of f words keys) r (p ++ run) h.1 row s.refs_are byte)
    where
      row : List (ℕ × ℕ)
      row = row_at f.form k (record_at f words (inner_place k n))

      byte : ℕ
      byte = get_or tag (d + length run) 0

      next : ℕ
      next = child_at f.form k (record_at f words (inner_place k n)) byte

      s : InnerShows f words k n (length run) (take 8 run) (refs r)
      s = seen_inner f words keys k n (length run) (take 8 run) (refs r) h.0

      next_is : next ≡ ref_for byte row
      next_is = (row_rule (inner_obeys w s (rules (inner_place k n) (rw h.0 tt))).fits).child_for byte (bytes (d + length run))

      go : ((ref_for byte row ≡ 0) × (find_ref (refs r) byte ≡ none)) ⊎ KidOf (cell_of f words keys) r (p ++ run) (ref_for byte row) (find_ref (refs r) byte)
          → SameKid (λ c. point_from f words keys tag left c (d + length run + 1) up (Some (ref, byte))) next (find_ref (refs r) byte)
          (λ y. art.seek m i (cell_of f words keys) tag y (suc (d + length run)) (up_told up) (art.via k n byte))
      go (inl z) = inl (next_is ∙ z.0, z.1)
      go (inr z) =
          let path = p ++ run ++ z.byte ∷ [] in
          let used = shown_root (cell_of f words keys) path z.tree z.shows in
          let named : place_at next ≡ root z.tree = ap place_at next_is ∙ z.names in
          let nz : next ≡ 0 → ⊥ = λ i. zero_unused w (subst (λ (x : Place). Used (cell_of f words keys x)) (sym named ∙ ap place_at i) used) in
          let deep : suc (d + length run) ≡ length path = omega (arith, length-append (p ++ run) (z.byte ∷ []), length-append p run) in
          let q = inner_ref ref k n e in
          inr (
            nz,
            root z.tree,
            z.finds,
            ap (λ (j : ℕ). told (point_from f words keys tag left next j up (Some (ref, byte)))) (let j : d + length run + 1 ≡ suc (d + length run) = omega arith in j)
                ∙ law z.tree (z.good g) path z.shows (omega (arith, z.low)) (omega (arith, z.low)) (omega (arith, z.low)) i (omega (arith, z.low)) next named (suc (d + length run)) deep up (Some (ref, byte))
                ∙ ap₂ (λ (a b : ℕ). art.seek m i (cell_of f words keys) tag (root z.tree) (suc (d + length run)) (up_told up) (art.via a b byte)) q.0 q.1,
          )

  at_inner : (left k n : ℕ) (p run : Tag) (r : Row Held) → Good (inner k n run r) → Shows (inner k n run r) p (cell_of f words keys)
      → row_height r ≤ left → height (inner k n run r) ≤ f.form.limit → height (inner k n run r) < m → (i : ℕ) → row_height r < i
      → (ref : ℕ) → place_at ref ≡ inner_place k n → (d : ℕ) → d ≡ length p → (upper up : Up) → Law left
      → told (point_from f words keys tag (suc left) ref d upper up) ≡ art.seek m (suc i) (cell_of f words keys) tag (inner_place k n) d (up_told upper) (up_told up)
  unfolding prefix_at inner_step
  at_inner left k n p run r g h l few lm i li ref e d ed upper up law =
      let rec = record_at f words (inner_place k n) in
      let s = seen_inner f words keys k n (length run) (take 8 run) (refs r) h.0 in
      let low = lowest_below f words keys rules k n run r g p h few m lm ref e in
      let on : ℕ → ℕ → ℕ → Point = λ r e b. point_from f words keys tag left r e up (Some (ref, b)) in
      let down : Place → ℕ → art.Up → art.Point = λ y e up'. art.seek m i (cell_of f words keys) tag y e (up_told up) up' in
      ap told (way_on f words keys tag left ref d upper up _ (step_by f words keys tag (suc left) ref d upper up _ (arrival.at_inner f words keys rules (suc left) ref k n _ _ _ h.0 e (omega arith))))
      ∙ ap (λ (x : Run). told (after on (run_step f words keys tag k rec ref d up x))) (run_agrees f words keys p run ref m (inner_place k n) low d ed tag (prefix_at f.form rec) s.len_is s.stored_is)
      ∙ run_told f words keys tag on down k rec ref k n (length run) (refs r) low.number low.total d _ up e (sym s.len_is) low.found
      (kid_same left k n p run r g.1 h l (omega arith) (omega arith) i li ref e d ed up law)
      ∙ sym (ap₂ (λ (c : Cell Held) (o : Option ℕ). art.seek_inner (cell_of f words keys) tag k n d (up_told up) c o down) h.0 low.named)

  way_as : (left : ℕ) → Law left
  way_as zero (leaf n s a) g p h l few lm zero li ref e d ed upper up = absurd (omega arith)
  way_as (suc left) (leaf n s a) g p h l few lm zero li ref e d ed upper up = absurd (omega arith)
  way_as zero (leaf n s a) g p h l few lm (suc i) li ref e d ed upper up = at_leaf zero n (p ++ s) a h i ref e d upper up
  way_as (suc left) (leaf n s a) g p h l few lm (suc i) li ref e d ed upper up = at_leaf (suc left) n (p ++ s) a h i ref e d upper up
  way_as zero (inner k n run r) g p h l few lm i li ref e d ed upper up = absurd (omega arith)
  way_as (suc left) (inner k n run r) g p h l few lm zero li ref e d ed upper up = absurd (omega arith)
  way_as (suc left) (inner k n run r) g p h l few lm (suc i) li ref e d ed upper up =
      at_inner left k n p run r g h (omega arith) few lm i (omega arith) ref e d ed upper up
      (λ t g' p' h' l' few' lm' i' li' ref' e' d' ed' upper' up'. way_as left t g' p' h' l' few' lm' i' li' ref' e' d' ed' upper' up')

-- The code's point of a tag, with places for references, is the mathematics' point, for any number of records above the tree's height.
pub point_shown : {f : Frame} {words keys : List ℕ} {t : Tree Held} → Shown f words keys (some t) → (tag : List ℕ) → Bytes tag → (h : ℕ) → height t < h
    → told (point_of f words keys tag (root_word words)) ≡ art.point h (cell_of f words keys) (root t) tag
unfolding point_of
point_shown {f} {words} {keys} {t} s tag bytes h l =
    way_as s.frame s.rules tag bytes h f.form.limit t s.good [] (tree_shows s) (few_inner s) (few_inner s) l h l (root_word words) s.rooted 0 refl None None
