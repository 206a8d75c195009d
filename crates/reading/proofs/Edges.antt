-- The walk down by the lowest or the highest child ends at the tree's first or last leaf, which is the first or the last of the sorted list.
use Prim.Native.Nat.{ℕ, zero, suc, ◌-◌, ◌≤◌}
use mathlib.Core.Path.{◌≡◌, refl, sym, ap, ap₂, ◌∙◌}
use mathlib.Core.List.{List, [], ◌∷◌, ◌++◌, head-eq_of_cons-eq, tail-eq_of_cons-eq}
use mathlib.Core.Option.{Option, none, some}
use mathlib.Core.Bool.{true}
use native.Mathlib.Omega.{arith}
use Rattle.std.specs.Prelude.{Ok}
use Rattle.frames.specs.Frame.{root_word}
use Rattle.frames.specs.Place.{place_at, record_at}
use Rattle.frames.specs.declared.frame.Frame.{Frame}
use Rattle.records.specs.Own.{total_of}
use Rattle.records.specs.Row.{row_at}
use Rattle.records.specs.View.{Held, places, cell_of, rule_at}
use Rattle.tree.specs.Edge.{entry_ref, edge_entry, edge_ref, edge_of, edge_leaf, minimum_of, maximum_of}
use Rattle.tree.specs.declared.minmax.Edge.{Edge}
use Rattle.tree.specs.declared.minmax.Edge.TheVariants.{Low, High}
use Rattle.tree.proofs.Edges.{edge_by, edge_step_by, edge_next, edge_end}
use Rattle.art.specs.Tags.{Tag, Listing}
use Rattle.art.specs.Trees.{Tree, leaf, inner, Row, end, child, contents, Good, GoodRow, count}
use Rattle.art.specs.Drawings.{Filled}
use Rattle.art.specs.Facts.{height, row_height}
use Rattle.art.specs.Deletes.{held}
use Rattle.art.specs.Orders.{or_else, first_of, last_of, least, least_row, greatest, greatest_row}
use Rattle.art.specs.Stores.{Place, leaf_place, inner_place, leaf_cell, Used, root, refs}
use Rattle.art.specs.Walks.{Shows, ShowsRow}
use Rattle.art.proofs.Drawings.{filled}
use Rattle.art.proofs.Orders.{least_first, greatest_last}
use Rattle.view.proofs.Seen.{seen_leaf, seen_inner}
use Rattle.reading.specs.Shown.{Shown}
use Rattle.reading.specs.Answers.{answer_of}
use Rattle.reading.proofs.Arrivals as arrival
use Rattle.reading.proofs.Entries.{tree_shows, few_inner, root_some, root_empty}

module _ {A : Type 0} where
  -- the first or the last of a listing, and the leaf at that edge of a tree or of a row
  abbrev edge_of_lem : Edge → Listing A → Option A
  edge_of_lem Low l = first_of l
  edge_of_lem High l = last_of l

  abbrev edge_leaf_lem : Edge → Tree A → Option A
  edge_leaf_lem Low t = least t
  edge_leaf_lem High t = greatest t

  abbrev edge_row : Edge → Row A → Option A
  edge_row Low r = least_row r
  edge_row High r = greatest_row r

  edge_is : (edge : Edge) (t : Tree A) → Good t → edge_leaf_lem edge t ≡ edge_of_lem edge (contents t)
  edge_is Low t g = least_first t g
  edge_is High t g = greatest_last t

  row_is : (edge : Edge) (k n : ℕ) (run : Tag) (r : Row A) → edge_leaf_lem edge (inner k n run r) ≡ edge_row edge r
  row_is Low k n run r = refl
  row_is High k n run r = refl

  -- a good tree has a last leaf
  last_else : (l : Listing A) → Filled l → (o : Option A) → or_else (last_of l) o ≡ last_of l
  last_else [] h o = elim h [ ]
  last_else (e ∷ l) h o = go (last_of l)
    where
      go : (x : Option A) → or_else (or_else x (some e.1)) o ≡ or_else x (some e.1)
      go none = refl
      go (some a) = refl

  greatest_else : (t : Tree A) → Good t → (o : Option A) → or_else (greatest t) o ≡ greatest t
  greatest_else t g o = ap (λ (x : Option A). or_else x o) (greatest_last t) ∙ last_else (contents t) (filled t g) o ∙ sym (greatest_last t)

module _ (f : Frame) (words keys : List ℕ) (rules : (x : Place) → Used (cell_of f words keys x) → rule_at f words keys x ≡ true) where
  -- the child at the edge of a row
  record KidOf (edge : Edge) (ref high : ℕ) (answer : Option Held) : Type 0 where
    tree : Tree Held
    good : Good tree
    path : Tag
    shows : Shows tree path (cell_of f words keys)
    low : height tree ≤ high
    names : place_at ref ≡ root tree
    goes : answer ≡ edge_leaf_lem edge tree

  abbrev Kid : Edge → List (ℕ × ℕ) → Row Held → Type 0
  Kid edge row r = KidOf edge (entry_ref (edge_entry edge row)) (row_height r) (edge_row edge r)

  row_low : (r : Row Held) → 1 ≤ count r → GoodRow r → (q : Tag) → ShowsRow r q (cell_of f words keys) → (row : List (ℕ × ℕ)) → refs r ≡ places row → Kid Low row r
  row_low end n g q h row e = absurd (omega arith)
  row_low (child c t r) n g q h [] e = absurd (let z : ◌≡◌ {A = ℕ} 0 1 = cc in omega arith)
  row_low (child c t r) n g q h (x ∷ row) e =
      record { tree = t; good = g.0; path = q ++ c ∷ []; shows = h.0; low = omega arith; names = sym (ap (λ (y : ℕ × Place). y.1) (head-eq_of_cons-eq e)); goes = refl }

  row_high : (r : Row Held) → 1 ≤ count r → GoodRow r → (q : Tag) → ShowsRow r q (cell_of f words keys) → (row : List (ℕ × ℕ)) → refs r ≡ places row → Kid High row r
  row_high end n g q h row e = absurd (omega arith)
  row_high (child c t r) n g q h [] e = absurd (let z : ◌≡◌ {A = ℕ} 0 1 = cc in omega arith)
  row_high (child c t end) n g q h (x ∷ []) e =
      record { tree = t; good = g.0; path = q ++ c ∷ []; shows = h.0; low = omega arith; names = sym (ap (λ (y : ℕ × Place). y.1) (head-eq_of_cons-eq e)); goes = refl }
  row_high (child c t end) n g q h (x ∷ y ∷ row) e = absurd (let z : ◌≡◌ {A = ℕ} 0 1 = cc in omega arith)
  row_high (child c t (child b u r)) n g q h (x ∷ []) e = absurd (let z : ◌≡◌ {A = ℕ} 0 1 = cc in omega arith)
  row_high (child c t (child b u r)) n g q h (x ∷ y ∷ row) e =
      let k = row_high (child b u r) (omega arith) g.2 q h.1 (y ∷ row) (tail-eq_of_cons-eq e) in
      record {
        tree = k.tree;
        good = k.good;
        path = k.path;
        shows = k.shows;
        low = omega (arith, k.low);
        names = k.names;
        goes = ap (λ (o : Option Held). or_else o (greatest t)) k.goes ∙ greatest_else k.tree k.good (greatest t);
      }

  row_edge : (edge : Edge) (r : Row Held) → 1 ≤ count r → GoodRow r → (q : Tag) → ShowsRow r q (cell_of f words keys) → (row : List (ℕ × ℕ)) → refs r ≡ places row → Kid edge row r
  row_edge Low r n g q h row e = row_low r n g q h row e
  row_edge High r n g q h row e = row_high r n g q h row e

  -- at a leaf
  at_leaf : (edge : Edge) (left n : ℕ) (t : Tag) (a : Held) → cell_of f words keys (leaf_place n) ≡ leaf_cell t a → (ref : ℕ) → place_at ref ≡ leaf_place n
      → edge_of f words keys edge left ref ≡ Ok (record { number = a.number; total = a.total })
  at_leaf edge left n t a h ref e =
      let s = seen_leaf f words keys n t a h in
      edge_end f words keys edge left ref (Ok (record { number = n; total = total_of (record_at f words (leaf_place n)) })) (sym (edge_step_by f words keys edge left ref _ (arrival.at_leaf f words keys rules left ref n t a h e)))
      ∙ (λ j. Ok (record { number = sym s.number_is j; total = sym s.total_is j }))

  -- at an inner record
  at_inner : (edge : Edge) (left k n : ℕ) (p run : Tag) (r : Row Held) → Shows (inner k n run r) p (cell_of f words keys) → (ref : ℕ) → place_at ref ≡ inner_place k n
      → edge_of f words keys edge (suc left) ref ≡ edge_of f words keys edge left (entry_ref (edge_entry edge (row_at f.form k (record_at f words (inner_place k n)))))
  at_inner edge left k n p run r h ref e =
      let rec = record_at f words (inner_place k n) in
      edge_next f words keys edge (suc left) ref (edge_ref edge f.form k rec) (omega arith) (sym (edge_step_by f words keys edge (suc left) ref _ (arrival.at_inner f words keys rules (suc left) ref k n _ _ _ h.0 e (omega arith))))
      ∙ ap₂ (edge_of f words keys edge) (let i : suc left - 1 ≡ left = omega arith in i) (sym (edge_by edge f.form k rec _ refl))

  pub edge_as : (left : ℕ) (edge : Edge) (t : Tree Held) → Good t → (p : Tag) → Shows t p (cell_of f words keys) → height t ≤ left → (ref : ℕ) → place_at ref ≡ root t
      → edge_of f words keys edge left ref ≡ answer_of (edge_leaf_lem edge t)
  edge_as zero Low (leaf n s a) g p h l ref e = at_leaf Low zero n (p ++ s) a h ref e
  edge_as zero High (leaf n s a) g p h l ref e = at_leaf High zero n (p ++ s) a h ref e
  edge_as (suc left) Low (leaf n s a) g p h l ref e = at_leaf Low (suc left) n (p ++ s) a h ref e
  edge_as (suc left) High (leaf n s a) g p h l ref e = at_leaf High (suc left) n (p ++ s) a h ref e
  edge_as zero edge (inner k n run r) g p h l ref e = absurd (omega arith)
  edge_as (suc left) edge (inner k n run r) g p h l ref e =
      let s = seen_inner f words keys k n _ _ _ h.0 in
      let m = row_edge edge r (omega (arith, g.0)) g.1 (p ++ run) h.1 (row_at f.form k (record_at f words (inner_place k n))) s.refs_are in
      at_inner edge left k n p run r h ref e
      ∙ edge_as left edge m.tree m.good m.path m.shows (omega (arith, m.low)) _ m.names
      ∙ sym (ap answer_of (row_is edge k n run r ∙ m.goes))

-- ── minimum and maximum ──
edge_shown : {f : Frame} {words keys : List ℕ} {d : Option (Tree Held)} → Shown f words keys d → (edge : Edge) → edge_leaf words keys edge ≡ answer_of (edge_of_lem edge (held d))
edge_shown {words = words} {keys = keys} {d = none} s Low = root_empty s (λ g. edge_of g words keys Low g.form.limit (root_word words))
edge_shown {words = words} {keys = keys} {d = none} s High = root_empty s (λ g. edge_of g words keys High g.form.limit (root_word words))
edge_shown {f} {words} {keys} {d = some t} s edge =
    root_some s (λ g. edge_of g words keys edge g.form.limit (root_word words))
    ∙ edge_as f words keys s.rules f.form.limit edge t s.good [] (tree_shows s) (few_inner s) (root_word words) s.rooted
    ∙ ap answer_of (edge_is edge t s.good)

-- On every block that shows a directory the minimum is the first of the sorted list, and an empty directory has none.
pub minimum_shown : {f : Frame} {words keys : List ℕ} {d : Option (Tree Held)} → Shown f words keys d → minimum_of words keys ≡ answer_of (first_of (held d))
minimum_shown s = edge_shown s Low

-- The maximum is the last of it.
pub maximum_shown : {f : Frame} {words keys : List ℕ} {d : Option (Tree Held)} → Shown f words keys d → maximum_of words keys ≡ answer_of (last_of (held d))
maximum_shown s = edge_shown s High
