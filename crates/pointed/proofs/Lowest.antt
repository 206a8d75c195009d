-- From any record of a shown tree the way down by the lowest child ends at the leaf that the mathematics names: both take the first child each time.
use Prim.Native.Nat.{ℕ, zero, suc, ◌+◌, ◌*◌, ◌/◌, ◌≤◌, ◌<◌}
use mathlib.Core.Path.{◌≡◌, refl, sym, ap, ◌∙◌}
use mathlib.Core.List.{List, [], ◌∷◌, ◌++◌, append_assoc}
use mathlib.Core.Option.{Option, some}
use mathlib.Core.Bool.{true}
use native.Mathlib.Omega.{arith}
use Rattle.std.specs.Prelude.{Ok}
use lib.ListN.{get_or, take}
use Rattle.frames.specs.Place.{place_at, record_at, key_at}
use Rattle.frames.specs.declared.frame.Frame.{Frame}
use Rattle.records.specs.View.{Held, cell_of, rule_at}
use Rattle.tree.specs.declared.minmax.Edge.TheVariants.{Low}
use Rattle.tree.specs.Seen.{tag_at}
use Rattle.points.specs.Point.{lowest_of}
use Rattle.art.specs.Tags.{Tag}
use Rattle.art.specs.Trees.{Tree, leaf, inner, Row, end, child, Good, GoodRow}
use Rattle.art.specs.Drawings.{Some}
use Rattle.art.specs.Facts.{height, row_height}
use Rattle.art.specs.Orders.{least, least_row}
use Rattle.art.specs.Stores.{Place, cell_tag, leaf_place, inner_place, Cell, leaf_cell, Used, root, refs}
use Rattle.art.specs.Points.{cell_refs, store_tag, lowest_refs, lowest_leaf}
use Rattle.art.specs.Walks.{Shows, ShowsRow}
use Rattle.art.proofs.Drawings.{many_some}
use Rattle.view.proofs.Seen.{seen_leaf}
use Rattle.reading.specs.Answers.{answer_of}
use Rattle.reading.proofs.Edges.{edge_as}

-- the tag that the code reads from a leaf is the one that the view shows
pub tag_seen : (f : Frame) (words keys : List ℕ) (ref n : ℕ) (t : Tag) (a : Held) → cell_of f words keys (leaf_place n) ≡ leaf_cell t a → ref / 8 ≡ n → tag_at f words keys ref ≡ t
unfolding tag_at
tag_seen f words keys ref n t a h e =
    ap (λ (m : ℕ). take (get_or (record_at f words (leaf_place m)) 1 0) (key_at f keys m)) e ∙ sym (seen_leaf f words keys n t a h).tag_is

module _ (f : Frame) (words keys : List ℕ) where
  -- a leaf that is the first of what is held, and the one that the mathematics finds; its tag goes on past the path
  record FirstOf (least-is : Option Held) (found : Option ℕ) (p : Tag) : Type 0 where
    pub held : Held
    pub rest : Tag
    pub least : least-is ≡ some held
    pub lowest : found ≡ some held.number
    pub shows : cell_of f words keys (leaf_place held.number) ≡ leaf_cell (p ++ rest) held

  mutual
    first_below : (t : Tree Held) → Good t → (p : Tag) → Shows t p (cell_of f words keys) → (m : ℕ) → height t < m → FirstOf (least t) (lowest_leaf m (cell_of f words keys) (root t)) p
    first_below (leaf n s a) g p h zero l = absurd (omega arith)
    first_below (leaf n s a) g p h (suc m) l =
        let e : n ≡ a.number = sym (seen_leaf f words keys n (p ++ s) a h).number_is in
        record { held = a; rest = s; least = refl; lowest = ap some e; shows = ap (λ (i : ℕ). cell_of f words keys (leaf_place i)) (sym e) ∙ h }
    first_below (inner k n run r) g p h zero l = absurd (omega arith)
    first_below (inner k n run r) g p h (suc m) l =
        let w = first_row r g.1 (many_some r g.0) (p ++ run) h.1 m (omega arith) in
        record {
          held = w.held;
          rest = run ++ w.rest;
          least = w.least;
          lowest = ap (λ (c : Cell Held). lowest_refs (cell_refs c) (λ y. lowest_leaf m (cell_of f words keys) y)) h.0 ∙ w.lowest;
          shows = w.shows ∙ ap (λ (t : Tag). leaf_cell t w.held) (append_assoc p run w.rest);
        }

    first_row : (r : Row Held) → GoodRow r → Some r → (q : Tag) → ShowsRow r q (cell_of f words keys) → (m : ℕ) → row_height r < m
        → FirstOf (least_row r) (lowest_refs (refs r) (λ y. lowest_leaf m (cell_of f words keys) y)) q
    first_row end g so q h m l = elim so [ ]
    first_row (child b t r) g so q h m l =
        let w = first_below t g.0 (q ++ b ∷ []) h.0 m (omega arith) in
        record { held = w.held; rest = b ∷ w.rest; least = w.least; lowest = w.lowest; shows = w.shows ∙ ap (λ (t : Tag). leaf_cell t w.held) (append_assoc q (b ∷ []) w.rest) }

  -- the first leaf below a record, which the code finds and the mathematics names; its tag goes on past q
  pub record LowestOf (ref m : ℕ) (x : Place) (q : Tag) : Type 0 where
    pub number : ℕ
    pub total : ℕ
    pub rest : Tag
    pub found : lowest_of f words keys ref ≡ Ok (record { number = number; total = total })
    pub named : lowest_leaf m (cell_of f words keys) x ≡ some number
    pub tag : store_tag (cell_of f words keys) number ≡ q ++ rest
    pub read : tag_at f words keys (number * 8 + 5) ≡ store_tag (cell_of f words keys) number

  -- below an inner record of a shown tree, with the path and the record's run before it
  pub lowest_below : ((x : Place) → Used (cell_of f words keys x) → rule_at f words keys x ≡ true) → (k n : ℕ) (run : Tag) (r : Row Held) → Good (inner k n run r) → (p : Tag)
      → Shows (inner k n run r) p (cell_of f words keys) → height (inner k n run r) ≤ f.form.limit → (m : ℕ) → height (inner k n run r) < m → (ref : ℕ) → place_at ref ≡ inner_place k n
      → LowestOf ref m (inner_place k n) (p ++ run)
  lowest_below rules k n run r g p h few zero l ref e = absurd (omega arith)
  lowest_below rules k n run r g p h few (suc m) l ref e =
      let w = first_row r g.1 (many_some r g.0) (p ++ run) h.1 m (omega arith) in
      let i = w.held.number in
      let at : store_tag (cell_of f words keys) i ≡ p ++ run ++ w.rest = ap cell_tag w.shows in
      record {
        number = i;
        total = w.held.total;
        rest = w.rest;
        found = edge_as f words keys rules f.form.limit Low (inner k n run r) g p h few ref e ∙ ap answer_of w.least;
        named = ap (λ (c : Cell Held). lowest_refs (cell_refs c) (λ y. lowest_leaf m (cell_of f words keys) y)) h.0 ∙ w.lowest;
        tag = at;
        read = tag_seen f words keys (i * 8 + 5) i (p ++ run ++ w.rest) w.held w.shows (omega arith) ∙ sym at;
      }
