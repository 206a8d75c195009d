-- What the records show behaves as a sorted list and draws its tags, where each tag has all bytes of the runs and child bytes above it, stored or not.
use mathlib.Core.Path.{◌≡◌, refl, sym, ap, ap₂, subst, ◌∙◌, fun_ext}
use mathlib.Core.Option.{Option, none, some}
use mathlib.Core.List.{List, [], ◌∷◌, ◌++◌}
use Prim.Native.Nat.{ℕ, suc}
use mathlib.Core.Bool.{false}
use lib.ListN.{length, take}
use Rattle.art.specs.Tags.{Tag, Listing, Aim}
use Rattle.art.proofs.Listings.{under_append, under_under, under_nil}
use Rattle.art.specs.Listings.{Sorted, under, find}
use Rattle.art.proofs.Trees.{sorted}
use Rattle.art.specs.Trees.{Tree, leaf, inner, Row, end, child, contents, row_contents, Good, GoodRow, Above, count}
use Rattle.art.proofs.Nodes.{walk_is_find}
use Rattle.art.specs.Nodes.{Node, leaf_node, inner_node, NodeRow, end_node, child_node, show, show_row, walk}
use Rattle.art.specs.Agree.{node_count, NodeAbove, Agrees, AgreesRow, OfTree, OfRow, node_place, node_refs, ShowsNode, ShowsNodes, AgreesFrom, node_contents, node_row_contents, node_sketch, node_row_sketch}
use Rattle.art.specs.Deletes.{Sane}
use Rattle.art.specs.Calls.{OnceOf}
use Rattle.art.specs.Points.{store_of}
use Rattle.art.specs.Stores.{Place, inner_cell, Store, root, refs}
use Rattle.art.specs.Walks.{Shows, ShowsRow}
use Rattle.art.proofs.Walks.{store_shows}
use Rattle.art.proofs.Drawings.{sketch_is_draw}
use Rattle.art.specs.Drawings.{branch, kid, sketch, sketch_row, draw}

module _ {A : Type 0} where
  -- ── a node agrees exactly where it shows a good tree ──
  seen_count : (q : Tag) (r : Row A) → node_count (show_row q r) ≡ count r
  seen_count q end = refl
  seen_count q (child b t r) = ap suc (seen_count q r)

  seen_above : (q : Tag) (b : ℕ) (r : Row A) → NodeAbove b (show_row q r) → Above b r
  seen_above q b end h = tt
  seen_above q b (child c t r) h = (h.0, seen_above q b r h.1)

  above_seen : (q : Tag) (b : ℕ) (r : Row A) → Above b r → NodeAbove b (show_row q r)
  above_seen q b end h = tt
  above_seen q b (child c t r) h = (h.0, above_seen q b r h.1)

  mutual
    -- a record where every tag below agrees shows a good tree
    pub agrees_seen : (node : Node A) (p : Tag) → Agrees node p → OfTree node p
    agrees_seen (leaf_node n t a) p h = (leaf n h.0 a, tt, ap (λ (x : Tag). leaf_node n x a) (sym h.1))
    agrees_seen (inner_node k n len st r) p h =
        let s = agrees_row_seen r (p ++ h.0) h.4 in (
          inner k n h.0 s.0,
          (rw (← seen_count (p ++ h.0) s.0) (rw s.2 h.3), s.1),
          λ i. inner_node k n (h.1 i) (h.2 i) (s.2 i),
        )

    -- and so for the row of a record
    pub agrees_row_seen : (row : NodeRow A) (q : Tag) → AgreesRow row q → OfRow row q
    agrees_row_seen end_node q h = (end, tt, refl)
    agrees_row_seen (child_node b t r) q h =
        let u = agrees_seen t (q ++ b ∷ []) h.0 in
        let s = agrees_row_seen r q h.2 in
        (child b u.0 s.0, (u.1, seen_above q b s.0 (rw s.2 h.1), s.1), λ i. child_node b (u.2 i) (s.2 i))

  mutual
    -- in what a good tree shows every tag agrees
    pub seen_agrees : (t : Tree A) (p : Tag) → Good t → Agrees (show p t) p
    seen_agrees (leaf n s a) p g = (s, refl)
    seen_agrees (inner k n run r) p g = (run, refl, refl, rw (seen_count (p ++ run) r) g.0, seen_agrees_row r (p ++ run) g.1)

    -- and so for a row
    pub seen_agrees_row : (r : Row A) (q : Tag) → GoodRow r → AgreesRow (show_row q r) q
    seen_agrees_row end q g = tt
    seen_agrees_row (child b t r) q g = (seen_agrees t (q ++ b ∷ []) g.0, above_seen q b r g.1, seen_agrees_row r q g.2)

  -- ── the records of a store ──
  show_place : (p : Tag) (t : Tree A) → node_place (show p t) ≡ root t
  show_place p (leaf n s a) = refl
  show_place p (inner k n run r) = refl

  show_refs : (q : Tag) (r : Row A) → node_refs (show_row q r) ≡ refs r
  show_refs q end = refl
  show_refs q (child b t r) = ap₂ (λ (x : Place) (l : List (ℕ × Place)). (b, x) ∷ l) (show_place (q ++ b ∷ []) t) (show_refs q r)

  mutual
    shows_node : (t : Tree A) (p : Tag) (σ : Store A) → Shows t p σ → ShowsNode (show p t) σ
    shows_node (leaf n s a) p σ h = h
    shows_node (inner k n run r) p σ h = (h.0 ∙ ap (inner_cell (length run) (take 8 run)) (sym (show_refs (p ++ run) r)), shows_nodes r (p ++ run) σ h.1)

    shows_nodes : (r : Row A) (q : Tag) (σ : Store A) → ShowsRow r q σ → ShowsNodes (show_row q r) σ
    shows_nodes end q σ h = tt
    shows_nodes (child b t r) q σ h = (shows_node t (q ++ b ∷ []) σ h.0, shows_nodes r q σ h.1)

  -- the records of a store that is a good tree's, no place twice, show that tree, and every tag below them agrees
  pub store_agrees : (σ : Store A) (d : Option (Tree A)) → Sane d → OnceOf d → ((x : Place) → σ x ≡ store_of d x) → AgreesFrom σ d
  store_agrees σ none g o h = tt
  store_agrees σ (some t) g o h = (shows_node t [] σ (subst (λ (τ : Store A). Shows t [] τ) (sym (fun_ext h)) (store_shows t [] o)), seen_agrees t [] g)

  mutual
    show_contents : (t : Tree A) (p : Tag) → node_contents (show p t) ≡ under p (contents t)
    show_contents (leaf n s a) p = refl
    show_contents (inner k n run r) p = show_row_contents r (p ++ run) ∙ sym (under_under p run (row_contents r))

    show_row_contents : (r : Row A) (q : Tag) → node_row_contents (show_row q r) ≡ under q (row_contents r)
    show_row_contents end q = refl
    show_row_contents (child b t r) q =
        ap₂ (λ (l m : Listing A). l ++ m) (show_contents t (q ++ b ∷ []) ∙ sym (under_under q (b ∷ []) (contents t))) (show_row_contents r q) ∙ sym (under_append q (under (b ∷ []) (contents t)) (row_contents r))

  mutual
    show_sketch : (t : Tree A) (p : Tag) → node_sketch (show p t) ≡ sketch p t
    show_sketch (leaf n s a) p = refl
    show_sketch (inner k n run r) p = ap (branch (length run) (take 8 run)) (show_row_sketch r (p ++ run))

    show_row_sketch : (r : Row A) (q : Tag) → node_row_sketch (show_row q r) ≡ sketch_row q r
    show_row_sketch end q = refl
    show_row_sketch (child b t r) q = ap₂ (kid b) (show_sketch t (q ++ b ∷ [])) (show_row_sketch r q)

  root_contents : (t : Tree A) → node_contents (show [] t) ≡ contents t
  root_contents t = show_contents t [] ∙ under_nil (contents t)

  -- ── the theorems on what the records show ──
  -- the tags that such records show are sorted, and none begins another
  pub agrees_sorted : (node : Node A) → Agrees node [] → Sorted (node_contents node)
  agrees_sorted node h = let s = agrees_seen node [] h in rw (← s.2) (rw (root_contents s.0) (sorted s.0 s.1))

  -- the walk over such records finds what the listing of them holds
  pub agrees_find : (node : Node A) → Agrees node [] → (m : Aim) (s : Tag) → walk node m 0 false s ≡ find m s (node_contents node)
  agrees_find node h m s = let t = agrees_seen node [] h in rw (← t.2) (rw (root_contents t.0) (walk_is_find t.0 t.1 m s))

  -- such records draw what the tags alone draw
  pub agrees_draw : (node : Node A) → Agrees node [] → node_sketch node ≡ draw (node_contents node)
  agrees_draw node h = let t = agrees_seen node [] h in rw (← t.2) (rw (root_contents t.0) (show_sketch t.0 [] ∙ sketch_is_draw t.0 t.1))
