-- What a sound block asks of its tags, on what the records show: each tag below a record has every byte of its run, those that are not stored too, and each child byte.
use Rattle.std.specs.Prelude.{◌≡◌, List, [], ◌∷◌, ◌++◌, ℕ, suc, ◌≤◌, ◌<◌, length, take}
use Rattle.std.proofs.Math.Option.{Option, none, some}
use Rattle.art.specs.Tags.{Tag, Listing, Begins}
use Rattle.art.specs.Trees.{Tree, Row, Good, GoodRow}
use Rattle.art.specs.Nodes.{Node, leaf_node, inner_node, NodeRow, end_node, child_node, show, show_row}
use Rattle.art.specs.Stores.{Place, leaf_place, inner_place, leaf_cell, inner_cell, Store}
use Rattle.art.specs.Drawings.{Drawing, one, branch, Kids, done, kid}

module _ {A : Type 0} where
  -- how many children
  abbrev pub node_count : NodeRow A → ℕ
  node_count end_node = 0
  node_count (child_node b t r) = suc (node_count r)

  -- every byte of the row is above b
  abbrev pub NodeAbove : ℕ → NodeRow A → Type 0
  NodeAbove b end_node = Unit {0}
  NodeAbove b (child_node c t r) = (b < c) × NodeAbove b r

  -- below the path p: a leaf's tag begins with it; a record has a run of its length, with its stored bytes first, two children or more, and a row that agrees below path and run
  abbrev mutual
    pub Agrees : Node A → Tag → Type 0
    Agrees (leaf_node n t a) p = Begins p t
    Agrees (inner_node k n len st r) p = (run : Tag) × (length run ≡ len) × (take 8 run ≡ st) × (2 ≤ node_count r) × AgreesRow r (p ++ run)

    -- each child agrees below the path and its byte, and the bytes ascend
    pub AgreesRow : NodeRow A → Tag → Type 0
    AgreesRow end_node q = Unit {0}
    AgreesRow (child_node b t r) q = Agrees t (q ++ b ∷ []) × NodeAbove b r × AgreesRow r q

  -- the node is what is shown of a good tree below the path p
  abbrev pub OfTree : Node A → Tag → Type 0
  OfTree node p = (t : Tree A) × Good t × (show p t ≡ node)

  -- and so for a row, of a good row below the path q
  abbrev pub OfRow : NodeRow A → Tag → Type 0
  OfRow row q = (r : Row A) × GoodRow r × (show_row q r ≡ row)

  -- ── the nodes of a store ──
  -- the place of a node's record
  abbrev pub node_place : Node A → Place
  node_place (leaf_node n t a) = leaf_place n
  node_place (inner_node k n len st r) = inner_place k n

  -- the bytes of a row with the places of its children
  abbrev pub node_refs : NodeRow A → List (ℕ × Place)
  node_refs end_node = []
  node_refs (child_node b t r) = (b, node_place t) ∷ node_refs r

  -- the store's cells, from a node's place on, are those of the node and of the nodes below it
  abbrev mutual
    pub ShowsNode : Node A → Store A → Type 0
    ShowsNode (leaf_node n t a) σ = σ (leaf_place n) ≡ leaf_cell t a
    ShowsNode (inner_node k n len st r) σ = (σ (inner_place k n) ≡ inner_cell len st (node_refs r)) × ShowsNodes r σ

    -- and so for each child of a row
    pub ShowsNodes : NodeRow A → Store A → Type 0
    ShowsNodes end_node σ = Unit {0}
    ShowsNodes (child_node b t r) σ = ShowsNode t σ × ShowsNodes r σ

  -- where there is a tree, the store's records show it from its root on, and each tag below a record agrees
  abbrev pub AgreesFrom : Store A → Option (Tree A) → Type 0
  AgreesFrom σ none = Unit {0}
  AgreesFrom σ (some t) = ShowsNode (show [] t) σ × Agrees (show [] t) []

  -- ── what the records hold and draw ──
  -- the leaves in order, with their whole tags
  abbrev mutual
    pub node_contents : Node A → Listing A
    node_contents (leaf_node n t a) = (t, a) ∷ []
    node_contents (inner_node k n len st r) = node_row_contents r

    -- those below each child of a row, one after the other
    pub node_row_contents : NodeRow A → Listing A
    node_row_contents end_node = []
    node_row_contents (child_node b t r) = node_contents t ++ node_row_contents r

  -- what the records draw
  abbrev mutual
    pub node_sketch : Node A → Drawing A
    node_sketch (leaf_node n t a) = one t a
    node_sketch (inner_node k n len st r) = branch len st (node_row_sketch r)

    -- and so for each child of a row, with its byte
    pub node_row_sketch : NodeRow A → Kids A
    node_row_sketch end_node = done
    node_row_sketch (child_node b t r) = kid b (node_sketch t) (node_row_sketch r)
