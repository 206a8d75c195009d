-- The way through a store is the way through the tree that is read from it.
use mathlib.Core.Path.{◌≡◌, refl, sym, ap, ◌∙◌, fun_ext}
use mathlib.Core.Logic.{ite}
use mathlib.Core.Bool.{Bool}
use mathlib.Core.Option.{Option, none, some}
use mathlib.Core.List.{List, [], ◌∷◌, ◌++◌}
use Prim.Native.Nat.{ℕ, zero, suc}
use native.Mathlib.Decide.{ℕ_discrete}
use lib.ListN.{length, take, drop}
use Rattle.art.specs.Tags.{Tag, Begins, begins_dec, tag_dec}
use Rattle.art.specs.Trees.{Tree, leaf, inner}
use Rattle.art.specs.Stores.{Place, leaf_place, inner_place, Cell, unused, leaf_cell, inner_cell, Store, root}
use Rattle.art.specs.ReadBack.{Seen, SeenRow, join_seen, read_refs, read_leaf, read_inner, read_run, read_cell, read, first_tag, tree_of, row_of}
use Rattle.art.specs.Visit.{and_then, State, mark, enlist, visit_refs, visit_run, visit_cell, visit, pass, pass_row}

and_then_none : {X Y : Type 0} (o : Option X) → and_then {Y = Y} o (λ x. none) ≡ none
and_then_none none = refl
and_then_none (some x) = refl

exchange : {X Y Z : Type 0} (o : Option X) (w : Option Y) (h : X → Y → Option Z) → and_then o (λ x. and_then w (h x)) ≡ and_then w (λ y. and_then o (λ x. h x y))
exchange none none h = refl
exchange none (some y) h = refl
exchange (some x) none h = refl
exchange (some x) (some y) h = refl

abbrev Go : Type 0
Go = Tag → Place → State → Option State

module _ (link : ℕ → ℕ → Bool) {A : Type 0} where
  -- what is left once the place has its mark
  abbrev inside : Tree A → State → Option State
  inside (leaf n s a) z = enlist link n z
  inside (inner k n run r) z = pass_row link r z

  pass_inside : (x : Place) (t : Tree A) → root t ≡ x → (z : State) → and_then (mark x z) (λ y. inside t y) ≡ pass link t z
  pass_inside x (leaf n s a) e z = sym (ap (λ (y : Place). and_then (mark y z) (λ y. enlist link n y)) e)
  pass_inside x (inner k n run r) e z = sym (ap (λ (y : Place). and_then (mark y z) (λ y. pass_row link r y)) e)

  abbrev Fused : (σ : Store A) → Go → ((p : Tag) (x : Place) → Option (Seen σ p x)) → Type 0
  Fused σ go rec = (q : Tag) (y : Place) (z : State) → go q y z ≡ and_then (tree_of (rec q y)) (λ t. pass link t z)

  fuse_join : (σ : Store A) (q : Tag) (b : ℕ) (y : Place) (rs : List (ℕ × Place)) (o : Option (Seen σ (q ++ b ∷ []) y)) (w : Option (SeenRow σ q rs)) (z : State)
      → and_then (and_then (tree_of o) (λ t. pass link t z)) (λ z'. and_then (row_of w) (λ r. pass_row link r z')) ≡ and_then (row_of (join_seen σ q b y rs o w)) (λ r. pass_row link r z)
  fuse_join σ q b y rs none w z = refl
  fuse_join σ q b y rs (some t) none z = and_then_none (pass link t.0 z)
  fuse_join σ q b y rs (some t) (some r) z = refl

  fuse_refs : (σ : Store A) (go : Go) (rec : (p : Tag) (x : Place) → Option (Seen σ p x)) → Fused σ go rec → (rs : List (ℕ × Place)) (q : Tag) (z : State)
      → visit_refs rs q go z ≡ and_then (row_of (read_refs σ rec q rs)) (λ r. pass_row link r z)
  fuse_refs σ go rec h [] q z = refl
  fuse_refs σ go rec h (e ∷ rs) q z =
      ap (λ (o : Option State). and_then o (λ z'. visit_refs rs q go z')) (h (q ++ e.0 ∷ []) e.1 z)
      ∙ ap (and_then (and_then (tree_of (rec (q ++ e.0 ∷ []) e.1)) (λ t. pass link t z))) (fun_ext (λ z'. fuse_refs σ go rec h rs q z'))
      ∙ fuse_join σ q e.0 e.1 rs (rec (q ++ e.0 ∷ []) e.1) (read_refs σ rec q rs) z

  fuse_leaf : (σ : Store A) (p : Tag) (n : ℕ) (t : Tag) (a : A) (e : σ (leaf_place n) ≡ leaf_cell t a) (d : Dec (Begins p t)) (z : State)
      → ite d (enlist link n z) none ≡ and_then (tree_of (read_leaf σ p n t a e d)) (λ t. inside t z)
  fuse_leaf σ p n t a e (yes b) z = refl
  fuse_leaf σ p n t a e (no b) z = refl

  fuse_inner : (σ : Store A) (p : Tag) (k n len : ℕ) (st : List ℕ) (rs : List (ℕ × Place)) (e : σ (inner_place k n) ≡ inner_cell len st rs) (run : Tag)
      (d : Dec (length run ≡ len)) (d' : Dec (take 8 run ≡ st)) (w : Option (SeenRow σ (p ++ run) rs)) (z : State)
      → ite d (ite d' (and_then (row_of w) (λ r. pass_row link r z)) none) none ≡ and_then (tree_of (read_inner σ p k n len st rs e run d d' w)) (λ t. inside t z)
  fuse_inner σ p k n len st rs e run (yes i) (yes j) (some r) z = refl
  fuse_inner σ p k n len st rs e run (yes i) (yes j) none z = refl
  fuse_inner σ p k n len st rs e run (yes i) (no j) w z = refl
  fuse_inner σ p k n len st rs e run (no i) d' w z = refl

  fuse_run : (σ : Store A) (go : Go) (rec : (p : Tag) (x : Place) → Option (Seen σ p x)) → Fused σ go rec → (p : Tag) (k n len : ℕ) (st : List ℕ) (rs : List (ℕ × Place))
      (e : σ (inner_place k n) ≡ inner_cell len st rs) (o : Option Tag) (z : State)
      → visit_run len st rs o p go z ≡ and_then (tree_of (read_run σ rec p k n len st rs e o)) (λ t. inside t z)
  fuse_run σ go rec h p k n len st rs e none z = refl
  fuse_run σ go rec h p k n len st rs e (some t) z =
      let run : Tag = take len (drop (length p) t) in
      ap (λ (o : Option State). ite (ℕ_discrete (length run) len) (ite (tag_dec (take 8 run) st) o none) none) (fuse_refs σ go rec h rs (p ++ run) z)
      ∙ fuse_inner σ p k n len st rs e run (ℕ_discrete (length run) len) (tag_dec (take 8 run) st) (read_refs σ rec (p ++ run) rs) z

  fuse_cell : (σ : Store A) (go : Go) (rec : (p : Tag) (x : Place) → Option (Seen σ p x)) → Fused σ go rec → (o : Option Tag) (p : Tag) (x : Place) (c : Cell A) (e : σ x ≡ c) (z : State)
      → visit_cell link x c o p go z ≡ and_then (tree_of (read_cell σ rec o p x c e)) (λ t. inside t z)
  fuse_cell σ go rec h o p (leaf_place n) unused e z = refl
  fuse_cell σ go rec h o p (leaf_place n) (leaf_cell t a) e z = fuse_leaf σ p n t a e (begins_dec p t) z
  fuse_cell σ go rec h o p (leaf_place n) (inner_cell len st rs) e z = refl
  fuse_cell σ go rec h o p (inner_place k n) unused e z = refl
  fuse_cell σ go rec h o p (inner_place k n) (leaf_cell t a) e z = refl
  fuse_cell σ go rec h o p (inner_place k n) (inner_cell len st rs) e z = fuse_run σ go rec h p k n len st rs e o z

  fuse_root : (σ : Store A) (p : Tag) (x : Place) (w : Option (Seen σ p x)) (z : State)
      → and_then (tree_of w) (λ t. and_then (mark x z) (λ y. inside t y)) ≡ and_then (tree_of w) (λ t. pass link t z)
  fuse_root σ p x none z = refl
  fuse_root σ p x (some t) z = pass_inside x t.0 t.2 z

  -- the way through a store is the reading of a tree from it, then the way through the tree
  pub fuse : (f : ℕ) (σ : Store A) (p : Tag) (x : Place) (z : State) → visit link f σ p x z ≡ and_then (tree_of (read f σ p x)) (λ t. pass link t z)
  fuse zero σ p x z = refl
  fuse (suc f) σ p x z =
      let w : Option (Seen σ p x) = read (suc f) σ p x in
      ap (and_then (mark x z)) (fun_ext (λ z'. fuse_cell σ (λ q y s. visit link f σ q y s) (λ q y. read f σ q y) (λ q y s. fuse f σ q y s) (first_tag (suc f) σ x) p x (σ x) refl z'))
      ∙ exchange (mark x z) (tree_of w) (λ z' t. inside t z')
      ∙ fuse_root σ p x w z
