-- The check's way through a store: a record and its children by turns, each place once, the leaves as the list has them.
use Rattle.std.specs.Prelude.{◌≡◌, Bool, true, false, List, [], ◌∷◌, ◌++◌, ℕ, zero, suc, ◌+◌, length, take, drop}
use Rattle.std.proofs.Math.Logic.{ite}
use Rattle.std.proofs.Math.Option.{Option, none, some}
use Rattle.std.proofs.Math.Decide.{ℕ_discrete}
use Rattle.art.specs.Tags.{Tag, begins_dec, tag_dec}
use Rattle.art.specs.Trees.{Tree, leaf, inner, Row, end, child}
use Rattle.art.specs.Stores.{Place, leaf_place, inner_place, place_dec, Cell, unused, leaf_cell, inner_cell, Store}
use Rattle.art.specs.ReadBack.{first_tag}
use Rattle.art.specs.Members.{In, in_dec}
use Rattle.art.specs.Chain.{leaf_ref}

-- the one, then the other, where both end well
abbrev pub and_then : {X Y : Type 0} → Option X → (X → Option Y) → Option Y
and_then none f = none
and_then (some x) f = f x

-- where the test holds
abbrev pub provided : {X : Type 0} → Bool → X → Option X
provided true x = some x
provided false x = none

-- the places seen, the reference to the leaf seen last, and how many leaves were seen
pub record State : Type 0 where
  pub seen : List Place
  pub prev : ℕ
  pub count : ℕ

-- nothing seen yet
abbrev pub start_state : State
start_state = record { seen = []; prev = 0; count = 0 }

-- the place seen
abbrev pub marked : Place → State → State
marked x s = record { seen = x ∷ s.seen; prev = s.prev; count = s.count }

-- leaf n seen
abbrev pub listed : ℕ → State → State
listed n s = record { seen = s.seen; prev = leaf_ref n; count = s.count + 1 }

-- a place is marked, if it has no mark
abbrev pub mark : Place → State → Option State
mark x s = ite (in_dec place_dec x s.seen) none (some (marked x s))

-- ── the way through a store ──
-- a row's children in turn, each below the path q and its byte
abbrev pub visit_refs : List (ℕ × Place) → Tag → (Tag → Place → State → Option State) → State → Option State
visit_refs [] q go s = some s
visit_refs (e ∷ rs) q go s = and_then (go (q ++ e.0 ∷ []) e.1 s) (λ s'. visit_refs rs q go s')

-- the run is read from the first leaf below
abbrev pub visit_run : ℕ → List ℕ → List (ℕ × Place) → Option Tag → Tag → (Tag → Place → State → Option State) → State → Option State
visit_run len st rs none p go s = none
visit_run len st rs (some t) p go s =
    let run : Tag = take len (drop (length p) t) in
    ite (ℕ_discrete (length run) len) (ite (tag_dec (take 8 run) st) (visit_refs rs (p ++ run) go s) none) none

module _ {A : Type 0} where
  -- the places of a tree
  abbrev mutual
    pub spots : Tree A → List Place
    spots (leaf n s a) = leaf_place n ∷ []
    spots (inner k n run r) = inner_place k n ∷ row_spots r

    -- those below each child of a row, one after the other
    pub row_spots : Row A → List Place
    row_spots end = []
    row_spots (child b t r) = spots t ++ row_spots r

  -- the state after the way through a tree that ended well
  abbrev mutual
    pub passed : Tree A → State → State
    passed (leaf n s a) z = listed n (marked (leaf_place n) z)
    passed (inner k n run r) z = passed_row r (marked (inner_place k n) z)

    -- and after each child of a row, in order
    pub passed_row : Row A → State → State
    passed_row end z = z
    passed_row (child b t r) z = passed_row r (passed t z)

-- link r n: leaf n is the one after the leaf that r refers to in the list, both ways
module _ (link : ℕ → ℕ → Bool) where
  -- leaf n is the next of the list
  abbrev pub enlist : ℕ → State → Option State
  enlist n s = provided (link s.prev n) (listed n s)

  -- these leaves follow the one that r refers to, each the one before it
  abbrev pub InTurn : ℕ → List ℕ → Type 0
  InTurn r [] = Unit {0}
  InTurn r (n ∷ ns) = (link r n ≡ true) × InTurn (leaf_ref n) ns

  module _ {A : Type 0} where
    -- a leaf's tag begins with the path, a record's row is visited below its run; a wrong kind of cell ends the way
    abbrev pub visit_cell : Place → Cell A → Option Tag → Tag → (Tag → Place → State → Option State) → State → Option State
    visit_cell (leaf_place n) unused o p go s = none
    visit_cell (leaf_place n) (leaf_cell t a) o p go s = ite (begins_dec p t) (enlist n s) none
    visit_cell (leaf_place n) (inner_cell len st rs) o p go s = none
    visit_cell (inner_place k n) unused o p go s = none
    visit_cell (inner_place k n) (leaf_cell t a) o p go s = none
    visit_cell (inner_place k n) (inner_cell len st rs) o p go s = visit_run len st rs o p go s

    -- the place x below the path p, with so many records left on the path
    abbrev pub visit : ℕ → Store A → Tag → Place → State → Option State
    visit zero σ p x s = none
    visit (suc f) σ p x s = and_then (mark x s) (λ s'. visit_cell x (σ x) (first_tag (suc f) σ x) p (λ q y s''. visit f σ q y s'') s')

    -- ── the way through a tree ──
    -- each place marked, each leaf the next of the list
    abbrev mutual
      pub pass : Tree A → State → Option State
      pass (leaf n s a) z = and_then (mark (leaf_place n) z) (λ y. enlist n y)
      pass (inner k n run r) z = and_then (mark (inner_place k n) z) (λ y. pass_row r y)

      -- and so for each child of a row, in order
      pub pass_row : Row A → State → Option State
      pass_row end z = some z
      pass_row (child b t r) z = and_then (pass t z) (λ y. pass_row r y)

    -- it ends well: each place is new, and each leaf follows the one seen last
    abbrev mutual
      pub Passes : Tree A → State → Type 0
      Passes (leaf n s a) z = (¬ In (leaf_place n) z.seen) × (link z.prev n ≡ true)
      Passes (inner k n run r) z = (¬ In (inner_place k n) z.seen) × PassesRow r (marked (inner_place k n) z)

      -- and so for a row, each child from the state after those before it
      pub PassesRow : Row A → State → Type 0
      PassesRow end z = Unit {0}
      PassesRow (child b t r) z = Passes t z × PassesRow r (passed t z)
