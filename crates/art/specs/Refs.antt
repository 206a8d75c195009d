-- A record's row as bytes with places, and the changes to it: the child for a byte, another place for it, one more, two at first, one less.
use Rattle.std.proofs.Math.Logic.{ite}
use Rattle.std.proofs.Math.Option.{Option, none, some}
use Rattle.std.specs.Prelude.{List, [], ◌∷◌, ℕ}
use Rattle.std.proofs.Math.Decide.{ℕ_discrete}
use Rattle.art.specs.Tags.{Order, order, below, equal, above}
use Rattle.art.specs.Stores.{Place, place_dec, Cell, unused, leaf_cell, inner_cell, Edits}

-- bytes ascending, each with the place of its child
abbrev pub Refs : Type 0
Refs = List (ℕ × Place)

-- the place of the child for b
abbrev pub find_ref : Refs → ℕ → Option Place
find_ref [] b = none
find_ref (e ∷ rs) b = ite (ℕ_discrete b e.0) (some e.1) (find_ref rs b)

-- the child for b is at y
abbrev pub re_ref : Refs → ℕ → Place → Refs
re_ref [] b y = []
re_ref (e ∷ rs) b y = ite (ℕ_discrete b e.0) ((e.0, y) ∷ rs) (e ∷ re_ref rs b y)

-- a child for b where there was none, in byte order
abbrev pub add_ref_by : (b : ℕ) (y : Place) (e : ℕ × Place) → Order b e.0 → Refs → Refs → Refs
add_ref_by b y e (below h) rs more = (b, y) ∷ e ∷ rs
add_ref_by b y e (equal h) rs more = e ∷ rs
add_ref_by b y e (above h) rs more = e ∷ more

-- by the order of b and the first byte; a child for b that is there stays
abbrev pub add_ref : ℕ → Place → Refs → Refs
add_ref b y [] = (b, y) ∷ []
add_ref b y (e ∷ rs) = add_ref_by b y e (order b e.0) rs (add_ref b y rs)

-- a row of two, in byte order
abbrev pub pair_ref_by : (x y : ℕ) → Order x y → Place → Place → Refs
pair_ref_by x y (below h) t u = (x, t) ∷ (y, u) ∷ []
pair_ref_by x y (equal h) t u = (x, t) ∷ []
pair_ref_by x y (above h) t u = (y, u) ∷ (x, t) ∷ []

-- the two children x and y, by the order of their bytes
abbrev pub pair_ref : ℕ → Place → ℕ → Place → Refs
pair_ref x t y u = pair_ref_by x y (order x y) t u

-- without the child for b
abbrev pub cut_ref : ℕ → Refs → Refs
cut_ref b [] = []
cut_ref b (e ∷ rs) = ite (ℕ_discrete b e.0) rs (e ∷ cut_ref b rs)

module _ {A : Type 0} where
  -- the cell with another place for its child for x
  abbrev pub re_cell : Cell A → ℕ → Place → Cell A
  re_cell unused x y = unused
  re_cell (leaf_cell t a) x y = leaf_cell t a
  re_cell (inner_cell len st rs) x y = inner_cell len st (re_ref rs x y)

  -- a record is written again only where its child for x has moved
  abbrev pub relink : Place → Cell A → ℕ → Place → Place → Edits A
  relink here c x old new = ite (place_dec old new) [] ((here, re_cell c x new) ∷ [])
