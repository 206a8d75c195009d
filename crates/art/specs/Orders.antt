-- The first, the last, and the first at or after a tag.
use Rattle.std.proofs.Math.Logic.{ite}
use Rattle.std.proofs.Math.Option.{Option, none, some}
use Rattle.std.specs.Prelude.{[], ◌∷◌, ℕ}
use Rattle.art.specs.Tags.{Tag, Listing, Order, order, below, equal, above}
use Rattle.art.specs.Trees.{Tree, leaf, inner, Row, end, child}
use Rattle.art.specs.Puts.{less_dec}
use Rattle.art.specs.Changes.{Meet, same, short, long, part, meet}

module _ {A : Type 0} where
  -- the first, or the second where there is none
  abbrev pub or_else : Option A → Option A → Option A
  or_else none o = o
  or_else (some a) o = some a

  -- what the first tag holds
  abbrev pub first_of : Listing A → Option A
  first_of [] = none
  first_of (e ∷ l) = some e.1

  -- what the last tag holds
  abbrev pub last_of : Listing A → Option A
  last_of [] = none
  last_of (e ∷ l) = or_else (last_of l) (some e.1)

  -- ── minimum and maximum ──
  -- the minimum: always the first child
  abbrev mutual
    pub least : Tree A → Option A
    least (leaf n s a) = some a
    least (inner k n run r) = least_row r

    -- of a row, that of its first child
    pub least_row : Row A → Option A
    least_row end = none
    least_row (child b t r) = least t

  -- the maximum: always the last child
  abbrev mutual
    pub greatest : Tree A → Option A
    greatest (leaf n s a) = some a
    greatest (inner k n run r) = greatest_row r

    -- of a row, that of its last child that has one
    pub greatest_row : Row A → Option A
    greatest_row end = none
    greatest_row (child b t r) = or_else (greatest_row r) (greatest t)

  -- ── at or after ──
  -- what the first tag at or after s holds
  abbrev pub after : Tag → Listing A → Option A
  after s [] = none
  after s (e ∷ l) = ite (less_dec e.0 s) (after s l) (some e.1)

  -- where s parts from the run: all of the record is after it, or nothing
  abbrev pub from_fork : (x y : ℕ) → Order x y → Option A → Option A
  from_fork x y (below h) o = o
  from_fork x y (equal e) o = none
  from_fork x y (above h) o = none

  -- where s ends within the run or with it all of the record is after it
  abbrev pub from_inner : (s run : Tag) → Meet s run → Option A → (ℕ → Tag → Option A) → Option A
  from_inner s run (same e) o rec = o
  from_inner s run (short y v e) o rec = o
  from_inner s run (long x u e) o rec = rec x u
  from_inner s run (part c x u y v i j ne) o rec = from_fork x y (order x y) o

  -- by the byte: all from this child on; this child's, or the next; or further on
  abbrev pub from_child : (x c : ℕ) → Order x c → Option A → Option A → Option A → Option A → Option A
  from_child x c (below h) here below-here next further = here
  from_child x c (equal e) here below-here next further = or_else below-here next
  from_child x c (above h) here below-here next further = further

  -- the first at or after s, by a walk over the tree
  abbrev mutual
    pub from : Tree A → Tag → Option A
    from (leaf n rest a) s = ite (less_dec rest s) none (some a)
    from (inner k n run r) s = from_inner s run (meet s run) (least_row r) (λ x u. from_row r x u)

    -- in a row, by the order of x and each byte
    pub from_row : Row A → ℕ → Tag → Option A
    from_row end x u = none
    from_row (child c t r) x u = from_child x c (order x c) (least t) (from t u) (least_row r) (from_row r x u)
