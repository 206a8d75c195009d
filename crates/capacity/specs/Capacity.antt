-- Capacities with which no insert lacks an inner record, and what keeps the smaller ones enough.
use Rattle.std.specs.Prelude.{ℕ, ◌+◌, ◌-◌, ◌/◌, ◌≤◌, ◌<◌, ◌≡◌, List, [], ◌∷◌, length, get_or, Ok}
use Rattle.frames.specs.Kind.{mark_of}
use Rattle.frames.specs.declared.frame.Caps.{Caps}
use Rattle.frames.specs.declared.frame.Frame.{Frame}
use Rattle.records.specs.View.{Held, cell_of}
use Rattle.art.specs.Stores.{inner_place, Cell, unused, leaf_cell, inner_cell}
use Rattle.pools.specs.Start.{start_of}
use Rattle.demands.specs.Calls as calls
use Rattle.demands.specs.Calls.{Call, Slices}
use Rattle.demands.specs.Histories.{Block, Turn, lent, next}

-- how many records a pool has, leaves being kind 5
abbrev pub cap : Frame → ℕ → ℕ
cap f k = get_or f.caps k 0

-- ── on any block ──
-- a record of kind 4 for each branching that c5 tags can have: c5 - 1
abbrev pub Large : Frame → Type 0
Large f = cap f 5 ≤ cap f 4 + 1

-- ── after calls from a start on ──
-- in each kind a record for each branching that can need it: c5 tags have at most c5 - 1, of which (c5 - 1) / m have over m children, and a kind is needed for over its mark
pub record Ample (c1 c2 c3 c4 c5 : ℕ) : Type 0 where
  pub ones : c5 - 1 ≤ c1
  pub twos : (c5 - 1) / mark_of 2 ≤ c2
  pub threes : (c5 - 1) / mark_of 3 ≤ c3
  pub fours : (c5 - 1) / mark_of 4 ≤ c4

-- the capacities that a frame has are such
abbrev pub AmpleFrame : Frame → Type 0
AmpleFrame f = Ample (cap f 1) (cap f 2) (cap f 3) (cap f 4) (cap f 5)

-- those that start is given are such
abbrev pub AmpleCaps : Caps → Type 0
AmpleCaps c = Ample c.c1 c.c2 c.c3 c.c4 c.c5

-- a start that is accepted has such capacities
abbrev pub AmpleCall : Call → Slices → Type 0
AmpleCall (calls.start form c) s = (start_of s.words s.keys form c).answer ≡ Ok tt → AmpleCaps c
AmpleCall (calls.query q) s = Unit {0}
AmpleCall (calls.ask a) s = Unit {0}
AmpleCall (calls.edit e) s = Unit {0}

-- each start among these calls that is accepted, on the block that those before it leave, has such capacities
abbrev pub AmpleStarts : Block → List Turn → Type 0
AmpleStarts b [] = Unit {0}
AmpleStarts b (t ∷ ts) = AmpleCall t.call (lent b t.scratch) × AmpleStarts (next b t) ts

-- of a place for inner records: unused, or a record with over m children
abbrev pub Over : ℕ → Cell Held → Type 0
Over m unused = Unit {0}
Over m (leaf_cell t a) = ⊥
Over m (inner_cell len st rs) = m < length rs

-- every inner record has more children than the next smaller kind holds
abbrev pub Tight : Frame → (words keys : List ℕ) → Type 0
Tight f words keys = (k n : ℕ) → Over (mark_of k) (cell_of f words keys (inner_place k n))
