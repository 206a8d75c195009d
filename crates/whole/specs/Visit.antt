-- The check's way, a record and its children by turns, with the marks as it leaves them.
use Rattle.std.specs.declared.ops.ControlFlow.{ControlFlow}
use Rattle.std.specs.Prelude.{ℕ, zero, suc, ◌+◌, ◌-◌, ◌*◌, ◌≤◌, List, [], ◌∷◌, ◌&&◌, eqb, leb, Some, None, Option}
use Rattle.std.specs.declared.ops.ControlFlow.TheVariants.{Continue, Break}
use Rattle.lists.specs.Scan.{choose, how_many, nonzero}
use Rattle.lists.specs.Part.{between}
use Rattle.frames.specs.Kind.{leaf_size}
use Rattle.frames.specs.Place.{place_at}
use Rattle.frames.specs.declared.frame.Frame.{Frame}
use Rattle.records.specs.Words.{full_length, previous_leaf, next_leaf_word}
use Rattle.records.specs.Own.{prefix_at}
use Rattle.records.specs.Row.{row_at}
use Rattle.tree.specs.Arrive.{arrival_at, InnerFitsFrom}
use Rattle.whole.specs.Arrive.{inner_rec}
use Rattle.whole.specs.Marks.{fresh, reached}
use Rattle.tree.specs.Seen.{LeafSeen, tag_at}
use Rattle.whole.specs.Witness.{WitnessSeen, goes_on, stored_agrees}
use Rattle.tree.specs.declared.arrive.Arrival.{Arrival}
use Rattle.tree.specs.declared.arrive.Arrival.TheVariants.{Leaf, Inner, Broken}
use Rattle.whole.specs.declared.well_formed.Seen.{Seen}
use Rattle.whole.specs.declared.well_formed.Row.{Row}

-- all is well so far, with the reference of the first leaf below and the leaf seen last; or not
abbrev pub Visit : Type 0
Visit = Option (ℕ × Seen)

-- what is to be done at a record: its row, or nothing more
abbrev pub Turn : Type 0
Turn = ControlFlow Visit Row

-- an answer with the marks that it leaves
pub record Way : Type 0 where
  pub visit : Visit
  pub marks : List ℕ

-- this answer, with these marks
abbrev pub way : Visit → List ℕ → Way
way v m = record { visit = v; marks = m }

-- ── one record ──
-- a leaf comes after the leaf seen last, both ways
unfoldable pub leaf_visit : List ℕ → ℕ → Seen → Visit
leaf_visit rec ref s =
    choose (eqb (previous_leaf rec) s.prev && eqb s.next ref) (Some (ref, record { prev = ref; next = next_leaf_word rec; count = s.count + 1 })) None

-- what is to be done at a record: a leaf is seen, an inner record's row branches past its run
abbrev pub turn_of : Frame → List ℕ → ℕ → ℕ → Seen → Arrival → Turn
turn_of f words ref depth s (Leaf n start) = Break (leaf_visit (between words start (start + leaf_size)) ref s)
turn_of f words ref depth s (Inner kind start) = Continue (record { kind = kind; start = start; depth = depth + full_length (inner_rec f.form words kind start) })
turn_of f words ref depth s Broken = Break None

-- a record that is not yet reached and obeys its own rule, with so many inner records left on the path
unfoldable pub turn_at : Frame → List ℕ → List ℕ → ℕ → ℕ → ℕ → List ℕ → Seen → Turn
turn_at f words keys left ref depth m s = choose (fresh f ref m) (turn_of f words ref depth s (arrival_at f words keys left (place_at ref))) (Break None)

-- the row of a record is well, and the record's stored bytes are the witness's
abbrev pub record_end : Frame → List ℕ → List ℕ → Row → ℕ → Visit → Visit
record_end f words keys row depth (Some (w, s)) =
    choose (stored_agrees depth (prefix_at f.form (inner_rec f.form words row.kind row.start)) (tag_at f words keys w)) (Some (w, s)) None
record_end f words keys row depth None = None

-- ── a row ──
-- its witness is the first child's; 0 where none was seen yet
abbrev pub first_of : ℕ → ℕ → ℕ
first_of w t = choose (eqb w 0) t w

-- a row hands up its witness, and one without children is none
unfoldable pub row_end : ℕ → Seen → Visit
row_end w s = choose (eqb w 0) None (Some (w, s))

-- a child is well, and its witness goes on from the row's with the child's byte
abbrev pub child_end : Frame → List ℕ → List ℕ → ℕ → ℕ → ℕ → Visit → Visit
child_end f words keys e byte w (Some (t, s)) = choose (goes_on e (tag_at f words keys (first_of w t)) byte (tag_at f words keys t)) (Some (first_of w t, s)) None
child_end f words keys e byte w None = None

-- on to the next, where all is well
abbrev pub way_on : Visit → List ℕ → (ℕ → List ℕ → Seen → Way) → Way
way_on (Some (w, s)) m go = go w m s
way_on None m go = way None m

-- the children of a row that branches at depth e, each checked by g, with the row's witness so far
unfoldable pub row_by : Frame → List ℕ → List ℕ → (ℕ → ℕ → List ℕ → Seen → Way) → ℕ → ℕ → List (ℕ × ℕ) → List ℕ → Seen → Way
row_by f words keys g e w [] m s = way (row_end w s) m
row_by f words keys g e w (c ∷ cs) m s =
    way_on (child_end f words keys e c.0 w (g c.1 (e + 1) m s).visit) (g c.1 (e + 1) m s).marks (λ x m' s'. row_by f words keys g e x cs m' s')

-- the children at or after a byte
abbrev pub row_from : ℕ → List (ℕ × ℕ) → List (ℕ × ℕ)
row_from b [] = []
row_from b (c ∷ cs) = choose (leb b c.0) (c ∷ cs) (row_from b cs)

-- all children of the row's record
abbrev pub row_of : Frame → List ℕ → Row → List (ℕ × ℕ)
row_of f words row = row_at f.form row.kind (inner_rec f.form words row.kind row.start)

-- ── by turns ──
-- nothing more, or the record's row and then the record's end
abbrev pub after_turn : Frame → List ℕ → List ℕ → (Row → List ℕ → Way) → ℕ → Turn → List ℕ → Way
after_turn f words keys check depth (Continue row) m = way (record_end f words keys row depth (check row m).visit) (check row m).marks
after_turn f words keys check depth (Break v) m = way v m

-- the record that a reference names, marked as reached; each child of its row is checked by g
abbrev pub record_with : Frame → List ℕ → List ℕ → ℕ → (ℕ → ℕ → List ℕ → Seen → Way) → ℕ → ℕ → List ℕ → Seen → Way
record_with f words keys left g ref depth m s =
    after_turn f words keys (λ row m'. row_by f words keys g row.depth 0 (row_of f words row) m' s) depth (turn_at f words keys left ref depth m s) (reached f ref m)

-- the record that a reference names, with so many inner records left on the path, this one included
unfoldable pub record_by : Frame → List ℕ → List ℕ → ℕ → ℕ → ℕ → List ℕ → Seen → Way
record_by f words keys zero = record_with f words keys 0 (λ ref depth m s. way None m)
record_by f words keys (suc left) = record_with f words keys (suc left) (record_by f words keys left)

-- a row with so many of its 256 places left, the last ones
abbrev pub row_way : Frame → List ℕ → List ℕ → ℕ → Row → ℕ → ℕ → List ℕ → Seen → Way
row_way f words keys left row places w m s = row_by f words keys (record_by f words keys left) row.depth w (row_from (256 - places) (row_of f words row)) m s

-- ── what holds on the way ──
-- what is handed up is a leaf that obeys its rule
abbrev pub Sees : Frame → List ℕ → List ℕ → Visit → Type 0
Sees f words keys (Some (w, s)) = LeafSeen f words keys w
Sees f words keys None = Unit {0}

-- no more leaves are counted than records are marked
abbrev pub Counted : List ℕ → Visit → Type 0
Counted m (Some (w, s)) = s.count ≤ how_many nonzero m
Counted m None = Unit {0}

-- before a record: the count is within the marks, and the depth is small, since each inner record of a path adds a small number
pub record RecordReady (left depth : ℕ) (s : Seen) (m : List ℕ) : Type 0 where
  pub counted : s.count ≤ how_many nonzero m
  pub shallow : depth + left * 256 ≤ 65536

-- before the rest of a row, with so many places left: the same, the row's record is there and obeys its rule, and its witness is a leaf or none yet
pub record RowReady (f : Frame) (words keys : List ℕ) (left : ℕ) (row : Row) (places w : ℕ) (s : Seen) (m : List ℕ) : Type 0 where
  pub there : InnerFitsFrom f.form words row.kind row.start
  pub within : places ≤ 256
  pub witness : WitnessSeen f words keys w
  pub counted : s.count ≤ how_many nonzero m
  pub shallow : row.depth + 1 + left * 256 ≤ 65536
