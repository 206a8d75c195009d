-- Inner records of a block changed where they stand, each by its place; and what must hold of a record for it.
use Rattle.std.specs.Prelude.{ℕ, ◌+◌, ◌≤◌, ◌<◌, ◌≡◌, List, true, set, replicate}
use Rattle.prefix.specs.declared.Prefix.{Prefix}
use Rattle.frames.specs.Kind.{children_of}
use Rattle.frames.specs.Place.{in_pool, size_at, record_at, put_at, kind_at}
use Rattle.frames.specs.declared.frame.Frame.{Frame}
use Rattle.records.specs.Words.{child_count}
use Rattle.records.specs.Own.{prefix_at}
use Rattle.records.specs.Row.{direct_row}
use Rattle.art.specs.Stores.{Place}
use Rattle.edits.specs.Change.{Needs}
use Rattle.edits.specs.Head.{set_prefix}
use Rattle.edits.specs.declared.representation.Change.{Change}
use Rattle.edits.specs.Record.{change_of, spread_of, build_rec}
use Rattle.edits.specs.Rows.{row_pair}
use Rattle.points.specs.There.{InnerFitsAt, HasChild}

-- the children changed for a byte
unfoldable pub change_at : Frame → Place → ℕ → Change → List ℕ → List ℕ
change_at f x byte change words = put_at f words x (change_of f.form (kind_at x) (record_at f words x) byte change)

-- another prefix
unfoldable pub prefixed_at : Frame → Place → Prefix → List ℕ → List ℕ
prefixed_at f x p words = put_at f words x (set_prefix f.form p (record_at f words x))

-- a new branching with this prefix and two children
unfoldable pub branch_at : Frame → Place → Prefix → (b r c s : ℕ) → List ℕ → List ℕ
branch_at f x p b r c s words = put_at f words x (build_rec f.form (kind_at x) p (row_pair b r c s))

-- the prefix and the children of the record at x, written anew at y
unfoldable pub move_at : Frame → Place → Place → List ℕ → List ℕ
move_at f x y words =
    put_at f words y (build_rec f.form (kind_at y) (prefix_at f.form (record_at f words x)) (direct_row (spread_of f.form (kind_at x) (record_at f words x))))

-- the same without the child for a byte
unfoldable pub drop_at : Frame → Place → Place → ℕ → List ℕ → List ℕ
drop_at f x y byte words =
    put_at f words y (build_rec f.form (kind_at y) (prefix_at f.form (record_at f words x)) (direct_row (set (spread_of f.form (kind_at x) (record_at f words x)) byte 0)))

-- freed
unfoldable pub clear_at : Frame → Place → List ℕ → List ℕ
clear_at f x words = put_at f words x (replicate (size_at f x) 0)

-- ── what must hold ──
-- it has room for a child
pub record Roomy (f : Frame) (words : List ℕ) (x : Place) : Type 0 where
  pub here : InnerFitsAt f words x
  pub room : child_count (record_at f words x) < children_of (kind_at x)

-- what a change needs: room for a child more, else the child
abbrev pub Changes : Frame → List ℕ → Place → ℕ → Change → Type 0
Changes f words x byte change = Needs change (Roomy f words x) (HasChild f words x byte)

-- an inner record's place in a pool
pub record InnerPoolAt (f : Frame) (x : Place) : Type 0 where
  pub pool : in_pool f x ≡ true
  pub low : 1 ≤ kind_at x
  pub high : kind_at x ≤ 4

-- the children of the record at x have room at y
pub record Moves (f : Frame) (words : List ℕ) (x y : Place) : Type 0 where
  pub from : InnerFitsAt f words x
  pub to : InnerPoolAt f y
  pub room : child_count (record_at f words x) ≤ children_of (kind_at y)

-- and so without the child for a byte
pub record Drops (f : Frame) (words : List ℕ) (x y : Place) (byte : ℕ) : Type 0 where
  pub from : HasChild f words x byte
  pub to : InnerPoolAt f y
  pub room : child_count (record_at f words x) ≤ children_of (kind_at y) + 1
