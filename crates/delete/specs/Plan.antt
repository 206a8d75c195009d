-- The plan of a delete: 1 where the tag is not held; else what becomes of the record above its leaf.
use Rattle.delete.specs.declared.plan.Plan.{Plan}
use Rattle.refusals.specs.declared.Refusal.{Refusal}
use Rattle.std.specs.Prelude.{ℕ, ◌+◌, ◌-◌, ◌/◌, ◌%◌, List, get_or, eqb, leb, ltb, Some, None, Ok, Err, Result}
use Rattle.lists.specs.Scan.{choose}
use Rattle.frames.specs.Kind.{mark_of}
use Rattle.frames.specs.Frame.{root_word}
use Rattle.frames.specs.Place.{place_at, ref_of, record_at}
use Rattle.frames.specs.declared.frame.Frame.{Frame}
use Rattle.records.specs.Words.{child_count, previous_leaf, next_leaf_word}
use Rattle.records.specs.Row.{row_at, entry_at, last_entry, Entry}
use Rattle.refusals.specs.declared.Refusal.TheVariants.{Damaged, Missing}
use Rattle.points.specs.There.{Up}
use Rattle.art.specs.Stores.{leaf_place, inner_place}
use Rattle.pools.specs.Pool.{lowest_free}
use Rattle.points.specs.Point.{point_of}
use Rattle.points.specs.declared.insert_point.Point.{Point}
use Rattle.points.specs.declared.insert_point.Point.TheVariants as point
use Rattle.writes.specs.declared.leaf_node.Gap.{Gap}
use Rattle.delete.specs.declared.plan.Cut.{Cut}
use Rattle.delete.specs.declared.plan.Cut.TheVariants.{Root, Stay, Shrink, Merge}

-- a plan, or why there is none
abbrev pub Planned : Type 0
Planned = Result Plan Refusal

-- ── the record above ──
-- of two children the one that is not for the byte
abbrev pub other_than : ℕ → Entry → Entry → Entry
other_than byte (Some (b, r)) last = choose (eqb b byte) last (Some (b, r))
other_than byte None last = None

-- of a row of two
unfoldable pub other_entry : ℕ → List (ℕ × ℕ) → Entry
other_entry byte row = other_than byte (entry_at 0 row) (last_entry row)

-- one child left merges; a record that obeys its rule has two children or more, so there is one
abbrev pub merge_cut : Up → ℕ → ℕ → Entry → Cut
merge_cut upper ref byte (Some (b, r)) = Merge upper ref r b
merge_cut upper ref byte None = Stay ref byte

-- at or below its mark it moves to the next smaller kind, where that has a free record
unfoldable pub shrink_cut : Frame → List ℕ → Up → ℕ → ℕ → Cut
shrink_cut f words upper ref byte =
    let k = ref % 8 - 1 in
    choose (ltb (lowest_free f words k) (get_or f.caps k 0)) (Shrink upper ref (ref_of (inner_place k (lowest_free f words k))) byte) (Stay ref byte)

-- the record above the leaf, with one child less: a last one merges, at or below its mark the record shrinks, else it stays
unfoldable pub cut_under : Frame → List ℕ → Up → ℕ → ℕ → Cut
cut_under f words upper ref byte =
    let rec = record_at f words (place_at ref) in
    choose (leb (child_count rec) 2) (merge_cut upper ref byte (other_entry byte (row_at f.form (ref % 8) rec)))
    (choose (leb (child_count rec) (mark_of (ref % 8) + 1)) (shrink_cut f words upper ref byte) (Stay ref byte))

-- a leaf with nothing above it is the root
abbrev pub cut_of : Frame → List ℕ → Up → Up → Cut
cut_of f words upper None = Root
cut_of f words upper (Some (ref, byte)) = cut_under f words upper ref byte

-- ── the leaf ──
-- its neighbours in the list
abbrev pub gap_of : Frame → List ℕ → ℕ → Gap
gap_of f words n = record { previous = previous_leaf (record_at f words (leaf_place n)); next = next_leaf_word (record_at f words (leaf_place n)) }

-- by the point: held, or not
unfoldable pub point_plan : Frame → List ℕ → Point → Planned
point_plan f words (point.Holds upper up leaf) = Ok (record { cut = cut_of f words upper up; leaf = leaf / 8; gap = gap_of f words (leaf / 8) })
point_plan f words point.Clash = Err Missing
point_plan f words (point.Into up ref byte) = Err Missing
point_plan f words (point.Fork up ref leaf d c) = Err Missing
point_plan f words point.Broken = Err Damaged

-- an empty directory holds no tag
unfoldable pub plan_of : Frame → (words keys tag : List ℕ) → Planned
plan_of f words keys tag = choose (eqb (root_word words) 0) (Err Missing) (point_plan f words (point_of f words keys tag (root_word words)))
