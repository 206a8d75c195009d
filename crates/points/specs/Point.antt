-- The point of a tag: the way down from the root, on any words and key bytes.
use Rattle.std.specs.declared.ops.ControlFlow.{ControlFlow}
use Rattle.std.specs.Prelude.{ℕ, zero, suc, ◌+◌, List, length, get_or, take, drop, eqb, leb, Some, None, Ok, Err, Option}
use Rattle.std.specs.declared.ops.ControlFlow.TheVariants.{Continue, Break}
use Rattle.points.specs.There.{Up}
use Rattle.tree.specs.Answer.{Found}
use Rattle.lists.specs.Scan.{choose}
use Rattle.lists.specs.Compare.{shared}
use Rattle.lists.specs.Part.{between}
use Rattle.prefix.specs.Run.{held}
use Rattle.prefix.specs.declared.Prefix.{Prefix}
use Rattle.frames.specs.Form.{record_words}
use Rattle.frames.specs.Place.{place_at}
use Rattle.frames.specs.declared.frame.Frame.{Frame}
use Rattle.records.specs.Own.{prefix_at, child_at}
use Rattle.art.specs.Chain.{leaf_ref}
use Rattle.tree.specs.Arrive.{arrival_at}
use Rattle.tree.specs.Edge.{edge_of}
use Rattle.tree.specs.declared.arrive.Arrival.{Arrival}
use Rattle.tree.specs.declared.arrive.Arrival.TheVariants as arrival
use Rattle.tree.specs.declared.minmax.Edge.TheVariants.{Low}
use Rattle.tree.specs.Seen.{tag_at}
use Rattle.points.specs.declared.insert_point.Point.{Point}
use Rattle.points.specs.declared.insert_point.Point.TheVariants.{Holds, Clash, Into, Fork, Broken}

-- how many bytes of a run agree, where it can be read
abbrev pub Run : Type 0
Run = Option ℕ

-- a reference to go on at, its depth, and the byte that leads to it; or the point
abbrev pub Step : Type 0
Step = ControlFlow Point (ℕ × ℕ × ℕ)

-- ── at a leaf ──
-- from depth d on so many bytes agree with the leaf's tag t: both end there, one ends there, or they part there
unfoldable pub leaf_point : (tag t : List ℕ) (ref d : ℕ) → Up → Up → Point
leaf_point tag t ref d upper up =
    let c = shared (drop d tag) (drop d t) in
    choose (leb (length tag) (d + c)) (choose (leb (length t) (d + c)) (Holds upper up ref) Clash) (choose (leb (length t) (d + c)) Clash (Fork up ref ref d c))

-- ── at an inner record ──
-- the first leaf at or below it
abbrev pub lowest_of : Frame → List ℕ → List ℕ → ℕ → Found
lowest_of f words keys ref = edge_of f words keys Low f.form.limit ref

-- its reference; 0 where the way to it is broken
abbrev pub leaf_ref_of : Found → ℕ
leaf_ref_of (Ok leaf) = leaf_ref leaf.number
leaf_ref_of (Err refusal) = 0

-- how many bytes of a run of this length are the tag's from depth d on, read from a leaf below
abbrev pub run_below : Frame → (words keys tag : List ℕ) (d full : ℕ) → Found → Run
run_below f words keys tag d full (Ok leaf) = Some (shared (take full (drop d (tag_at f words keys (leaf_ref leaf.number)))) (drop d tag))
run_below f words keys tag d full (Err refusal) = None

-- a run of eight bytes or fewer is read from the record itself
unfoldable pub run_of : Frame → (words keys tag : List ℕ) (ref d : ℕ) → Prefix → Run
run_of f words keys tag ref d p =
    choose (leb p.full.0 8) (Some (shared (held p) (drop d tag))) (run_below f words keys tag d p.full.0 (lowest_of f words keys ref))

-- the tag parts from the run
abbrev pub fork_point : Up → (ref d c : ℕ) → Found → Point
fork_point up ref d c (Ok leaf) = Fork up ref (leaf_ref leaf.number) d c
fork_point up ref d c (Err refusal) = Broken

-- past the run: the child for the next byte
abbrev pub child_step : Up → (ref byte child d : ℕ) → Step
child_step up ref byte child d = choose (eqb child 0) (Break (Into up ref byte)) (Continue (child, d, byte))

-- c bytes of the run agree: the tag ends within it, goes on past it, or parts from it
abbrev pub run_step : Frame → (words keys tag : List ℕ) (kind : ℕ) (rec : List ℕ) (ref d : ℕ) → Up → Run → Step
run_step f words keys tag kind rec ref d up (Some c) =
    let full = (prefix_at f.form rec).full.0 in
    let byte = get_or tag (d + full) 0 in
    choose (leb (length tag) (d + c)) (Break Clash)
    (choose (leb full c) (child_step up ref byte (child_at f.form kind rec byte) (d + full + 1)) (Break (fork_point up ref d c (lowest_of f words keys ref))))
run_step f words keys tag kind rec ref d up None = Break Broken

-- by what agrees of its run
unfoldable pub inner_step : Frame → (words keys tag : List ℕ) (kind : ℕ) (rec : List ℕ) (ref d : ℕ) → Up → Step
inner_step f words keys tag kind rec ref d up = run_step f words keys tag kind rec ref d up (run_of f words keys tag ref d (prefix_at f.form rec))

-- ── the way ──
-- at a leaf, at an inner record, or where the way is broken
abbrev pub step_from : Frame → (words keys tag : List ℕ) (ref d : ℕ) → Up → Up → Arrival → Step
step_from f words keys tag ref d upper up (arrival.Leaf n start) = Break (leaf_point tag (tag_at f words keys ref) ref d upper up)
step_from f words keys tag ref d upper up (arrival.Inner kind start) =
    inner_step f words keys tag kind (between words start (start + record_words f.form kind)) ref d up
step_from f words keys tag ref d upper up arrival.Broken = Break Broken

-- with so many inner records left on the path
unfoldable pub step_of : Frame → (words keys tag : List ℕ) (left ref d : ℕ) → Up → Up → Step
step_of f words keys tag left ref d upper up = step_from f words keys tag ref d upper up (arrival_at f words keys left (place_at ref))

-- the point of a step that goes no further
abbrev pub ended_of : Step → Point
ended_of (Continue (r, d, b)) = Broken
ended_of (Break p) = p

-- step by step; upper and up are the last two records passed
unfoldable pub point_from : Frame → (words keys tag : List ℕ) (left ref d : ℕ) → Up → Up → Point
point_from f words keys tag zero ref d upper up = ended_of (step_of f words keys tag 0 ref d upper up)
point_from f words keys tag (suc left) ref d upper up =
    elim (step_of f words keys tag (suc left) ref d upper up) [ Continue (r, e, b) ↦ point_from f words keys tag left r e up (Some (ref, b)) | Break p ↦ p ]

-- the point of a tag in the tree at a reference
unfoldable pub point_of : Frame → (words keys tag : List ℕ) → ℕ → Point
point_of f words keys tag root = point_from f words keys tag f.form.limit root 0 None None
