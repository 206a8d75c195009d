-- The plan of an insert: overwrite a held tag; else 3, 4, 5; else where the new leaf goes.
use Rattle.insert.specs.declared.plan.Plan.{Plan}
use Rattle.refusals.specs.declared.Refusal.{Refusal}
use Rattle.std.specs.Prelude.{ℕ, suc, ◌%◌, List, get_or, eqb, ltb, Some, None, Ok, Err, Option, Result}
use Rattle.refusals.specs.declared.Refusal.TheVariants.{Clash, Damaged, Missing, NoLeaf, NoRecord}
use Rattle.insert.specs.declared.plan.Plan.TheVariants.{New, Over}
use Rattle.points.specs.There.{Up}
use Rattle.pools.specs.Pool.{Free, lowest_free, free_kind}
use Rattle.tree.specs.Answer.{Found}
use Rattle.lists.specs.Scan.{choose}
use Rattle.frames.specs.Kind.{children_of}
use Rattle.frames.specs.Frame.{root_word, last_word}
use Rattle.frames.specs.Place.{place_at, ref_of, record_at}
use Rattle.frames.specs.declared.frame.Frame.{Frame}
use Rattle.records.specs.Words.{child_count, previous_leaf}
use Rattle.art.specs.Stores.{leaf_place, inner_place}
use Rattle.art.specs.Chain.{leaf_ref}
use Rattle.range.specs.Range.{after_first}
use Rattle.points.specs.Point.{point_of}
use Rattle.points.specs.declared.insert_point.Point.{Point}
use Rattle.points.specs.declared.insert_point.Point.TheVariants as point
use Rattle.insert.specs.declared.plan.Site.{Site}
use Rattle.insert.specs.declared.plan.Site.TheVariants.{Root, Add, Grow, Fork}
use Rattle.writes.specs.declared.leaf_node.Gap.{Gap}

-- a site, or no free record for it
abbrev pub Choice : Type 0
Choice = Option Site

-- a plan, or why there is none
abbrev pub Planned : Type 0
Planned = Result Plan Refusal

-- ── the record that takes the new leaf ──
-- a full record grows into the free record that was found, if one was
abbrev pub grow_choice : Up → ℕ → ℕ → Free → Choice
grow_choice up ref byte (Some (k, n)) = Some (Grow up ref (ref_of (inner_place k n)) byte)
grow_choice up ref byte None = None

-- a missing child is added in place where the record has room; a full one grows into the smallest larger kind with a free record
unfoldable pub into_choice : Frame → List ℕ → Up → ℕ → ℕ → Choice
into_choice f words up ref byte =
    choose (ltb (child_count (record_at f words (place_at ref))) (children_of (ref % 8))) (Some (Add ref byte)) (grow_choice up ref byte (free_kind f words (suc (ref % 8))))

-- a new branching is made in the free record that was found, if one was
abbrev pub fork_with : Up → (ref leaf d c : ℕ) → Free → Choice
fork_with up ref leaf d c (Some (k, n)) = Some (Fork up ref (ref_of (inner_place k n)) leaf d c)
fork_with up ref leaf d c None = None

-- that is the lowest of the smallest kind that has one
unfoldable pub fork_choice : Frame → List ℕ → Up → (ref leaf d c : ℕ) → Choice
fork_choice f words up ref leaf d c = fork_with up ref leaf d c (free_kind f words 1)

-- ── the place in the list: before the first leaf whose tag is not below ──
-- before leaf n, and after the one that was before it
abbrev pub gap_at : Frame → List ℕ → ℕ → Gap
gap_at f words n = record { previous = previous_leaf (record_at f words (leaf_place n)); next = leaf_ref n }

-- with no such leaf, after the last
abbrev pub gap_end : List ℕ → Gap
gap_end words = record { previous = last_word words; next = 0 }

-- before the leaf that is found along the list, or at its end; a damaged list is a broken plan
abbrev pub new_plan : Frame → List ℕ → Site → ℕ → Found → Planned
new_plan f words site leaf (Ok next) = Ok (New site leaf (gap_at f words next.number))
new_plan f words site leaf (Err Missing) = Ok (New site leaf (gap_end words))
new_plan f words site leaf (Err refusal) = Err Damaged

-- ── 4, then 5 ──
-- 5 where no record is free for it
abbrev pub site_plan : Frame → (words keys tag : List ℕ) → ℕ → Choice → Planned
site_plan f words keys tag leaf (Some site) = new_plan f words site leaf (after_first f words keys tag)
site_plan f words keys tag leaf None = Err NoRecord

-- 4 where no leaf is free
unfoldable pub leaf_plan : Frame → (words keys tag : List ℕ) → Choice → Planned
leaf_plan f words keys tag c =
    choose (ltb (lowest_free f words 5) (get_or f.caps 5 0)) (site_plan f words keys tag (lowest_free f words 5) c) (Err NoLeaf)

-- ── by the point: held, 3, or new ──
-- a held tag is overwritten, a clash is 3, and a new tag takes a leaf, in the record at its point or in a new branching there
unfoldable pub point_plan : Frame → (words keys tag : List ℕ) → Point → Planned
point_plan f words keys tag (point.Holds upper up leaf) = Ok (Over leaf)
point_plan f words keys tag point.Clash = Err Clash
point_plan f words keys tag (point.Into up ref byte) = leaf_plan f words keys tag (into_choice f words up ref byte)
point_plan f words keys tag (point.Fork up ref leaf d c) = leaf_plan f words keys tag (fork_choice f words up ref leaf d c)
point_plan f words keys tag point.Broken = Err Damaged

-- the first tag of all has no point
unfoldable pub plan_of : Frame → (words keys tag : List ℕ) → Planned
plan_of f words keys tag =
    choose (eqb (root_word words) 0) (leaf_plan f words keys tag (Some Root)) (point_plan f words keys tag (point_of f words keys tag (root_word words)))
