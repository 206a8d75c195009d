-- What an insert on a sound block needs, and which plan is due: by the verdict on the tag, the free leaves, and the free records of the kinds that its place could take.
use Rattle.std.specs.Prelude.{ℕ, suc, ◌≤◌, ◌≡◌, [], ◌∷◌, true, length, drop, Ok, Err}
use Rattle.std.proofs.Math.Logic.{ite}
use Rattle.std.proofs.Math.Option.{Option, none, some}
use Rattle.refusals.specs.declared.Refusal.TheVariants.{Clash, NoLeaf, NoRecord}
use Rattle.insert.specs.declared.plan.Plan.TheVariants.{New, Over}
use Rattle.insert.specs.Plan.{Planned}
use Rattle.frames.specs.Kind.{children_of}
use Rattle.frames.specs.Place.{in_pool}
use Rattle.frames.specs.declared.frame.Frame.{Frame}
use Rattle.records.specs.View.{Held}
use Rattle.art.specs.Tags.{Tag, begins_dec}
use Rattle.art.specs.Trees.{Tree, leaf, inner, Row, end, child, count}
use Rattle.art.specs.Verdicts.{Verdict, known, clash, free}
use Rattle.art.specs.Stores.{leaf_place, inner_place, Store, store, Used}
use Rattle.art.specs.Points as art
use Rattle.art.specs.Points.{cell_refs}

-- every leaf of the pool is in use
abbrev pub LeavesFull : Frame → Store Held → Type 0
LeavesFull f σ = (n : ℕ) → in_pool f (leaf_place n) ≡ true → Used (σ (leaf_place n))

-- every inner record of this kind or a larger one is in use
abbrev pub InnersFull : Frame → Store Held → ℕ → Type 0
InnersFull f σ kind = (k n : ℕ) → kind ≤ k → in_pool f (inner_place k n) ≡ true → Used (σ (inner_place k n))

-- ── at a point ──
-- the record that a new tag needs there is not to be had: a full record has no larger one to move to, or a branching none to be made in
abbrev pub Lacks : Frame → Store Held → art.Point → Type 0
Lacks f σ (art.holds upper up n) = ⊥
Lacks f σ art.clashes = ⊥
Lacks f σ (art.into up k n x) = (children_of k ≤ length (cell_refs (σ (inner_place k n)))) × InnersFull f σ (suc k)
Lacks f σ (art.fork up y w d c) = InnersFull f σ 1
Lacks f σ art.broken = ⊥

-- ── the same said of the tree, for a tag that is neither held nor in a clash ──
abbrev mutual
  -- the branching that has no child for the tag's next byte, by its kind and how many children it has; none where the tag parts inside a run or at a leaf, and wants a branching of its own
  pub joins : Tree Held → Tag → Option (ℕ × ℕ)
  joins (leaf n rest a) s = none
  joins (inner k n run r) s = ite (begins_dec run s) (joins_row (k, count r) r (drop (length run) s)) none

  -- from the child for the next byte on; where there is none, this branching
  pub joins_row : ℕ × ℕ → Row Held → Tag → Option (ℕ × ℕ)
  joins_row here end s = some here
  joins_row here (child c t r) s = ite (begins_dec (c ∷ []) s) (joins t (drop 1 s)) (joins_row here r s)

-- no record is free for a branching of its own; or the one that it joins is full, and no record of a larger kind is free. The first tag of all wants no record
abbrev pub Lacking : Frame → Option (Tree Held) → Tag → Type 0
Lacking f none tag = ⊥
Lacking f (some t) tag = elim (joins t tag) [ none ↦ InnersFull f (store t []) 1 | some b ↦ (children_of b.0 ≤ b.1) × InnersFull f (store t []) (suc b.0) ]

-- by the verdict on the tag, whether all leaves are in use, and whether a record lacks
abbrev pub Answers : Verdict → Type 0 → Type 0 → Planned → Type 0
Answers v full lacking (Ok (Over ref)) = v ≡ known
Answers v full lacking (Ok (New site n gap)) = (v ≡ free) × (¬ full) × (¬ lacking)
Answers v full lacking (Err Clash) = v ≡ clash
Answers v full lacking (Err NoLeaf) = (v ≡ free) × full
Answers v full lacking (Err NoRecord) = (v ≡ free) × (¬ full) × lacking
Answers v full lacking (Err refusal) = ⊥
