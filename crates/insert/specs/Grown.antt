-- Which records a new tag takes, and the tree that it makes.
use Rattle.std.specs.Prelude.{ℕ, suc, ◌≤◌, ◌<◌, ◌≡◌, ◌⊎◌, [], true, length}
use Rattle.std.proofs.Math.Option.{Option, none, some}
use Rattle.frames.specs.Kind.{children_of}
use Rattle.frames.specs.Place.{in_pool}
use Rattle.frames.specs.declared.frame.Frame.{Frame}
use Rattle.records.specs.View.{Held}
use Rattle.art.specs.Tags.{Tag}
use Rattle.art.specs.Trees.{Tree, leaf}
use Rattle.art.specs.Changes.{Plan, grow}
use Rattle.art.specs.Facts.{height}
use Rattle.art.specs.Deletes.{change, stay}
use Rattle.art.specs.Stores.{leaf_place, inner_place, home_place, Store, empty, root, store, Used, Fresh}
use Rattle.art.specs.Points.{Point, holds, clashes, into, fork, broken, point, cell_refs}
use Rattle.states.specs.Lowest.{Lowest}
use Rattle.insert.specs.Meets.{new_total}

-- the kind is the smallest from one on that may have a free record: every record of those between is in use
abbrev pub Smallest : Frame → Store Held → (from kind : ℕ) → Type 0
Smallest f σ from kind = (from ≤ kind) × ((k n : ℕ) → from ≤ k → k < kind → in_pool f (inner_place k n) ≡ true → Used (σ (inner_place k n)))

-- and the number is that of its lowest free record
abbrev pub NextFree : Frame → Store Held → (from kind number : ℕ) → Type 0
NextFree f σ from kind number = Smallest f σ from kind × Lowest f σ (inner_place kind) number

-- a record with room stays where it is, a full one moves to the next free record of a larger kind, and a branching is made in the next free one of all
abbrev pub Chosen : Frame → Store Held → Plan → Point → Type 0
Chosen f σ plan (holds upper up n) = Unit {0}
Chosen f σ plan clashes = Unit {0}
Chosen f σ plan (into up k n x) =
    let children : ℕ = length (cell_refs (σ (inner_place k n))) in
    ((children < children_of k) × (home_place plan k n ≡ inner_place k n)) ⊎ ((children_of k ≤ children) × NextFree f σ (suc k) (plan.home k n).0 (plan.home k n).1)
Chosen f σ plan (fork up y w d c) = NextFree f σ 1 plan.fork_kind plan.fork_number
Chosen f σ plan broken = Unit {0}

-- d is the tree t with the tag put in, by a plan that takes these records and the lowest free leaf
pub record Grown (f : Frame) (t : Tree Held) (tag : Tag) (a : Held) (d : Option (Tree Held)) : Type 0 where
  pub plan : Plan
  pub fresh : Fresh plan (store t [])
  pub lowest : Lowest f (store t []) leaf_place plan.leaf_number
  pub chosen : Chosen f (store t []) plan (point (suc (height t)) (store t []) (root t) tag)
  pub tree_is : d ≡ some (grow t plan tag a)

-- and the first tag of all is such a leaf
abbrev pub GrownFrom : Frame → Option (Tree Held) → Tag → Held → Option (Tree Held) → Type 0
GrownFrom f none tag a d = Lowest f empty leaf_place a.number × (d ≡ some (leaf a.number tag a))
GrownFrom f (some t) tag a d = Grown f t tag a d

-- d is the tree with another total for a tag that it holds
abbrev pub AlteredFrom : Option (Tree Held) → Tag → ℕ → Option (Tree Held) → Type 0
AlteredFrom none tag total d = ⊥
AlteredFrom (some t) tag total d = d ≡ change t (λ h. some (new_total total h)) stay tag
