-- Where the record above a leaf goes that leaves it, and the tree that is left.
use Rattle.std.specs.Prelude.{ℕ, suc, ◌-◌, ◌≤◌, ◌<◌, ◌≡◌, [], true, length}
use Rattle.std.proofs.Math.Option.{Option, none, some}
use Rattle.frames.specs.Kind.{mark_of}
use Rattle.frames.specs.Place.{in_pool}
use Rattle.frames.specs.declared.frame.Frame.{Frame}
use Rattle.records.specs.View.{Held}
use Rattle.art.specs.Tags.{Tag}
use Rattle.art.specs.Trees.{Tree}
use Rattle.art.specs.Facts.{height}
use Rattle.art.specs.Deletes.{Home, change}
use Rattle.art.specs.Drops.{Roomy}
use Rattle.art.specs.Stores.{inner_place, Store, root, store, Used}
use Rattle.art.specs.Refs.{cut_ref}
use Rattle.art.specs.Points.{Up, top, via, Point, holds, clashes, into, fork, broken, point, cell_refs}
use Rattle.states.specs.Lowest.{Lowest}

-- the record of a kind and number, with so many children left, has the kind and number of to afterwards
pub data Goes (f : Frame) (σ : Store Held) (kind number left : ℕ) (to : ℕ × ℕ) : Type 0 where
  -- above its mark it stays where it is
  stays : to ≡ (kind, number) → mark_of kind < left → Goes f σ kind number left to
  -- at or below its mark it moves to the lowest free record of the next smaller kind
  shrinks : suc to.0 ≡ kind → left ≤ mark_of kind → Lowest f σ (inner_place to.0) to.1 → Goes f σ kind number left to
  -- but stays where it is if every record of that kind is in use
  crowded : to ≡ (kind, number) → left ≤ mark_of kind → ((n : ℕ) → in_pool f (inner_place (kind - 1) n) ≡ true → Used (σ (inner_place (kind - 1) n))) → Goes f σ kind number left to

-- the record above a leaf goes so, where it keeps two children or more
abbrev pub Settles : Frame → Store Held → Home → Up → Type 0
Settles f σ hm top = Unit {0}
Settles f σ hm (via k n b) = let left : ℕ = length (cut_ref b (cell_refs (σ (inner_place k n)))) in 2 ≤ left → Goes f σ k n left (hm k n left)

-- by the point: a tag that is not held has no leaf to leave out
abbrev pub SettlesAt : Frame → Store Held → Home → Point → Type 0
SettlesAt f σ hm (holds upper up n) = Settles f σ hm up
SettlesAt f σ hm clashes = Unit {0}
SettlesAt f σ hm (into up k n x) = Unit {0}
SettlesAt f σ hm (fork up y w d c) = Unit {0}
SettlesAt f σ hm broken = Unit {0}

-- d is the tree t without the tag, where the record above it went so
pub record Without (f : Frame) (t : Tree Held) (tag : Tag) (d : Option (Tree Held)) : Type 0 where
  pub home : Home
  pub roomy : Roomy home (store t [])
  pub settles : SettlesAt f (store t []) home (point (suc (height t)) (store t []) (root t) tag)
  pub tree_is : d ≡ change t (λ a. none) home tag

-- with no tree there is no tag to leave out
abbrev pub WithoutFrom : Frame → Option (Tree Held) → Tag → Option (Tree Held) → Type 0
WithoutFrom f none tag d = ⊥
WithoutFrom f (some t) tag d = Without f t tag d
