-- What a sound block is.
use Rattle.std.specs.Prelude.{ℕ, ◌≡◌, List, true, length}
use Rattle.std.proofs.Math.Option.{Option, none, some}
use Rattle.frames.specs.Frame.{frame_fits, frame, root_word, count_word}
use Rattle.frames.specs.Place.{ref_of, in_pool}
use Rattle.records.specs.View.{Held, cell_of, rule_at, blank_at}
use Rattle.art.specs.Trees.{Tree}
use Rattle.art.specs.Deletes.{held, Sane}
use Rattle.art.specs.Stores.{Place, unused, root, Used}
use Rattle.art.specs.Chain.{Linked, leaves_of}
use Rattle.art.specs.Points.{store_of}
use Rattle.art.specs.Calls.{OnceOf}
use Rattle.view.specs.Links.{links_of}

-- the reference to the root of a tree, or 0 where there is none
abbrev pub Rooted : ℕ → Option (Tree Held) → Type 0
Rooted ref none = ref ≡ 0
Rooted ref (some t) = ref ≡ ref_of (root t)

-- a field, or a group of them, for each thing that is asked
pub record Sound (words keys : List ℕ) : Type 0 where
  -- the trailer describes the slices
  pub fits : frame_fits words keys ≡ true
  -- no record in use breaks its own rule
  pub rules : (x : Place) → Used (cell_of (frame words) words keys x) → rule_at (frame words) words keys x ≡ true
  -- what the records show is one tree below the root, in which no place stands twice: so each used record is met once, and none stands outside. In that tree a branching
  -- has its whole run and a leaf only the rest of its tag: so a tag has all bytes of the runs and child bytes above it, those that no record stores too
  pub tree : Option (Tree Held)
  pub good : Sane tree
  pub rooted : Rooted (root_word words) tree
  pub once : OnceOf tree
  pub shown : (x : Place) → cell_of (frame words) words keys x ≡ store_of tree x
  -- what is not in use is cleared: the words of a record, and a leaf's key bytes too
  pub free : (x : Place) → in_pool (frame words) x ≡ true → cell_of (frame words) words keys x ≡ unused → blank_at (frame words) words keys x ≡ true
  -- previous and next link the tree's leaves in their order, from the first to the last that the trailer names, and 0 ends it on either side
  pub linked : Linked (links_of (frame words) words) 0 (leaves_of tree)
  -- the trailer counts them
  pub count : count_word words ≡ length (held tree)
