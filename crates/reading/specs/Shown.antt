-- What a sound block gives its reader: a directory, which may have no tree, that the block shows.
use Rattle.std.specs.Prelude.{ℕ, ◌≡◌, List, true}
use Rattle.std.proofs.Math.Option.{Option, none, some}
use Rattle.frames.specs.Frame.{FrameOf, root_word}
use Rattle.frames.specs.Place.{place_at}
use Rattle.frames.specs.declared.frame.Frame.{Frame}
use Rattle.records.specs.View.{Held, cell_of, rule_at}
use Rattle.art.specs.Trees.{Tree}
use Rattle.art.specs.Stores.{Place, Used, root}
use Rattle.art.specs.Points.{store_of}
use Rattle.art.specs.Calls.{OnceOf}
use Rattle.art.specs.Deletes.{Sane}
use Rattle.art.specs.Chain.{Linked, leaves_of}
use Rattle.view.specs.Links.{links_of}

-- a reference that names the first record of a tree, or 0 where there is no tree
abbrev pub RootAt : ℕ → Option (Tree Held) → Type 0
RootAt ref none = ref ≡ 0
RootAt ref (some t) = place_at ref ≡ root t

-- the block shows the directory d
pub record Shown (f : Frame) (words keys : List ℕ) (d : Option (Tree Held)) : Type 0 where
  pub frame : FrameOf f words keys
  -- every branching has two children or more, with ascending bytes
  pub good : Sane d
  -- each record of the tree has a place of its own
  pub once : OnceOf d
  -- the used places are those of the tree, and each has what the tree has there
  pub cells : (x : Place) → cell_of f words keys x ≡ store_of d x
  -- the record at each used place obeys its own rule
  pub rules : (x : Place) → Used (cell_of f words keys x) → rule_at f words keys x ≡ true
  -- the trailer's root names the tree
  pub rooted : RootAt (root_word words) d
  -- the leaf list has the leaves in order, both ways
  pub linked : Linked (links_of f words) 0 (leaves_of d)
