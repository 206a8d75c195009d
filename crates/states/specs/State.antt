-- What a block shows while it is being changed: its cells, its links, its root and its tag count, with every used record in order and every free one blank.
use Rattle.std.specs.Prelude.{ℕ, ◌≡◌, List, true}
use Rattle.frames.specs.Frame.{FrameOf, root_word, count_word}
use Rattle.frames.specs.Place.{in_pool}
use Rattle.frames.specs.declared.frame.Frame.{Frame}
use Rattle.records.specs.View.{Held, cell_of, rule_at, blank_at}
use Rattle.art.specs.Stores.{Place, Store, Used, unused}
use Rattle.art.specs.Chain.{Links}
use Rattle.view.specs.Links.{links_of}

-- the block shows these cells, links, root and count; its used records obey their rules, its free ones are blank
pub record State (f : Frame) (words keys : List ℕ) (σ : Store Held) (links : Links) (root count : ℕ) : Type 0 where
  pub frame : FrameOf f words keys
  pub cells : cell_of f words keys ≡ σ
  pub rules : (x : Place) → Used (σ x) → rule_at f words keys x ≡ true
  pub free : (x : Place) → in_pool f x ≡ true → σ x ≡ unused → blank_at f words keys x ≡ true
  pub links_are : links_of f words ≡ links
  pub root_is : root_word words ≡ root
  pub count_is : count_word words ≡ count
