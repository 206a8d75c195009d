-- The reading calls on a block that shows a directory read the sorted list of what it holds; an empty block shows the directory that holds nothing.
use mathlib.Core.Path.{ap, ◌∙◌}
use mathlib.Core.List.{List}
use mathlib.Core.Option.{Option, none}
use Prim.Native.Nat.{ℕ}
use native.Mathlib.Decide.{ℕ_discrete}
use Rattle.frames.specs.declared.frame.Frame.{Frame}
use Rattle.records.specs.View.{Held, cell_of}
use Rattle.tree.specs.declared.lookup.Aim.TheVariants.{Exact, Begin}
use Rattle.art.specs.Trees.{Tree}
use Rattle.art.specs.Deletes.{held}
use Rattle.art.proofs.Listings.{find_exact, find_begin}
use Rattle.art.proofs.Stores.{used_not}
use Rattle.view.specs.Empty.{Empty}
use Rattle.view.specs.Links.{links_of}
use Rattle.reading.specs.Answers.{answer_of}
use Rattle.reading.specs.Shown.{Shown}
use Rattle.reading.specs.Calls.{Reads}
use Rattle.reading.proofs.Entries.{held_sorted}
use Rattle.reading.proofs.Walks.{find_shown}
use Rattle.reading.proofs.Edges.{minimum_shown, maximum_shown}
use Rattle.reading.proofs.Nexts.{next_shown, facts_shown, tag_shown, list_shown}
use Rattle.reading.proofs.Frees.{next_free, facts_free, tag_free}

-- On every sound block: search finds a tag exactly when it is held, with its last total and its leaf; prefix search finds the one that the given
-- bytes begin with; minimum, maximum and next leaf answer as the sorted list; walking by next leaf from the minimum lists every tag once, in order.
pub reads_shown : {f : Frame} {words keys : List ℕ} {d : Option (Tree Held)} → Shown f words keys d → Reads words keys (held d)
reads_shown {d = d} s =
    record {
      order = held_sorted s;
      search = λ tag bytes. find_shown s tag bytes Exact ∙ ap answer_of (find_exact tag (held d));
      prefix_search = λ tag bytes. find_shown s tag bytes Begin ∙ ap answer_of (find_begin tag (held d));
      minimum = minimum_shown s;
      maximum = maximum_shown s;
      next_leaf = next_shown s;
      leaf_facts = facts_shown s;
      leaf_tag = tag_shown s;
      next_free = next_free s;
      facts_free = facts_free s;
      tag_free = tag_free s;
      walk = list_shown s;
    }

-- A block with no record in use shows the directory without a tree.
pub empty_shown : {f : Frame} {words keys : List ℕ} → Empty f words keys → Shown f words keys none
unfolding links_of ℕ_discrete
empty_shown {f} {words} {keys} e =
    record {
      frame = e.frame;
      good = tt;
      once = tt;
      cells = e.cells;
      rules = λ x u. absurd (used_not (cell_of f words keys x) u (e.cells x));
      rooted = e.root;
      linked = (e.first, e.last);
    }
