-- What an arrival at a record gives the check: the record lies within the words.
use Rattle.std.specs.Prelude.{ℕ, ◌+◌, ◌≤◌, List, length}
use Rattle.lists.specs.Part.{between}
use Rattle.frames.specs.Kind.{leaf_size}
use Rattle.frames.specs.Form.{record_words}
use Rattle.frames.specs.declared.form.Form.{Form}
use Rattle.frames.specs.declared.frame.Frame.{Frame}
use Rattle.tree.specs.Arrive.{InnerFitsFrom}
use Rattle.tree.specs.declared.arrive.Arrival.{Arrival}
use Rattle.tree.specs.declared.arrive.Arrival.TheVariants.{Leaf, Inner, Broken}

-- an inner record's words, by its kind and first word
abbrev pub inner_rec : Form → List ℕ → ℕ → ℕ → List ℕ
inner_rec form words kind start = between words start (start + record_words form kind)

-- what was arrived at lies within the words, and an inner record obeys its rule
abbrev pub There : Frame → List ℕ → Arrival → Type 0
There f words (Leaf n start) = start + leaf_size ≤ length words
There f words (Inner kind start) = InnerFitsFrom f.form words kind start
There f words Broken = Unit {0}
