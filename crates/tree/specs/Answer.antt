-- What the walks and the calls on a leaf answer: values, or a refusal, with 0 for each value that a refusal has not.
use Rattle.std.specs.Prelude.{ℕ, List, Result, Ok, Err}
use Rattle.refusals.specs.Refusal.{number_in}
use Rattle.refusals.specs.declared.Refusal.{Refusal}
use Rattle.records.specs.Words.{tag_length}
use Rattle.records.specs.Own.{total_of}
use Rattle.tree.specs.declared.answer.Leaf.{Leaf}
use Rattle.tree.specs.declared.answer.Facts.{Facts}

-- a leaf's number and total, or why there is none
abbrev pub Found : Type 0
Found = Result Leaf Refusal

-- 0 done, or the number of the refusal
abbrev pub found_number : Found → ℕ
found_number a = number_in a

-- the number of the leaf that is found
abbrev pub found_leaf : Found → ℕ
found_leaf (Ok leaf) = leaf.number
found_leaf (Err refusal) = 0

-- its total
abbrev pub found_total : Found → ℕ
found_total (Ok leaf) = leaf.total
found_total (Err refusal) = 0

-- a leaf's tag length and total, or why there are none
abbrev pub LeafFacts : Type 0
LeafFacts = Result Facts Refusal

-- 0 done, or the number of the refusal
abbrev pub facts_number : LeafFacts → ℕ
facts_number a = number_in a

-- how many bytes the tag of the leaf has
abbrev pub facts_length : LeafFacts → ℕ
facts_length (Ok facts) = facts.length
facts_length (Err refusal) = 0

-- its total
abbrev pub facts_total : LeafFacts → ℕ
facts_total (Ok facts) = facts.total
facts_total (Err refusal) = 0

-- leaf n, with the total that its record has
abbrev pub leaf_found : ℕ → List ℕ → Found
leaf_found n rec = Ok (record { number = n; total = total_of rec })

-- the length and the total that a leaf's record has
abbrev pub facts_here : List ℕ → Facts
facts_here rec = record { length = tag_length rec; total = total_of rec }
