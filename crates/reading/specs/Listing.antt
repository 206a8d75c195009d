-- What is held, as a list of tags and totals; and walking by next leaf, as a list.
use Rattle.std.specs.Prelude.{ℕ, zero, suc, List, [], ◌∷◌, Ok, Err}
use Rattle.tree.specs.Answer.{Found}
use Rattle.records.specs.View.{Held}
use Rattle.tree.specs.Edge.{minimum_of}
use Rattle.leaves.specs.Leaf.{next_leaf_of, tag_of}
use Rattle.art.specs.Tags.{Listing}

-- tags with their totals
abbrev pub totals : Listing Held → Listing ℕ
totals [] = []
totals (e ∷ l) = (e.0, e.1.total) ∷ totals l

-- from an answer on, at most so many leaves: the answer's leaf with its tag, then those that next leaf answers, up to an answer that is no leaf
abbrev pub list_from : List ℕ → List ℕ → ℕ → Found → Listing Held
list_from words keys zero a = []
list_from words keys (suc most) (Ok leaf) =
    (tag_of words keys leaf.number, record { number = leaf.number; total = leaf.total }) ∷ list_from words keys most (next_leaf_of words keys leaf.number)
list_from words keys (suc most) (Err refusal) = []

-- from the minimum on
abbrev pub list_of : List ℕ → List ℕ → ℕ → Listing Held
list_of words keys most = list_from words keys most (minimum_of words keys)
