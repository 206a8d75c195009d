-- The reading calls, each as a question to the sorted list of tags, leaf numbers and totals.
use Rattle.std.specs.Prelude.{ℕ, ◌≤◌, ◌≡◌, ◌≢◌, List, [], ◌∷◌, ◌++◌, length, Ok, Err}
use Rattle.refusals.specs.declared.Refusal.TheVariants.{NotInUse}
use Rattle.records.specs.View.{Held}
use Rattle.tree.specs.Walk.{search_of, prefix_search_of}
use Rattle.tree.specs.Edge.{minimum_of, maximum_of}
use Rattle.leaves.specs.Leaf.{next_leaf_of, facts_of, tag_of}
use Rattle.art.specs.Tags.{Tag, Listing}
use Rattle.art.specs.Listings.{Sorted, lookup, lookup_begun}
use Rattle.art.specs.Members.{In}
use Rattle.art.specs.Orders.{first_of, last_of}
use Rattle.reading.specs.Answers.{Bytes, answer_of}
use Rattle.reading.specs.Listing.{list_of}

-- no entry of the list has this leaf number
abbrev pub Free : ℕ → Listing Held → Type 0
Free n l = (e : Tag × Held) → In e l → e.1.number ≢ n

-- the calls read this list
pub record Reads (words keys : List ℕ) (l : Listing Held) : Type 0 where
  -- each tag comes before all later ones, and begins none of them
  pub order : Sorted l
  -- search finds a tag exactly when it is held, with its last total and its leaf
  pub search : (tag : List ℕ) → Bytes tag → search_of words keys tag ≡ answer_of (lookup tag l)
  -- prefix search finds the one that the given bytes begin with
  pub prefix_search : (tag : List ℕ) → Bytes tag → prefix_search_of words keys tag ≡ answer_of (lookup_begun tag l)
  -- minimum and maximum are the first and the last
  pub minimum : minimum_of words keys ≡ answer_of (first_of l)
  pub maximum : maximum_of words keys ≡ answer_of (last_of l)
  -- next leaf is the one after it
  pub next_leaf : (front : Listing Held) (e : Tag × Held) (rest : Listing Held) → l ≡ front ++ e ∷ rest
      → next_leaf_of words keys e.1.number ≡ answer_of (first_of rest)
  -- leaf facts are the tag's length and the total, leaf tag is the tag
  pub leaf_facts : (e : Tag × Held) → In e l → facts_of words keys e.1.number ≡ Ok (record { length = length e.0; total = e.1.total })
  pub leaf_tag : (e : Tag × Held) → In e l → tag_of words keys e.1.number ≡ e.0
  -- any other number is no leaf in use
  pub next_free : (n : ℕ) → Free n l → next_leaf_of words keys n ≡ Err NotInUse
  pub facts_free : (n : ℕ) → Free n l → facts_of words keys n ≡ Err NotInUse
  pub tag_free : (n : ℕ) → Free n l → tag_of words keys n ≡ []
  -- walking by next leaf from the minimum lists every tag once, in order, and then ends
  pub walk : (most : ℕ) → length l ≤ most → list_of words keys most ≡ l
