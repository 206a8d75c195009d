-- Trees of tags: what stands below a path, children in byte order.
use Rattle.std.specs.Prelude.{[], ◌∷◌, ◌++◌, ℕ, suc, ◌≤◌, ◌<◌}
use Rattle.art.specs.Tags.{Tag, Listing}
use Rattle.art.specs.Listings.{under}

-- What stands below a path: a leaf has the rest of its tag, a branching the whole run that its tags share, then a byte for each child.
mutual
  pub data Tree (A : Type 0) : Type 0 where
    leaf : (number : ℕ) (rest : Tag) (held : A) → Tree A
    inner : (kind number : ℕ) (run : Tag) (row : Row A) → Tree A

  -- the children of a branching: each has a byte, and the tree below it
  pub data Row (A : Type 0) : Type 0 where
    end : Row A
    child : (byte : ℕ) (tree : Tree A) (row : Row A) → Row A

-- the tag's first byte is above b
abbrev pub HeadAbove : ℕ → Tag → Type 0
HeadAbove b [] = ⊥
HeadAbove b (c ∷ s) = b < c

module _ {A : Type 0} where
  -- the leaves in order, with their tags from the path on
  abbrev mutual
    pub contents : Tree A → Listing A
    contents (leaf n s a) = (s, a) ∷ []
    contents (inner k n run r) = under run (row_contents r)

    -- those below each child of a row, with its byte first
    pub row_contents : Row A → Listing A
    row_contents end = []
    row_contents (child b t r) = under (b ∷ []) (contents t) ++ row_contents r

  -- every byte of the row is above b
  abbrev pub Above : ℕ → Row A → Type 0
  Above b end = Unit {0}
  Above b (child c t r) = (b < c) × Above b r

  -- how many children
  abbrev pub count : Row A → ℕ
  count end = 0
  count (child b t r) = suc (count r)

  -- two children or more
  abbrev pub Many : Row A → Type 0
  Many r = 2 ≤ count r

  -- every branching has two children or more, with ascending bytes
  abbrev mutual
    pub Good : Tree A → Type 0
    Good (leaf n s a) = Unit {0}
    Good (inner k n run r) = Many r × GoodRow r

    -- each child is good, and its byte is below those after it
    pub GoodRow : Row A → Type 0
    GoodRow end = Unit {0}
    GoodRow (child b t r) = Good t × Above b r × GoodRow r
