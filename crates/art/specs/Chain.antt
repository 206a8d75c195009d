-- The leaf list: all leaves in order, linked both ways, and the two changes of the links.
use Rattle.std.specs.Prelude.{◌≡◌, Bool, ◌&&◌, List, [], ◌∷◌, ◌++◌, ℕ, ◌+◌, ◌*◌, ◌/◌, eqb}
use Rattle.std.proofs.Math.Logic.{ite}
use Rattle.std.proofs.Math.Option.{Option, none, some}
use Rattle.std.proofs.Math.Decide.{ℕ_discrete}
use Rattle.art.specs.Tags.{Tag, Listing}
use Rattle.art.specs.Trees.{Tree, leaf, inner, Row, end, child}
use Rattle.art.specs.Puts.{put, leave}
use Rattle.art.specs.Orders.{first_of, after}

-- the reference to leaf n, the number that `ref_of` of frames gives to its place; 0 refers to nothing
abbrev pub leaf_ref : ℕ → ℕ
leaf_ref n = n * 8 + 5

-- what the links say: the first and the last of the list, and by a leaf's number the references before and after it
pub record Links : Type 0 where
  pub first : ℕ
  pub last : ℕ
  pub prev : ℕ → ℕ
  pub next : ℕ → ℕ

-- the reference after the leaf that r refers to: the first of the list where r is 0
abbrev pub after_ref : Links → ℕ → ℕ
after_ref k r = ite (ℕ_discrete r 0) k.first (k.next (r / 8))

-- the reference before it: the last of the list where r is 0
abbrev pub before_ref : Links → ℕ → ℕ
before_ref k r = ite (ℕ_discrete r 0) k.last (k.prev (r / 8))

-- the reference to the last of these leaves: r, where there is none
abbrev pub end_of : ℕ → List ℕ → ℕ
end_of r [] = r
end_of r (n ∷ ns) = end_of (leaf_ref n) ns

-- and to the first: nothing, where there is none
abbrev pub head_of : List ℕ → ℕ
head_of [] = 0
head_of (n ∷ ns) = leaf_ref n

-- these leaves, after the one that r refers to, are linked both ways up to the last, with 0 beyond
abbrev pub Linked : Links → ℕ → List ℕ → Type 0
Linked k r [] = (after_ref k r ≡ 0) × (k.last ≡ r)
Linked k r (n ∷ ns) = (k.prev n ≡ r) × (after_ref k r ≡ leaf_ref n) × Linked k (leaf_ref n) ns

-- leaf n is the one after the leaf that r refers to, both ways
abbrev pub follows : Links → ℕ → ℕ → Bool
follows k r n = eqb (k.prev n) r && eqb (after_ref k r) (leaf_ref n)

-- ── changes ──
-- x comes after the leaf that a refers to, or first of all where a is 0
abbrev pub set_after : Links → ℕ → ℕ → Links
set_after k a x = record {
  first = ite (ℕ_discrete a 0) x k.first;
  last = k.last;
  prev = k.prev;
  next = λ m. ite (ℕ_discrete (leaf_ref m) a) x (k.next m);
}

-- y comes before the leaf that b refers to, or last of all where b is 0
abbrev pub set_before : Links → ℕ → ℕ → Links
set_before k b y = record {
  first = k.first;
  last = ite (ℕ_discrete b 0) y k.last;
  prev = λ m. ite (ℕ_discrete (leaf_ref m) b) y (k.prev m);
  next = k.next;
}

-- leaf n's own links are p and q
abbrev pub own_links : Links → ℕ → ℕ → ℕ → Links
own_links k n p q = record {
  first = k.first;
  last = k.last;
  prev = λ m. ite (ℕ_discrete m n) p (k.prev m);
  next = λ m. ite (ℕ_discrete m n) q (k.next m);
}

-- all three: x after what a refers to, y before what b refers to, and leaf n's own links p and q
abbrev pub set_links : Links → (n p q a x b y : ℕ) → Links
set_links k n p q a x b y = own_links (set_before (set_after k a x) b y) n p q

-- leaf n between what a and b refer to
abbrev pub link_in : Links → (n a b : ℕ) → Links
link_in k n a b = set_links k n a b a (leaf_ref n) b (leaf_ref n)

-- leaf n taken out: its neighbours are each other's, and its own links are 0
abbrev pub link_out : Links → ℕ → Links
link_out k n = set_links k n 0 0 (k.prev n) (k.next n) (k.next n) (k.prev n)

-- ── the leaves in order ──
module _ {A : Type 0} where
  -- the numbers of a tree's leaves
  abbrev mutual
    pub leaves : Tree A → List ℕ
    leaves (leaf n s a) = n ∷ []
    leaves (inner k n run r) = row_leaves r

    -- those below each child of a row, one after the other
    pub row_leaves : Row A → List ℕ
    row_leaves end = []
    row_leaves (child b t r) = leaves t ++ row_leaves r

  -- those of a directory, which may have no tree
  abbrev pub leaves_of : Option (Tree A) → List ℕ
  leaves_of none = []
  leaves_of (some t) = leaves t

  -- a listing parted where a new tag goes in: the rest begins with the first at or after it
  abbrev pub PutParts : Tag → A → Listing A → Type 0
  PutParts s a l = (front : Listing A) × (rest : Listing A) × (l ≡ front ++ rest) × (put s a l ≡ front ++ (s, a) ∷ rest) × (after s l ≡ first_of rest)

  -- a listing parted at a held tag, which is left out
  abbrev pub LeaveParts : Tag → A → Listing A → Type 0
  LeaveParts s a l = (front : Listing A) × (rest : Listing A) × (l ≡ front ++ (s, a) ∷ rest) × (leave s l ≡ front ++ rest)

  -- where what is held carries a number
  module _ (number : A → ℕ) where
    -- the numbers of a listing in order
    abbrev pub numbers : Listing A → List ℕ
    numbers [] = []
    numbers (e ∷ l) = number e.1 ∷ numbers l

    -- the reference to the leaf that holds it, 0 for nothing
    abbrev pub option_ref : Option A → ℕ
    option_ref none = 0
    option_ref (some a) = leaf_ref (number a)

    -- the change keeps the number that is held
    abbrev pub KeepsNumber : (A → Option A) → Type 0
    KeepsNumber f = (a b : A) → f a ≡ some b → number b ≡ number a

    -- each leaf of a tree holds its own number
    abbrev mutual
      pub Numbered : Tree A → Type 0
      Numbered (leaf n s a) = number a ≡ n
      Numbered (inner k n run r) = NumberedRow r

      -- and so does each leaf below a row
      pub NumberedRow : Row A → Type 0
      NumberedRow end = Unit {0}
      NumberedRow (child b t r) = Numbered t × NumberedRow r
