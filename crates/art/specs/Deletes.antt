-- Change what a tree holds for a tag, or leave the tag out, with merging.
use Rattle.std.proofs.Math.Logic.{ite}
use Rattle.std.specs.Prelude.{Bool, true, false, [], ◌∷◌, ◌++◌, ℕ}
use Rattle.std.proofs.Math.Option.{Option, none, some}
use Rattle.std.proofs.Math.Decide.{ℕ_discrete}
use Rattle.art.specs.Tags.{Tag, Listing, tag_dec}
use Rattle.art.specs.Trees.{Tree, leaf, inner, Row, end, child, contents, Good, count}
use Rattle.art.specs.Changes.{Meet, same, short, long, part, meet}

-- where a record goes that has lost a child: its kind, its number, and how many are left
abbrev pub Home : Type 0
Home = ℕ → ℕ → ℕ → ℕ × ℕ

-- it stays where it is
abbrev pub stay : Home
stay k n l = (k, n)

module _ {A : Type 0} where
  -- whether it leaves out
  abbrev pub is_none : Option A → Bool
  is_none none = true
  is_none (some a) = false

  -- the tree is one leaf, for this tag, and f leaves it out
  abbrev pub lost : (A → Option A) → Tree A → Tag → Bool
  lost f (leaf n rest a) s = ite (tag_dec s rest) (is_none (f a)) false
  lost f (inner k n run r) s = false

  -- and so of the child for x
  abbrev pub lost_row : (A → Option A) → Row A → ℕ → Tag → Bool
  lost_row f end x u = false
  lost_row f (child c t r) x u = ite (ℕ_discrete x c) (lost f t u) (lost_row f r x u)

  -- the row without its child for x
  abbrev pub cut_row : ℕ → Row A → Row A
  cut_row x end = end
  cut_row x (child c t r) = ite (ℕ_discrete x c) r (child c t (cut_row x r))

  -- the tree further up: with p before each of its tags
  abbrev pub graft : Tag → Tree A → Tree A
  graft p (leaf n s a) = leaf n (p ++ s) a
  graft p (inner k n run r) = inner k n (p ++ run) r

  -- a record that has lost a child: one child left takes its place
  abbrev pub settle : Home → (k n : ℕ) (run : Tag) → Row A → Tree A
  settle hm k n run end = inner k n run end
  settle hm k n run (child b t end) = graft (run ++ b ∷ []) t
  settle hm k n run (child b t (child c u r)) = let r' : Row A = child b t (child c u r) in inner (hm k n (count r')).0 (hm k n (count r')).1 run r'

  -- a leaf with what it holds changed
  abbrev pub re_leaf : ℕ → Tag → A → Option A → Tree A
  re_leaf n rest a none = leaf n rest a
  re_leaf n rest a (some b) = leaf n rest b

  -- at a record whose run is met whole: without the child that is lost, or with it changed
  abbrev pub prune_child : Home → (k n : ℕ) (run : Tag) (r : Row A) (x : ℕ) → Bool → Row A → Tree A
  prune_child hm k n run r x true r' = settle hm k n run (cut_row x r)
  prune_child hm k n run r x false r' = inner k n run r'

  -- at a record: any other tag is not below it
  abbrev pub prune_inner : (A → Option A) → Home → (s : Tag) (k n : ℕ) (run : Tag) (r : Row A) → Meet s run → (ℕ → Tag → Row A) → Tree A
  prune_inner f hm s k n run r (same e) rec = inner k n run r
  prune_inner f hm s k n run r (short y v e) rec = inner k n run r
  prune_inner f hm s k n run r (long x u e) rec = prune_child hm k n run r x (lost_row f r x u) (rec x u)
  prune_inner f hm s k n run r (part c x u y v i j ne) rec = inner k n run r

  -- the tree with what it holds for s changed or left out, where it is not lost whole
  abbrev mutual
    pub prune : Tree A → (A → Option A) → Home → Tag → Tree A
    prune (leaf n rest a) f hm s = ite (tag_dec s rest) (re_leaf n rest a (f a)) (leaf n rest a)
    prune (inner k n run r) f hm s = prune_inner f hm s k n run r (meet s run) (λ x u. prune_row r f hm x u)

    -- the row with the child for x so changed
    pub prune_row : Row A → (A → Option A) → Home → ℕ → Tag → Row A
    prune_row end f hm x u = end
    prune_row (child c t r) f hm x u = ite (ℕ_discrete x c) (child c (prune t f hm u) r) (child c t (prune_row r f hm x u))

  -- the whole directory
  abbrev pub drop_whole : Bool → Tree A → Option (Tree A)
  drop_whole true t = none
  drop_whole false t = some t

  -- what is held for s changed by f, or left out
  abbrev pub change : Tree A → (A → Option A) → Home → Tag → Option (Tree A)
  change t f hm s = drop_whole (lost f t s) (prune t f hm s)

  -- ── the whole directory ──
  -- what a directory holds
  abbrev pub held : Option (Tree A) → Listing A
  held none = []
  held (some t) = contents t

  -- its tree is good
  abbrev pub Sane : Option (Tree A) → Type 0
  Sane none = Unit {0}
  Sane (some t) = Good t
