-- Heights, branchings, and histories of calls.
use Rattle.std.proofs.Math.Option.{Option, none, some}
use Rattle.std.specs.Prelude.{List, [], ◌∷◌, ℕ, suc, ◌+◌, max}
use Rattle.art.specs.Tags.{Tag, Listing}
use Rattle.art.specs.Trees.{Tree, leaf, inner, Row, end, child}
use Rattle.art.specs.Drawings.{Drawing, nothing, one, branch, Kids, done, kid, sketch}
use Rattle.art.specs.Puts.{put, alter}
use Rattle.art.specs.Changes.{Plan, grow}
use Rattle.art.specs.Deletes.{Home, stay, change}
use Rattle.art.specs.Verdicts.{Verdict, known, clash, free, judge, judge_tree}

module _ {A : Type 0} where
  -- the most inner records on a path
  abbrev mutual
    pub height : Tree A → ℕ
    height (leaf n s a) = 0
    height (inner k n run r) = suc (row_height r)

    -- the most below any child of a row
    pub row_height : Row A → ℕ
    row_height end = 0
    row_height (child b t r) = max (height t) (row_height r)

  -- ── branchings ──
  -- how many inner records a tree has
  abbrev mutual
    pub forks : Tree A → ℕ
    forks (leaf n s a) = 0
    forks (inner k n run r) = suc (row_forks r)

    -- how many there are below all children of a row
    pub row_forks : Row A → ℕ
    row_forks end = 0
    row_forks (child b t r) = forks t + row_forks r

  -- how many branchings a drawing has
  abbrev mutual
    pub branchings : Drawing A → ℕ
    branchings nothing = 0
    branchings (one t a) = 0
    branchings (branch n st ks) = suc (kids_branchings ks)

    -- how many all children of a branching have
    pub kids_branchings : Kids A → ℕ
    kids_branchings done = 0
    kids_branchings (kid b d ks) = branchings d + kids_branchings ks

-- ── histories ──
-- a call: insert, with how a held value changes and the addresses of a new tag (none: no room); or delete, with where a record goes that loses a child
pub data Call (A : Type 0) : Type 0 where
  insert : (s : Tag) (a : A) (over : A → A) (room : Option Plan) → Call A
  delete : (s : Tag) (home : Home) → Call A

module _ {A : Type 0} where
  -- a tag put in where there is room
  abbrev pub put_room : Tag → A → Option Plan → Listing A → Listing A
  put_room s a none l = l
  put_room s a (some pl) l = put s a l

  -- an insert by its verdict: a held tag is changed, one that clashes is refused, a free one goes in
  abbrev pub insert_listing : Verdict → Tag → A → (A → A) → Option Plan → Listing A → Listing A
  insert_listing known s a f room l = alter (λ x. some (f x)) s l
  insert_listing clash s a f room l = l
  insert_listing free s a f room l = put_room s a room l

  -- what a call makes of the listing
  abbrev pub step_listing : Listing A → Call A → Listing A
  step_listing l (insert s a f room) = insert_listing (judge s l) s a f room l
  step_listing l (delete s hm) = alter (λ x. none) s l

  -- a tree grown where there is room
  abbrev pub grow_room : Tree A → Tag → A → Option Plan → Option (Tree A)
  grow_room t s a none = some t
  grow_room t s a (some pl) = some (grow t pl s a)

  -- and so on a tree
  abbrev pub insert_tree : Verdict → Tree A → Tag → A → (A → A) → Option Plan → Option (Tree A)
  insert_tree known t s a f room = change t (λ x. some (f x)) stay s
  insert_tree clash t s a f room = some t
  insert_tree free t s a f room = grow_room t s a room

  -- and the first tag of an empty directory
  abbrev pub first_leaf : Tag → A → Option Plan → Option (Tree A)
  first_leaf s a none = none
  first_leaf s a (some pl) = some (leaf pl.leaf_number s a)

  -- what a call makes of the tree
  abbrev pub step : Option (Tree A) → Call A → Option (Tree A)
  step none (insert s a f room) = first_leaf s a room
  step none (delete s hm) = none
  step (some t) (insert s a f room) = insert_tree (judge_tree t s) t s a f room
  step (some t) (delete s hm) = change t (λ x. none) hm s

  -- calls one after the other, on a tree
  abbrev pub run_all : Option (Tree A) → List (Call A) → Option (Tree A)
  run_all o [] = o
  run_all o (c ∷ cs) = run_all (step o c) cs

  -- and on a listing
  abbrev pub run_listing : Listing A → List (Call A) → Listing A
  run_listing l [] = l
  run_listing l (c ∷ cs) = run_listing (step_listing l c) cs

  -- what a directory draws
  abbrev pub drawn : Option (Tree A) → Drawing A
  drawn none = nothing
  drawn (some t) = sketch [] t
