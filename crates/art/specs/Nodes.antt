-- What the records show of a tree, and the walk over it.
use Rattle.std.specs.Prelude.{◌≡◌, Bool, true, false, ◌||◌, List, [], ◌∷◌, ◌++◌, ℕ, suc, ◌+◌, min, length, take, drop, get_or, ltb}
use Rattle.std.proofs.Math.Logic.{ite}
use Rattle.std.proofs.Math.Option.{Option, none, some}
use Rattle.std.proofs.Math.Decide.{ℕ_discrete, dec_le}
use Rattle.art.specs.Tags.{Tag, Begins, tag_dec, Aim, fits_dec}
use Rattle.art.specs.Trees.{Tree, leaf, inner, Row, end, child}

-- a leaf shows its whole tag; a record its length, the stored bytes and its children
mutual
  pub data Node (A : Type 0) : Type 0 where
    leaf_node : (number : ℕ) (tag : Tag) (held : A) → Node A
    inner_node : (kind number len : ℕ) (stored : List ℕ) (row : NodeRow A) → Node A

  -- the children of a record: each has a byte, and what is shown below it
  pub data NodeRow (A : Type 0) : Type 0 where
    end_node : NodeRow A
    child_node : (byte : ℕ) (node : Node A) (row : NodeRow A) → NodeRow A

-- the stored bytes are compared where nothing was skipped before
abbrev pub Meets : Bool → List ℕ → Tag → Type 0
Meets true st z = Unit {0}
Meets false st z = take (length st) z ≡ st

-- whether they are met
unfoldable pub meets_dec : (sk : Bool) (st : List ℕ) (z : Tag) → Dec (Meets sk st z)
unfolding tag_dec
meets_dec true st z = yes tt
meets_dec false st z = tag_dec (take (length st) z) st

-- where the comparison at a leaf begins
abbrev pub start : Bool → ℕ → Tag → Tag → ℕ
start true d s t = 0
start false d s t = min d (min (length s) (length t))

-- the path is known to begin the tag where nothing was skipped
abbrev pub Known : Bool → Tag → Tag → Type 0
Known true p s = Unit {0}
Known false p s = Begins p s

module _ {A : Type 0} where
  -- what the records show of a tree below the path p
  abbrev mutual
    pub show : Tag → Tree A → Node A
    show p (leaf n s a) = leaf_node n (p ++ s) a
    show p (inner k n run r) = inner_node k n (length run) (take 8 run) (show_row (p ++ run) r)

    -- and so for each child of a row, below the path q and its byte
    pub show_row : Tag → Row A → NodeRow A
    show_row q end = end_node
    show_row q (child b t r) = child_node b (show (q ++ b ∷ []) t) (show_row q r)

  -- ── the walk ──
  -- at depth d, with sk where bytes were skipped: a leaf is compared, a record's stored bytes are met, and the byte after its run names the child
  abbrev mutual
    pub walk : Node A → Aim → ℕ → Bool → Tag → Option A
    walk (leaf_node n t a) m d sk s = ite (fits_dec m (drop (start sk d s t) s) (drop (start sk d s t) t)) (some a) none
    walk (inner_node k n len st r) m d sk s =
        ite (meets_dec sk st (drop d s)) (ite (dec_le (length s) (d + len)) none (walk_row r m (get_or s (d + len) 0) (suc (d + len)) (sk || ltb 8 len) s)) none

    -- on from the child for b; where there is none nothing is found
    pub walk_row : NodeRow A → Aim → ℕ → ℕ → Bool → Tag → Option A
    walk_row end_node m b d sk s = none
    walk_row (child_node c t r) m b d sk s = ite (ℕ_discrete b c) (walk t m d sk s) (walk_row r m b d sk s)
