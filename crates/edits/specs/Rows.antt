-- A record's row of children, and the changes to it: one more, one less, another reference for one.
use Rattle.std.specs.Prelude.{ℕ, ◌<◌, ◌≡◌, List, [], ◌∷◌, length}
use Rattle.std.proofs.Math.Logic.{ite}
use Rattle.std.proofs.Math.Decide.{ℕ_discrete}
use Rattle.frames.specs.Place.{place_at}
use Rattle.art.specs.Tags.{Order, order, below, equal, above}
use Rattle.art.specs.Refs.{Refs, add_ref, cut_ref, re_ref}
use Rattle.records.specs.Row.{ref_for}
use Rattle.edits.specs.declared.representation.Change.{Change}
use Rattle.edits.specs.declared.representation.Change.TheVariants.{Add, Remove, Replace}

-- bytes ascending, each with its reference
abbrev pub Row : Type 0
Row = List (ℕ × ℕ)

-- a child for b where there was none, in byte order
abbrev pub row_insert_by : (b r : ℕ) (e : ℕ × ℕ) → Order b e.0 → Row → Row → Row
row_insert_by b r e (below h) es more = (b, r) ∷ e ∷ es
row_insert_by b r e (equal h) es more = e ∷ es
row_insert_by b r e (above h) es more = e ∷ more

-- by the order of b and the first byte; a child for b that is there stays
abbrev pub row_insert : ℕ → ℕ → Row → Row
row_insert b r [] = (b, r) ∷ []
row_insert b r (e ∷ es) = row_insert_by b r e (order b e.0) es (row_insert b r es)

-- a new branching's two children, for different bytes
abbrev pub row_pair : ℕ → ℕ → ℕ → ℕ → Row
row_pair x t y u = row_insert x t ((y, u) ∷ [])

-- without the child for b
abbrev pub row_remove : ℕ → Row → Row
row_remove b [] = []
row_remove b (e ∷ es) = ite (ℕ_discrete b e.0) es (e ∷ row_remove b es)

-- another reference for the child for b
abbrev pub row_replace : ℕ → ℕ → Row → Row
row_replace b r [] = []
row_replace b r (e ∷ es) = ite (ℕ_discrete b e.0) ((e.0, r) ∷ es) (e ∷ row_replace b r es)

-- by the change
abbrev pub row_change : ℕ → Change → Row → Row
row_change b (Add r) row = row_insert b r row
row_change b Remove row = row_remove b row
row_change b (Replace r) row = row_replace b r row

-- and so of the places that a record's cell shows
abbrev pub refs_change : ℕ → Change → Refs → Refs
refs_change b (Add r) rs = add_ref b (place_at r) rs
refs_change b Remove rs = cut_ref b rs
refs_change b (Replace r) rs = re_ref rs b (place_at r)

-- a record with k places and this row can be changed so: a child more where there is room and none for b, else the child that there is; and a reference that it
-- gets is not 0
abbrev pub Takes : ℕ → ℕ → Change → Row → Type 0
Takes k b (Add r) row = (length row < k) × ((ref_for b row ≡ 0) × (0 < r))
Takes k b Remove row = 0 < ref_for b row
Takes k b (Replace r) row = (0 < ref_for b row) × (0 < r)
