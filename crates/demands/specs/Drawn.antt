-- What a block draws: tags, lengths, first bytes, child bytes and totals, and no address; and how many of its inner records are in use.
use Rattle.std.specs.Prelude.{ℕ, zero, suc, ◌+◌, List, [], ◌∷◌, get_or}
use Rattle.lists.specs.Scan.{choose, nonzero}
use Rattle.frames.specs.declared.frame.Frame.{Frame}
use Rattle.frames.specs.Frame.{frame, root_word}
use Rattle.frames.specs.Place.{place_at, record_at}
use Rattle.records.specs.Words.{used_as}
use Rattle.records.specs.View.{Held, cell_of}
use Rattle.art.specs.Drawings.{Drawing, nothing, one, branch, Kids, done, kid}
use Rattle.art.specs.Stores.{Place, inner_place, Cell, unused, leaf_cell, inner_cell, Store}

-- ── the drawing, read from the records ──
-- the children of a row, by what stands below each of its places
abbrev pub kids_drawn : List (ℕ × Place) → (Place → Drawing ℕ) → Kids ℕ
kids_drawn [] below = done
kids_drawn (e ∷ rs) below = kid e.0 (below e.1) (kids_drawn rs below)

-- one record: nothing where it is free, a leaf's tag and total, or an inner record's length, first bytes and children
abbrev pub cell_drawn : Cell Held → (Place → Drawing ℕ) → Drawing ℕ
cell_drawn unused below = nothing
cell_drawn (leaf_cell t a) below = one t a.total
cell_drawn (inner_cell len st rs) below = branch len st (kids_drawn rs below)

-- from a place down, with so many records on the path
abbrev pub drawn_from : ℕ → Store Held → Place → Drawing ℕ
drawn_from zero σ x = nothing
drawn_from (suc most) σ x = cell_drawn (σ x) (λ y. drawn_from most σ y)

-- from the root on: as many inner records as a path may have, and a leaf
abbrev pub drawing_of : (words keys : List ℕ) → Drawing ℕ
drawing_of words keys = let f = frame words in drawn_from (suc f.form.limit) (cell_of f words keys) (place_at (root_word words))

-- ── inner records in use: those that are not free ──
-- of a kind, with a number below n
abbrev pub used_below : Frame → List ℕ → ℕ → ℕ → ℕ
used_below f words k zero = 0
used_below f words k (suc n) = used_below f words k n + choose {A = ℕ} (nonzero (used_as (record_at f words (inner_place k n)))) 1 0

-- of all four kinds, each in all its pool, in the frame that the trailer gives
abbrev pub used_inner : List ℕ → ℕ
used_inner words = let f = frame words in let of : ℕ → ℕ = λ k. used_below f words k (get_or f.caps k 0) in of 1 + of 2 + of 3 + of 4
