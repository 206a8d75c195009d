-- Free records: those whose word 0 is 0.
use Rattle.std.specs.Prelude.{ℕ, zero, suc, ◌+◌, ◌-◌, List, get_or, eqb, ltb, Option, Some, None}
use Rattle.lists.specs.Scan.{choose}
use Rattle.frames.specs.declared.frame.Frame.{Frame}

-- of c records of z words, the first at word a: the number of the first that is free, or c
abbrev pub lowest_from : List ℕ → ℕ → ℕ → ℕ → ℕ
lowest_from words a z zero = 0
lowest_from words a z (suc c) = choose (eqb (get_or words a 0) 0) 0 (suc (lowest_from words (a + z) z c))

-- the lowest free number of a pool, or its capacity
unfoldable pub lowest_free : Frame → List ℕ → ℕ → ℕ
lowest_free f words kind = lowest_from words (get_or f.starts kind 0) (get_or f.sizes kind 0) (get_or f.caps kind 0)

-- a record that is free, by kind and number; or none
abbrev pub Free : Type 0
Free = Option (ℕ × ℕ)

-- in the first of so many kinds, from this one on, that has a free record
abbrev pub free_from : Frame → List ℕ → ℕ → ℕ → Free
free_from f words kind zero = None
free_from f words kind (suc more) =
    choose (ltb (lowest_free f words kind) (get_or f.caps kind 0)) (Some (kind, lowest_free f words kind)) (free_from f words (kind + 1) more)

-- the lowest free record of the smallest kind, from this one up to 4, that has one
unfoldable pub free_kind : Frame → List ℕ → ℕ → Free
free_kind f words kind = free_from f words kind (5 - kind)
