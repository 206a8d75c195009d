-- The body of an inner record changed, by kind, and the body of a row.
use Rattle.std.specs.Prelude.{ℕ, zero, suc, ◌+◌, List, [], ◌∷◌, ◌++◌, get_or, set, eqb, leb}
use Rattle.lists.specs.Scan.{choose, is, at_least, first}
use Rattle.lists.specs.Part.{between}
use Rattle.lists.specs.Edit.{shift_in, shift_out, padded}
use Rattle.frames.specs.Kind.{byte_values, slot_places, slot_zero, children_of}
use Rattle.records.specs.Own.{slot_numbers, slot_refs}
use Rattle.records.specs.Row.{sorted_row, spread, ref_for}
use Rattle.edits.specs.Change.{ref_in}
use Rattle.edits.specs.declared.representation.Change.{Change}
use Rattle.edits.specs.declared.representation.Change.TheVariants.{Add, Remove, Replace}

-- ── kinds 1 and 2, with k places of which n are used ──
-- where a byte goes: the place of the first that is not below it, or after the last
abbrev pub place_for : List ℕ → ℕ → ℕ → ℕ
place_for body n byte = first (at_least byte) (between body 0 n)

-- where it is, or after the last where it is not
abbrev pub place_of : List ℕ → ℕ → ℕ → ℕ
place_of body n byte = first (is byte) (between body 0 n)

-- a child more: its byte among the ascending bytes, its reference at the same place
unfoldable pub sorted_add : ℕ → List ℕ → ℕ → ℕ → ℕ → List ℕ
sorted_add k body n byte ref =
    shift_in (place_for body n byte) byte (between body 0 k) ++ shift_in (place_for body n byte) ref (between body k (k + k))

-- a child less
unfoldable pub sorted_remove : ℕ → List ℕ → ℕ → ℕ → List ℕ
sorted_remove k body n byte = shift_out (place_of body n byte) (between body 0 k) ++ shift_out (place_of body n byte) (between body k (k + k))

-- another reference for a child
unfoldable pub sorted_replace : ℕ → List ℕ → ℕ → ℕ → ℕ → List ℕ
sorted_replace k body n byte ref = set body (k + place_of body n byte) ref

-- by the change
abbrev pub sorted_change : ℕ → List ℕ → ℕ → ℕ → Change → List ℕ
sorted_change k body n byte (Add ref) = sorted_add k body n byte ref
sorted_change k body n byte Remove = sorted_remove k body n byte
sorted_change k body n byte (Replace ref) = sorted_replace k body n byte ref

-- ── kind 3 ──
-- a new child takes the lowest unused slot
unfoldable pub slot_add : List ℕ → ℕ → ℕ → List ℕ
slot_add body byte ref = set (set body byte (first (is 0) (slot_refs body) + 1)) (byte_values + first (is 0) (slot_refs body)) ref

-- a child less leaves a hole
unfoldable pub slot_remove : List ℕ → ℕ → List ℕ
slot_remove body byte = set (set body byte 0) (slot_zero + get_or body byte 0) 0

-- another reference at the place that the slot number names
unfoldable pub slot_replace : List ℕ → ℕ → ℕ → List ℕ
slot_replace body byte ref = set body (slot_zero + get_or body byte 0) ref

-- by the change
abbrev pub slot_change : List ℕ → ℕ → Change → List ℕ
slot_change body byte (Add ref) = slot_add body byte ref
slot_change body byte Remove = slot_remove body byte
slot_change body byte (Replace ref) = slot_replace body byte ref

-- ── every kind: 1 and 2, 3, and 4, where a byte has its own place ──
-- by the kind; in kind 4 what stands for the byte afterwards is written at the byte's own place
unfoldable pub body_change : ℕ → List ℕ → ℕ → ℕ → Change → List ℕ
body_change kind body n byte change =
    choose (leb kind 2) (sorted_change (children_of kind) body n byte change) (choose (eqb kind 3) (slot_change body byte change) (set body byte (ref_in change)))

-- ── a place for each byte: the references of a body, and of a row ──
-- g of each of the m numbers from b on
abbrev pub tab : ℕ → ℕ → (ℕ → ℕ) → List ℕ
tab zero b g = []
tab (suc m) b g = g b ∷ tab m (suc b) g

-- the references of a row by their bytes
abbrev pub row_spread : List (ℕ × ℕ) → List ℕ
row_spread row = tab byte_values 0 (λ b. ref_for b row)

-- those of a body of kind 1 or 2, with k places of which n are used
unfoldable pub sorted_spread : ℕ → List ℕ → ℕ → List ℕ
sorted_spread k body n = row_spread (sorted_row k body n)

-- those of a body of kind 3: for each byte what its slot number names
unfoldable pub slot_spread : List ℕ → List ℕ
slot_spread body = spread (slot_refs body) (slot_numbers body)

-- by the kind; a body of kind 4 is these places
unfoldable pub body_spread : ℕ → List ℕ → ℕ → List ℕ
body_spread kind body n = choose (leb kind 2) (sorted_spread (children_of kind) body n) (choose (eqb kind 3) (slot_spread body) body)

-- ── the body of a row ──
-- its bytes
abbrev pub bytes_of : List (ℕ × ℕ) → List ℕ
bytes_of [] = []
bytes_of (e ∷ es) = e.0 ∷ bytes_of es

-- its references
abbrev pub refs_of : List (ℕ × ℕ) → List ℕ
refs_of [] = []
refs_of (e ∷ es) = e.1 ∷ refs_of es

-- the slot number of a byte: one more than its place in the row, 0 where it has none
abbrev pub slot_for : ℕ → List (ℕ × ℕ) → ℕ
slot_for b [] = 0
slot_for b (e ∷ es) = choose (eqb e.0 b) 1 (choose (eqb (slot_for b es) 0) 0 (suc (slot_for b es)))

-- the bytes in ascending order, and after them the references, each in its byte's place
unfoldable pub sorted_body : ℕ → List (ℕ × ℕ) → List ℕ
sorted_body k row = padded k (bytes_of row) ++ padded k (refs_of row)

-- the slot numbers of the bytes, given in byte order, then the references
unfoldable pub slot_body : List (ℕ × ℕ) → List ℕ
slot_body row = tab byte_values 0 (λ b. slot_for b row) ++ padded slot_places (refs_of row)

-- one child more at the end of a body that is filled in byte order, after i others
abbrev pub sorted_put : ℕ → ℕ → ℕ → ℕ → List ℕ → List ℕ
sorted_put k i byte ref body = set (set body i byte) (k + i) ref

-- and so in kind 3, where it takes slot i + 1
abbrev pub slot_put : ℕ → ℕ → ℕ → List ℕ → List ℕ
slot_put i byte ref body = set (set body byte (i + 1)) (byte_values + i) ref

-- by the kind
unfoldable pub body_of : ℕ → List (ℕ × ℕ) → List ℕ
body_of kind row = choose (leb kind 2) (sorted_body (children_of kind) row) (choose (eqb kind 3) (slot_body row) (row_spread row))
