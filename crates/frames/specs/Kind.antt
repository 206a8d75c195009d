-- The kind table, and the rules that its rows keep.
use Rattle.std.specs.Prelude.{ℕ, suc, ◌+◌, ◌-◌, ◌≤◌, ◌<◌, ◌≡◌, List, [], ◌∷◌, get_or, leb}
use Rattle.lists.specs.Scan.{choose}
use Rattle.frames.specs.declared.kind.KindRow.{KindRow}

-- children, words of a record in form 1, and the number of children at or below which a record shrinks (never, for kind 1)
abbrev pub kind_table : List KindRow
kind_table =
    record { children = 4; words = 19; mark = 0 }
    ∷ record { children = 16; words = 43; mark = 4 }
    ∷ record { children = 48; words = 315; mark = 16 }
    ∷ record { children = 256; words = 267; mark = 48 }
    ∷ []

-- what no kind has
abbrev pub no_row : KindRow
no_row = record { children = 0; words = 0; mark = 0 }

-- a kind's row, kinds being 1 to 4
unfoldable pub kind_row : ℕ → KindRow
kind_row kind = get_or kind_table (kind - 1) no_row

-- the most children that a record of the kind holds
abbrev pub children_of : ℕ → ℕ
children_of kind = (kind_row kind).children

-- a record of the kind that is left with so many children or fewer may shrink
abbrev pub mark_of : ℕ → ℕ
mark_of kind = (kind_row kind).mark

-- of these rows, the first being that of a kind, the kind of the first that holds so many children; the one after the last where none does
abbrev pub kind_from : ℕ → ℕ → List KindRow → ℕ
kind_from children kind [] = kind
kind_from children kind (row ∷ rows) = choose (leb children row.children) kind (kind_from children (suc kind) rows)

-- the smallest kind that holds so many children
unfoldable pub kind_for : ℕ → ℕ
kind_for children = kind_from children 1 kind_table

-- the words after the head, whatever the form: those of the record in form 1 less its head of 11
abbrev pub body_words : ℕ → ℕ
body_words kind = (kind_row kind).words - 11

-- ── the bodies of kinds 3 and 4 ──
-- how many values a byte has: kind 4 has a reference for each, kind 3 a slot number
abbrev pub byte_values : ℕ
byte_values = 256

-- how many references kind 3 has, by the table; slot numbers name them, from 1 on
abbrev pub slot_places : ℕ
slot_places = (get_or kind_table 2 no_row).children

-- the words of kind 3's body: the slot numbers, then the references
abbrev pub slot_words : ℕ
slot_words = byte_values + slot_places

-- where in that body a slot 0 would be: slot s is at slotZero + s
abbrev pub slot_zero : ℕ
slot_zero = byte_values - 1

-- ── leaves ──
-- the words of a leaf
abbrev pub leaf_size : ℕ
leaf_size = 6

-- ── the rules of the table ──
-- the words after the head: kinds 1 and 2 two for each child, kind 3 a slot number for each byte and one for each child, kind 4 one for each child
unfoldable pub layout : ℕ → ℕ → ℕ
layout kind children = choose (leb kind 2) (children + children) (choose (leb kind 3) (byte_values + children) children)

-- the children of the next smaller kind, 0 for kind 1
unfoldable pub before : ℕ → ℕ
before kind = choose (leb 2 kind) (children_of (kind - 1)) 0

-- a record is a head of 11 words and what its kind lays out; it holds 4 to 256 children, more than the next smaller kind, and shrinks where that kind has room
pub record KindRules (kind : ℕ) : Type 0 where
  pub words : (kind_row kind).words ≡ 11 + layout kind (children_of kind)
  pub least : 4 ≤ children_of kind
  pub most : children_of kind ≤ byte_values
  pub mark : mark_of kind ≡ before kind
  pub rise : before kind < children_of kind
