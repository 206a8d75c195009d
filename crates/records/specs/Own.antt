-- A record's own rule, and the child for a byte, of a record's words alone. A head is laid out by the form, a body by the kind.
use Rattle.std.specs.Prelude.{ℕ, ◌+◌, ◌-◌, ◌*◌, ◌≤◌, ◌<◌, ◌≡◌, List, [], ◌∷◌, Bool, true, ◌&&◌, length, get_or, eqb, leb, ltb}
use Rattle.lists.specs.Scan.{choose, is, at_most, nonzero, all_pass, first, how_many, rises}
use Rattle.prefix.specs.Run.{capped}
use Rattle.prefix.specs.declared.Prefix.{Prefix}
use Rattle.lists.specs.Part.{between}
use Rattle.frames.specs.Kind.{byte_values, slot_places, slot_words, children_of, body_words}
use Rattle.frames.specs.Form.{header, record_words, stored_of}
use Rattle.frames.specs.declared.form.Form.{Form}
use Rattle.records.specs.Words.{used_as, child_count, full_length, tag_length}

-- an inner record's prefix: its full length in word 2, and its stored bytes
unfoldable pub prefix_at : Form → List ℕ → Prefix
prefix_at form rec = record { full = record { 0 = full_length rec }; stored = stored_of form rec }

-- word 0 its kind; 2 children or more; length at most the form's limit; prefix words at most 255, the unused ones 0
unfoldable pub head_ok : Form → ℕ → List ℕ → Bool
head_ok form kind rec =
    eqb (used_as rec) kind
    && leb 2 (child_count rec)
    && leb (full_length rec) form.limit
    && all_pass (at_most 255) (stored_of form rec)
    && all_pass (at_most 0) (between (stored_of form rec) (capped (full_length rec)) 8)

-- kinds 1 and 2, with k places and n children: ascending key bytes, then references, none 0; the rest 0
unfoldable pub sorted_ok : ℕ → List ℕ → ℕ → Bool
sorted_ok k body n =
    rises 0 (between body 0 n)
    && all_pass (at_most 0) (between body n k)
    && all_pass nonzero (between body k (k + n))
    && all_pass (at_most 0) (between body (k + n) (k + k))

-- kind 3: its slot numbers, one a byte
abbrev pub slot_numbers : List ℕ → List ℕ
slot_numbers body = between body 0 byte_values

-- and behind them its places for references
abbrev pub slot_refs : List ℕ → List ℕ
slot_refs body = between body byte_values slot_words

-- the places from number j on: a filled one is named by one slot number, an empty one by none
abbrev pub named : List ℕ → ℕ → List ℕ → Bool
named slots j [] = true
named slots j (r ∷ rs) = eqb (how_many (is (j + 1)) slots) (choose (nonzero r) 1 0) && named slots (j + 1) rs

-- a list of counts: how many slots name each place, at the place's number
pub record Tallied (slots t : List ℕ) : Type 0 where
  pub each : (x : ℕ) → x < slot_places + 1 → get_or t x 0 ≡ how_many (is x) slots

-- kind 3 with n children: no slot number past the last place, n of the places filled, each filled place named by one slot number and an empty one by none
unfoldable pub indirect_ok : List ℕ → ℕ → Bool
indirect_ok body n =
    all_pass (at_most slot_places) (slot_numbers body)
    && eqb (how_many nonzero (slot_refs body)) n
    && named (slot_numbers body) 0 (slot_refs body)

-- what of it settles the row: the slot numbers are those of places, and name just the filled ones
pub record SlotsFit (body : List ℕ) : Type 0 where
  pub low : all_pass (at_most slot_places) (slot_numbers body) ≡ true
  pub names : named (slot_numbers body) 0 (slot_refs body) ≡ true

-- kind 4 with n children: n of the references are not 0
unfoldable pub direct_ok : List ℕ → ℕ → Bool
direct_ok body n = eqb (how_many nonzero body) n

-- a body's part of the rule, by the kind
unfoldable pub body_ok : ℕ → List ℕ → ℕ → Bool
body_ok kind body n = choose (leb kind 2) (sorted_ok (children_of kind) body n) (choose (eqb kind 3) (indirect_ok body n) (direct_ok body n))

-- what follows a record's head
abbrev pub body_part : Form → ℕ → List ℕ → List ℕ
body_part form kind rec = between rec (header form) (record_words form kind)

-- an inner record's own rule: no more children than its kind holds, its head, and its body with so many children
unfoldable pub inner_ok : Form → ℕ → List ℕ → Bool
inner_ok form kind rec =
    leb (child_count rec) (children_of kind) && (head_ok form kind rec && body_ok kind (body_part form kind rec) (child_count rec))

-- a body of its kind's length that obeys its part of the rule with n children
pub record BodyFits (kind : ℕ) (body : List ℕ) (n : ℕ) : Type 0 where
  pub low : 1 ≤ kind
  pub high : kind ≤ 4
  pub long : length body ≡ body_words kind
  pub few : n ≤ children_of kind
  pub ok : body_ok kind body n ≡ true

-- a record of its kind's length that obeys its own rule
pub record InnerFits (form : Form) (kind : ℕ) (rec : List ℕ) : Type 0 where
  pub low : 1 ≤ kind
  pub high : kind ≤ 4
  pub long : length rec ≡ record_words form kind
  pub ok : inner_ok form kind rec ≡ true

-- ── the reference for a byte, 0 where there is none ──
-- kinds 1 and 2: at the place where the byte stands among the n key bytes
unfoldable pub sorted_child : ℕ → List ℕ → ℕ → ℕ → ℕ
sorted_child k body n byte =
    choose (ltb (first (is byte) (between body 0 n)) n)
    (get_or body (k + first (is byte) (between body 0 n)) 0)
    0

-- the reference that a slot number names, 0 for slot number 0
abbrev pub byslot : List ℕ → ℕ → ℕ
byslot refs slot = choose (eqb slot 0) 0 (get_or refs (slot - 1) 0)

-- kind 3: by the byte's slot number
unfoldable pub indirect_child : List ℕ → ℕ → ℕ
indirect_child body byte = byslot (slot_refs body) (get_or body byte 0)

-- by the kind; kind 4 has it at the byte's own place
unfoldable pub child_of : ℕ → List ℕ → ℕ → ℕ → ℕ
child_of kind body n byte =
    choose (leb kind 2) (sorted_child (children_of kind) body n byte)
    (choose (eqb kind 3) (indirect_child body byte) (get_or body byte 0))

-- of a record
unfoldable pub child_at : Form → ℕ → List ℕ → ℕ → ℕ
child_at form kind rec byte = child_of kind (body_part form kind rec) (child_count rec) byte

-- a leaf's own rule: in use, length at most the limit, its later key bytes 0
unfoldable pub leaf_ok : ℕ → List ℕ → List ℕ → Bool
leaf_ok limit rec key =
    leb (tag_length rec) limit && (eqb (used_as rec) 1 && all_pass (at_most 0) (between key (tag_length rec) limit))

-- a leaf's total: word 4 its low half, word 5 its high half
unfoldable pub total_of : List ℕ → ℕ
total_of rec = get_or rec 4 0 + get_or rec 5 0 * 4294967296
