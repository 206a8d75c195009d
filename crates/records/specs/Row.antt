-- The row of a record's children: their bytes ascending, each with its reference.
use Rattle.std.specs.Prelude.{ℕ, zero, suc, ◌+◌, ◌≤◌, ◌<◌, ◌≡◌, List, [], ◌∷◌, length, eqb, leb, Option, Some, None}
use Rattle.lists.specs.Scan.{choose}
use Rattle.lists.specs.Part.{between}
use Rattle.frames.specs.Kind.{children_of}
use Rattle.records.specs.Words.{child_count}
use Rattle.records.specs.Own.{slot_numbers, slot_refs, byslot, body_part}
use Rattle.frames.specs.declared.form.Form.{Form}

-- keys beside their references, as far as there are both
abbrev pub beside : List ℕ → List ℕ → List (ℕ × ℕ)
beside [] rs = []
beside (k ∷ ks) [] = []
beside (k ∷ ks) (r ∷ rs) = (k, r) ∷ beside ks rs

-- the places that are not 0, each with its byte; that of the first place is b
abbrev pub filled : ℕ → List ℕ → List (ℕ × ℕ)
filled b [] = []
filled b (r ∷ rs) = choose (eqb r 0) (filled (suc b) rs) ((b, r) ∷ filled (suc b) rs)

-- for each slot number the reference that it names
abbrev pub spread : List ℕ → List ℕ → List ℕ
spread refs [] = []
spread refs (s ∷ ss) = byslot refs s ∷ spread refs ss

-- kinds 1 and 2, with k places of which n are used: the first n bytes, each with its reference k places on
abbrev pub sorted_row : ℕ → List ℕ → ℕ → List (ℕ × ℕ)
sorted_row k body n = beside (between body 0 n) (between body k (k + n))

-- kind 3: each byte whose slot number names a filled place, with the reference there
abbrev pub indirect_row : List ℕ → List (ℕ × ℕ)
indirect_row body = filled 0 (spread (slot_refs body) (slot_numbers body))

-- kind 4: each byte whose own place is filled
abbrev pub direct_row : List ℕ → List (ℕ × ℕ)
direct_row body = filled 0 body

-- the row of a body with n children, by the kind
unfoldable pub body_row : ℕ → List ℕ → ℕ → List (ℕ × ℕ)
body_row kind body n = choose (leb kind 2) (sorted_row (children_of kind) body n) (choose (eqb kind 3) (indirect_row body) (direct_row body))

-- the row of a record
abbrev pub row_at : Form → ℕ → List ℕ → List (ℕ × ℕ)
row_at form kind rec = body_row kind (body_part form kind rec) (child_count rec)

-- ── one child of a row ──
-- a child of a row, by its byte and its reference; or none
abbrev pub Entry : Type 0
Entry = Option (ℕ × ℕ)

-- a byte and its reference, as a child
abbrev pub entry : ℕ × ℕ → Entry
entry e = Some e

-- the n-th, from 0 on
abbrev pub entry_at : ℕ → List (ℕ × ℕ) → Entry
entry_at n [] = None
entry_at zero (e ∷ es) = entry e
entry_at (suc n) (e ∷ es) = entry_at n es

-- the first at or after byte b
abbrev pub entry_from : ℕ → List (ℕ × ℕ) → Entry
entry_from b [] = None
entry_from b (e ∷ es) = choose (leb b e.0) (entry e) (entry_from b es)

-- the last
abbrev pub last_entry : List (ℕ × ℕ) → Entry
last_entry [] = None
last_entry (e ∷ []) = entry e
last_entry (e ∷ f ∷ es) = last_entry (f ∷ es)

-- the reference for a byte, 0 where there is none
abbrev pub ref_for : ℕ → List (ℕ × ℕ) → ℕ
ref_for b [] = 0
ref_for b (e ∷ es) = choose (eqb e.0 b) e.1 (ref_for b es)

-- ── what a row is, of a record that obeys its rule ──
-- a child: its byte is lo or more and below 256, its reference not 0
pub record Fine (lo : ℕ) (e : ℕ × ℕ) : Type 0 where
  pub low : lo ≤ e.0
  pub byte : e.0 < 256
  pub some : 0 < e.1

-- the bytes ascend, the first of them lo or more
abbrev pub Climbs : ℕ → List (ℕ × ℕ) → Type 0
Climbs lo [] = Unit {0}
Climbs lo (e ∷ es) = Fine lo e × Climbs (suc e.0) es

-- n children with ascending bytes, and the child for a byte is the row's
pub record RowRule (row : List (ℕ × ℕ)) (child : ℕ → ℕ) (n : ℕ) : Type 0 where
  pub size : length row ≡ n
  pub climbs : Climbs 0 row
  pub child_for : (b : ℕ) → b < 256 → child b ≡ ref_for b row
