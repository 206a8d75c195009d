-- Where a child stands in a body that obeys its rule, and that a body with fewer children than places has an empty one.
use Prim.Native.Nat.{ℕ, ◌+◌, ◌-◌, ◌≤◌, ◌<◌}
use mathlib.Core.Path.{◌≡◌, refl, ap}
use mathlib.Core.List.{List}
use mathlib.Core.Bool.{Bool, true, false}
use native.Mathlib.Omega.{arith}
use lib.ListN.{length, get_or}
use lib.Dec.{eqb, ltb}
use borrow.Author.Tests.{le-leb, lt-leb, eq-eqb, lt-ltb, ltb-true, leb-true, ltb-false, eqb-false}
use Rattle.lists.specs.Scan.{choose, is, at_most, nonzero, first, how_many}
use Rattle.lists.specs.Part.{between}
use Rattle.lists.proofs.Tests.{all_at, all_by, first_le, first_none, count_all}
use Rattle.lists.proofs.Parts.{between_length}
use Rattle.frames.specs.Kind.{slot_places, kind_row, children_of}
use Rattle.records.specs.Own.{BodyFits, sorted_child, indirect_child, child_of}
use Rattle.records.proofs.Owns.{indirect_fits}
use Rattle.lists.proofs.Pieces.{front_at}
use Rattle.edits.specs.declared.representation.Change.{Change}
use Rattle.edits.specs.declared.representation.Change.TheVariants.{Add, Remove, Replace}
use Rattle.edits.specs.Change.{Needs}

-- what a change needs, in other words
pub needs_as : {R S C D : Type 0} → (R → S) → (C → D) → (change : Change) → Needs change R C → Needs change S D
needs_as f g (Add r) h = f h
needs_as f g Remove h = g h
needs_as f g (Replace r) h = g h

-- the place of a child that there is
module _ {kind : ℕ} {body : List ℕ} {n : ℕ} (w : BodyFits kind body n) (byte : ℕ) (some : 0 < child_of kind body n byte) where
  -- kinds 1 and 2: its byte is among the first n
  pub sorted_room : kind ≤ 2 → first (is byte) (between body 0 n) < n
  unfolding child_of sorted_child
  sorted_room h = go (ltb (first (is byte) (between body 0 n)) n) refl (simp (le-leb kind 2 h) at some)
    where
      go : (t : Bool) → ltb (first (is byte) (between body 0 n)) n ≡ t
          → 0 < choose t (get_or body (children_of kind + first (is byte) (between body 0 n)) 0) 0 → first (is byte) (between body 0 n) < n
      go true e h = ltb-true _ _ e
      go false e h = absurd (omega arith)

  slot_some : kind ≡ 3 → 1 ≤ get_or body byte 0
  unfolding child_of indirect_child
  slot_some e = go (eqb (get_or body byte 0) 0) refl (simp (lt-leb kind 2 (omega arith), eq-eqb kind 3 e) at some)
    where
      go : (t : Bool) → eqb (get_or body byte 0) 0 ≡ t → 0 < choose t 0 (get_or (between body 256 304) (get_or body byte 0 - 1) 0) → 1 ≤ get_or body byte 0
      go true q h = absurd (omega arith)
      go false q h = let z = eqb-false (get_or body byte 0) 0 q in omega arith

  -- kind 3: its slot number names one of the 48 places
  pub slot_room : kind ≡ 3 → byte < 256 → (1 ≤ get_or body byte 0) × (get_or body byte 0 ≤ 48)
  slot_room e l =
      let f = indirect_fits w e in
      let low : get_or (between body 0 256) byte 0 ≤ 48 =
      leb-true _ _ (all_at (at_most 48) (between body 0 256) f.1.low byte (omega (arith, between_length body 0 256 (omega arith) (omega arith)))) in
      (slot_some e, omega (arith, front_at body 256 byte l))

-- a list that is not all filled has an empty place
first_empty : (l : List ℕ) → how_many nonzero l < length l → first (is 0) l < length l
first_empty l h = go (ltb (first (is 0) l) (length l)) refl
  where
    go : (t : Bool) → ltb (first (is 0) l) (length l) ≡ t → first (is 0) l < length l
    go true e = ltb-true _ _ e
    go false e =
        let all_but : first (is 0) l ≡ length l = omega (arith, first_le (is 0) l, ltb-false (first (is 0) l) (length l) e) in
        absurd (omega (arith, count_all nonzero l (all_by nonzero l (λ i k. lt-ltb 0 _ (filled i k all_but)))))
      where
        filled : (i : ℕ) → i < length l → first (is 0) l ≡ length l → 0 < get_or l i 0
        filled i k e = let z = eqb-false (get_or l i 0) 0 (first_none (is 0) l e i k) in omega arith

pub three_children : (kind : ℕ) → kind ≡ 3 → children_of kind ≡ slot_places
unfolding kind_row
three_children kind e = ap children_of e

pub empty_room : {kind : ℕ} {body : List ℕ} {n : ℕ} → BodyFits kind body n → kind ≡ 3 → n < children_of kind → first (is 0) (between body 256 304) < 48
empty_room {kind} {body} w e h =
    let f = indirect_fits w e in
    let long : length (between body 256 304) ≡ 48 = between_length body 256 304 (omega arith) (omega arith) in
    omega (arith, first_empty (between body 256 304) (omega (arith, three_children kind e)))
