-- The slots of a record's words, by the change that is made to them: a child more writes the lowest unused slot number, a child less a 0, and a record that is built has them in byte order.
use Prim.Native.Nat.{ℕ, zero, suc, ◌+◌, ◌-◌, ◌≤◌, ◌<◌}
use mathlib.Core.Path.{◌≡◌, refl, sym, ap, ap₂, ◌∙◌}
use mathlib.Core.Logic.{◌≢◌}
use mathlib.Core.List.{List, [], ◌∷◌, ◌++◌, append-nil}
use mathlib.Core.Bool.{Bool, true, false}
use native.Mathlib.Omega.{arith}
use native.Mathlib.Decide.{dec_lt}
use lib.ListN.{length, get_or, set, replicate, length-set, length-append, length-replicate}
use lib.Seq.{get_or-set_other}
use lib.Dec.{eqb}
use borrow.Author.Tests.{eq-eqb, ne_eqb, eqb-true, eqb-false, leb-true, lt-ltb, ltb-false}
use Rattle.lists.specs.Scan.{choose, is, at_most, at_least, nonzero, first, how_many}
use Rattle.lists.specs.Part.{between}
use Rattle.lists.specs.Edit.{shift_in, shift_out, padded}
use Rattle.lists.proofs.Tests.{all_at, first_le, first_passes, first_before, first_none, count_none, all_zero, all_between, zeros_all, zeros_at}
use Rattle.lists.proofs.Parts.{between_length, between_middle, between_set_before, between_set_after, between_set_in, splice_length, splice_same, splice_at_before}
use Rattle.lists.proofs.Edits.{shift_in_length, shift_out_length, padded_length}
use Rattle.lists.proofs.Pieces.{front_at}
use Rattle.prefix.specs.declared.Prefix.{Prefix}
use Rattle.frames.specs.Kind.{kind_row, children_of, body_words}
use Rattle.frames.specs.Form.{header, record_words, Stores, pack_of}
use Rattle.frames.proofs.FormTable.{pack_length}
use Rattle.frames.specs.declared.form.Form.{Form}
use Rattle.frames.proofs.KindTable.{kind_3}
use Rattle.records.specs.Words.{used_as}
use Rattle.records.specs.Own.{slot_numbers, slot_refs, body_part, indirect_child, child_of, child_at, byslot, SlotsFit, BodyFits, InnerFits}
use Rattle.records.specs.Row.{ref_for, Climbs}
use Rattle.records.proofs.Owns.{inner_rule, body_length, body_fits, indirect_fits}
use Rattle.records.proofs.Slots.{count_has, named_get, slot_filled}
use Rattle.edits.specs.declared.representation.Change.{Change}
use Rattle.edits.specs.declared.representation.Change.TheVariants.{Add, Remove, Replace}
use Rattle.edits.specs.Change.{ref_in, count_in}
use Rattle.edits.specs.Head.{set_prefix, set_head}
use Rattle.edits.specs.Body.{sorted_add, sorted_remove, sorted_replace, sorted_change, slot_add, slot_remove, slot_replace, slot_change, body_change, tab, refs_of, slot_for, slot_body, body_of}
use Rattle.edits.specs.Record.{with_body, change_of, build_rec}
use Rattle.edits.specs.Rows.{Row}
use Rattle.edits.specs.Inner.{PrefixFits, Inner}
use Rattle.edits.proofs.Columns.{tab_length, refs_length}
use Rattle.edits.proofs.Shown.{by_layout}
use Rattle.edits.proofs.Bodies.{holds_built}
use Rattle.edits.proofs.Rooms.{empty_room}
use Rattle.edits.proofs.Inners.{inner_kind, build_inner, prefix_after}
use Rattle.slots.specs.Slots.{slotted, Slotted, LowestSlot, in_order}

-- the slots of a record's words, and with its word 0
abbrev slots_of : Form → List ℕ → List ℕ
slots_of form rec = slot_numbers (body_part form 3 rec)

abbrev pub slotted_of : Form → List ℕ → Slotted
slotted_of form rec = slotted (used_as rec) (slots_of form rec)

-- ── a body changed is as long as before ──
abbrev by : {A : Type 0} → Bool → Bool → A → A → A → A
by t u x y z = choose t x (choose u y z)

sorted_long : (k : ℕ) (body : List ℕ) (n b : ℕ) (change : Change) → length body ≡ k + k → n ≤ k → length (sorted_change k body n b change) ≡ k + k
unfolding sorted_add sorted_remove sorted_replace
sorted_long k body n b change long few = go change
  where
    at : (p : ℕ → Bool) → first p (between body 0 n) ≤ k
    at p = omega (arith, first_le p (between body 0 n), between_length body 0 n (omega arith) (omega arith))

    low : length (between body 0 k) ≡ k
    low = between_length body 0 k (omega arith) (omega arith) ∙ omega arith

    high : length (between body k (k + k)) ≡ k
    high = between_length body k (k + k) (omega arith) (omega arith) ∙ omega arith

    go : (c : Change) → length (sorted_change k body n b c) ≡ k + k
    go (Add r) =
        let i = first (at_least b) (between body 0 n) in
        let h = at (at_least b) in
        omega (
          arith,
          length-append (shift_in i b (between body 0 k)) (shift_in i r (between body k (k + k))),
          shift_in_length (between body 0 k) i b (omega (arith, low)),
          shift_in_length (between body k (k + k)) i r (omega (arith, high)),
          low,
          high,
        )
    go Remove =
        let i = first (is b) (between body 0 n) in
        let h = at (is b) in
        omega (arith, length-append (shift_out i (between body 0 k)) (shift_out i (between body k (k + k))), shift_out_length (between body 0 k) i (omega (arith, low)), shift_out_length (between body k (k + k)) i (omega (arith, high)), low, high)
    go (Replace r) = length-set body (k + first (is b) (between body 0 n)) r ∙ long

slot_long : (body : List ℕ) (b : ℕ) (change : Change) → length (slot_change body b change) ≡ length body
unfolding slot_add slot_remove slot_replace
slot_long body b (Add r) = length-set (set body b (first (is 0) (slot_refs body) + 1)) (256 + first (is 0) (slot_refs body)) r ∙ length-set body b (first (is 0) (slot_refs body) + 1)
slot_long body b Remove = length-set (set body b 0) (255 + get_or body b 0) 0 ∙ length-set body b 0
slot_long body b (Replace r) = length-set body (255 + get_or body b 0) r

body_long : {kind : ℕ} {body : List ℕ} {n : ℕ} → BodyFits kind body n → (b : ℕ) (change : Change) → length (body_change kind body n b change) ≡ body_words kind
unfolding body_change
body_long {kind} {body} {n} h b change =
    by_layout
    (λ t u size k. length body ≡ size → n ≤ k → length (by t u (sorted_change k body n b change) (slot_change body b change) (set body b (ref_in change))) ≡ size)
    (λ k long few. sorted_long k body n b change long few) (λ long few. slot_long body b change ∙ long) (λ long few. length-set body b (ref_in change) ∙ long)
    kind h.low h.high h.long h.few

module _ {form : Form} {kind : ℕ} {rec : List ℕ} (w : InnerFits form kind rec) (b : ℕ) (change : Change) where
  abbrev new : List ℕ
  new = body_change kind (body_part form kind rec) (get_or rec 1 0) b change

  fit : length new ≡ record_words form kind - header form
  fit = body_long (body_fits w) b change ∙ omega arith

  pub change_long : length (change_of form kind rec b change) ≡ record_words form kind
  unfolding change_of
  change_long =
      length-set (with_body form kind rec new) 1 (count_in change (get_or rec 1 0)) ∙ splice_length rec (header form) (record_words form kind) new (omega arith) (omega (arith, w.long)) fit ∙ w.long

  change_used : used_as (change_of form kind rec b change) ≡ kind
  unfolding change_of
  change_used =
      get_or-set_other (with_body form kind rec new) 1 0 (count_in change (get_or rec 1 0)) 0 (λ z. omega arith)
      ∙ splice_at_before rec (header form) (record_words form kind) new (omega arith) (omega (arith, w.long)) fit 0 (omega arith)
      ∙ (inner_rule form kind rec w.ok).head.kind_word

  change_body : body_part form kind (change_of form kind rec b change) ≡ new
  unfolding change_of
  change_body =
      between_set_before (with_body form kind rec new) (header form) (record_words form kind) 1 (count_in change (get_or rec 1 0)) (omega arith)
      ∙ splice_same rec (header form) (record_words form kind) new (omega arith) (omega (arith, w.long)) fit

-- past its end a list has 0
pub past_end : (l : List ℕ) (i : ℕ) → length l ≤ i → get_or l i 0 ≡ 0
past_end [] i h = refl
past_end (x ∷ xs) zero h = absurd (omega arith)
past_end (x ∷ xs) (suc i) h = past_end xs i (omega arith)

-- ── the slots of a record of kind 3 that obeys its rule ──
module _ {form : Form} {rec : List ℕ} (w : InnerFits form 3 rec) where
  abbrev body : List ℕ
  body = body_part form 3 rec

  abbrev refs : List ℕ
  refs = slot_refs body

  long : length body ≡ 304
  long = (indirect_fits (body_fits w) refl).0

  s256 : length (slots_of form rec) ≡ 256
  s256 = between_length body 0 256 (omega arith) (omega (arith, long))

  r48 : length refs ≡ 48
  r48 = between_length body 256 304 (omega arith) (omega (arith, long))

  -- where there is a child for b, its slot number is not 0
  some_slot : (b : ℕ) → 0 < child_at form 3 rec b → 1 ≤ get_or body b 0
  unfolding child_at child_of indirect_child
  some_slot b h = go (eqb (get_or body b 0) 0) refl h
    where
      go : (t : Bool) → eqb (get_or body b 0) 0 ≡ t → 0 < choose t 0 (get_or refs (get_or body b 0 - 1) 0) → 1 ≤ get_or body b 0
      go true e h = absurd (omega arith)
      go false e h = let z = eqb-false (get_or body b 0) 0 e in omega arith

  pub child_slot : (b : ℕ) → b < 256 → 0 < child_at form 3 rec b → get_or (slots_of form rec) b 0 ≢ 0
  child_slot b l h z = omega (arith, some_slot b h, front_at body 256 b l)

  -- and where there is none it is 0
  pub no_slot : (b : ℕ) → b < 256 → child_at form 3 rec b ≡ 0 → get_or (slots_of form rec) b 0 ≡ 0
  unfolding child_at child_of indirect_child
  no_slot b l h =
      let rule = (indirect_fits (body_fits w) refl).1 in
      let small : get_or (slots_of form rec) b 0 ≤ 48 = leb-true _ _ (all_at (at_most 48) (slots_of form rec) rule.low b (omega (arith, s256))) in
      let same = slot_filled (slots_of form rec) refs rule.names b (omega (arith, s256)) (omega (arith, small, r48)) in
      let none : nonzero (get_or (slots_of form rec) b 0) ≡ false = sym same ∙ ap (λ (s : ℕ). nonzero (byslot refs s)) (front_at body 256 b l) ∙ ap nonzero h in
      omega (arith, ltb-false 0 (get_or (slots_of form rec) b 0) none)

  -- the first empty place is named by the lowest unused slot number
  pub lowest_slot : get_or rec 1 0 < children_of 3 → LowestSlot (slots_of form rec) (first (is 0) refs + 1)
  lowest_slot room = record { some = omega arith; free = free; lower = lower }
    where
      j : ℕ
      j = first (is 0) refs

      rule : SlotsFit body
      rule = (indirect_fits (body_fits w) refl).1

      few : j < 48
      few = empty_room (body_fits w) refl room

      count : (i : ℕ) → i < 48 → how_many (is (0 + i + 1)) (slots_of form rec) ≡ choose (nonzero (get_or refs i 0)) 1 0
      count i l = named_get (slots_of form rec) 0 refs rule.names i (omega (arith, r48))

      none : how_many (is (0 + j + 1)) (slots_of form rec) ≡ 0
      none =
          let e : get_or refs j 0 ≡ 0 = eqb-true _ _ (first_passes (is 0) refs (omega (arith, r48, few))) in
          count j few ∙ ap (λ (r : ℕ). choose (nonzero r) 1 0) e

      free : (b : ℕ) → get_or (slots_of form rec) b 0 ≢ j + 1
      free b e = go (dec_lt b 256)
        where
          go : Dec (b < 256) → ⊥
          go (yes l) = omega (arith, none, count_has (is (0 + j + 1)) (slots_of form rec) b (omega (arith, s256)) (eq-eqb (get_or (slots_of form rec) b 0) (0 + j + 1) (omega arith)))
          go (no l) = omega (arith, past_end (slots_of form rec) b (omega (arith, s256)))

      lower : (i : ℕ) → 1 ≤ i → i < j + 1 → (b : ℕ) × (get_or (slots_of form rec) b 0 ≡ i)
      lower i some less = go (dec_lt (first (is i) (slots_of form rec)) (length (slots_of form rec)))
        where
          there : how_many (is i) (slots_of form rec) ≡ 1
          there =
              let full : nonzero (get_or refs (i - 1) 0) ≡ true = let z : get_or refs (i - 1) 0 ≢ 0 = eqb-false (get_or refs (i - 1) 0) 0 (first_before (is 0) refs (i - 1) (omega arith)) in lt-ltb 0 (get_or refs (i - 1) 0) (omega arith) in
              ap (λ (k : ℕ). how_many (is k) (slots_of form rec)) (let q : i ≡ 0 + (i - 1) + 1 = omega arith in q) ∙ count (i - 1) (omega (arith, few)) ∙ ap (λ (t : Bool). choose t 1 0) full

          go : Dec (first (is i) (slots_of form rec) < length (slots_of form rec)) → (b : ℕ) × (get_or (slots_of form rec) b 0 ≡ i)
          go (yes l) = (first (is i) (slots_of form rec), eqb-true _ _ (first_passes (is i) (slots_of form rec) l))
          go (no l) =
              absurd (omega (arith, there, count_none (is i) (slots_of form rec) (first_none (is i) (slots_of form rec) (omega (arith, first_le (is i) (slots_of form rec))))))

  -- ── changed ──
  add_numbers : (b r : ℕ) → b < 256 → slots_of form (change_of form 3 rec b (Add r)) ≡ set (slots_of form rec) b (first (is 0) refs + 1)
  unfolding body_change slot_add
  add_numbers b r l =
      let j = first (is 0) refs in
      ap slot_numbers (change_body w b (Add r))
      ∙ between_set_after (set body b (j + 1)) 0 256 (256 + j) r (omega arith) (omega arith)
      ∙ between_set_in body 0 256 b (j + 1) (omega arith) l
      ∙ ap (λ (i : ℕ). set (slots_of form rec) i (j + 1)) (let e : b - 0 ≡ b = omega arith in e)

  pub add_slots : (b r : ℕ) → b < 256 → slotted_of form (change_of form 3 rec b (Add r)) ≡ slotted 3 (set (slots_of form rec) b (first (is 0) refs + 1))
  add_slots b r l = ap₂ slotted (change_used w b (Add r)) (add_numbers b r l)

  pub remove_slots : (b : ℕ) → b < 256 → 0 < child_at form 3 rec b → slotted_of form (change_of form 3 rec b Remove) ≡ slotted 3 (set (slots_of form rec) b 0)
  unfolding body_change slot_remove
  remove_slots b l h =
      ap₂ slotted (change_used w b Remove)
      (ap slot_numbers (change_body w b Remove)
      ∙ between_set_after (set body b 0) 0 256 (255 + get_or body b 0) 0 (omega arith) (omega (arith, some_slot b h))
      ∙ between_set_in body 0 256 b 0 (omega arith) l
      ∙ ap (λ (i : ℕ). set (slots_of form rec) i 0) (let e : b - 0 ≡ b = omega arith in e))

  pub replace_slots : (b r : ℕ) → 0 < child_at form 3 rec b → slotted_of form (change_of form 3 rec b (Replace r)) ≡ slotted_of form rec
  unfolding body_change slot_replace
  replace_slots b r h =
      ap₂ slotted (change_used w b (Replace r) ∙ sym (inner_rule form 3 rec w.ok).head.kind_word)
      (ap slot_numbers (change_body w b (Replace r)) ∙ between_set_after body 0 256 (255 + get_or body b 0) r (omega arith) (omega (arith, some_slot b h)))

-- another prefix leaves them
pub prefix_slots : (form : Form) → Stores form → (p : Prefix) (rec : List ℕ) → length p.stored ≡ 8 → length rec ≡ record_words form 3 → slotted_of form (set_prefix form p rec) ≡ slotted_of form rec
unfolding set_prefix
prefix_slots form stores p rec eight long =
    let full = set rec 2 p.full.0 in
    let size : length (pack_of form p.stored) ≡ header form - (3 + form.counts) = pack_length form stores p.stored eight ∙ omega arith in
    ap₂ slotted
    (splice_at_before full (3 + form.counts) (header form) (pack_of form p.stored) (omega arith) (omega (arith, length-set rec 2 p.full.0)) size 0 (omega arith) ∙ get_or-set_other rec 2 0 p.full.0 0 (λ z. omega arith))
    (ap slot_numbers (prefix_after form stores p rec eight (omega arith) (header form) (record_words form 3) (omega arith)))

-- a freed record has none
pub clear_slots : (form : Form) → slotted_of form (replicate (record_words form 3) 0) ≡ slotted 0 (replicate 256 0)
clear_slots form =
    let rec : List ℕ = replicate (record_words form 3) 0 in
    let size = length-replicate {A = ℕ} (record_words form 3) 0 in
    let inner : length (body_part form 3 rec) ≡ 304 = body_length form 3 rec size ∙ kind_3 3 refl in
    ap₂ slotted (zeros_at (record_words form 3) 0)
    (all_zero (slots_of form rec) (all_between (at_most 0) (body_part form 3 rec) 0 256 (all_between (at_most 0) rec (header form) (record_words form 3) (zeros_all (record_words form 3) 0)))
    ∙ ap (λ (n : ℕ). replicate n 0) (let q : length (slots_of form rec) ≡ 256 = between_length (body_part form 3 rec) 0 256 (omega arith) (omega (arith, inner)) in q))

-- ── a record that is built ──
-- behind the references of a row the first 0 is the next place
first_past : (lo : ℕ) (row : Row) (m : ℕ) → Climbs lo row → first (is 0) (refs_of row ++ replicate (suc m) 0) ≡ length row
first_past lo [] m c = refl
first_past lo (e ∷ es) m c = ap (λ (t : Bool). choose t 0 (suc (first (is 0) (refs_of es ++ replicate (suc m) 0)))) (ne_eqb e.1 0 (λ z. omega (arith, c.0.some))) ∙ ap suc (first_past (suc e.0) es m c.1)

-- a byte without a child in the row has no slot by it
pub row_slot : (lo b : ℕ) (row : Row) → Climbs lo row → ref_for b row ≡ 0 → slot_for b row ≡ 0
row_slot lo b [] c h = refl
row_slot lo b (e ∷ es) c h = go (eqb e.0 b) h (row_slot (suc e.0) b es c.1)
  where
    go : (t : Bool) → choose t e.1 (ref_for b es) ≡ 0 → (ref_for b es ≡ 0 → slot_for b es ≡ 0) → choose t 1 (choose (eqb (slot_for b es) 0) 0 (suc (slot_for b es))) ≡ 0
    go true q ih = absurd (omega (arith, c.0.some))
    go false q ih = ap (λ (t : Bool). choose t 0 (suc (slot_for b es))) (eq-eqb (slot_for b es) 0 (ih q))

module _ (form : Form) (stores : Stores form) (p : Prefix) (row : Row) (f : PrefixFits form p) (two : 2 ≤ length row) (few : length row ≤ children_of 3) (c : Climbs 0 row) where
  built : Inner form 3 (build_rec form 3 p row) p row
  built = build_inner form stores 3 p row (omega arith) (omega arith) f two few c

  built_body : body_part form 3 (build_rec form 3 p row) ≡ slot_body row
  unfolding build_rec body_of
  built_body =
      let head = set_head form 3 (length row) p (replicate (header form) 0) in
      let size : length (slot_body row) ≡ body_words 3 = (holds_built 3 row (omega arith) (omega arith) few c).fits.long in
      let front : length head ≡ header form = omega (arith, built.fits.long, length-append head (slot_body row)) in
      ap (λ (l : List ℕ). between (head ++ l) (header form) (record_words form 3)) (sym (append-nil (slot_body row)))
      ∙ between_middle head (slot_body row) [] (header form) (record_words form 3) front (size ∙ omega arith)

  built_numbers : slots_of form (build_rec form 3 p row) ≡ in_order row
  unfolding slot_body
  built_numbers = ap slot_numbers built_body ∙ between_middle [] (tab 256 0 (λ b. slot_for b row)) (padded 48 (refs_of row)) 0 256 refl (tab_length 256 0 (λ b. slot_for b row))

  pub built_slots : slotted_of form (build_rec form 3 p row) ≡ slotted 3 (in_order row)
  built_slots = ap₂ slotted (inner_kind built) built_numbers

  -- and one child more has the next
  pub moved_slots : (b r : ℕ) → b < 256 → length row < children_of 3 → slotted_of form (change_of form 3 (build_rec form 3 p row) b (Add r)) ≡ slotted 3 (set (in_order row) b (length row + 1))
  unfolding slot_body kind_row
  moved_slots b r low room =
      let slots = tab 256 0 (λ b. slot_for b row) in
      let m : ℕ = 48 - suc (length (refs_of row)) in
      let left : 48 - length (refs_of row) ≡ suc m = omega (arith, refs_length row) in
      let parts : slot_refs (slot_body row) ≡ padded 48 (refs_of row) =
      ap (λ (l : List ℕ). between (slots ++ l) 256 304) (sym (append-nil (padded 48 (refs_of row))))
      ∙ between_middle slots (padded 48 (refs_of row)) [] 256 304 (tab_length 256 0 (λ b. slot_for b row)) (padded_length 48 (refs_of row) (omega (arith, refs_length row))) in
      let next : first (is 0) (slot_refs (body_part form 3 (build_rec form 3 p row))) ≡ length row =
      ap (λ (l : List ℕ). first (is 0) (slot_refs l)) built_body ∙ ap (first (is 0)) parts ∙ ap (λ (k : ℕ). first (is 0) (refs_of row ++ replicate k 0)) left ∙ first_past 0 row m c in
      add_slots built.fits b r low ∙ ap₂ (λ (s : List ℕ) (k : ℕ). slotted 3 (set s b (k + 1))) built_numbers next
