-- Kind 3: every change writes one slot number and the place that it names, so that one law says what becomes of the rule and the row; and
-- the body built from a row has its slots in byte order.
use Prim.Native.Nat.{ℕ, zero, suc, ◌+◌, ◌-◌, ◌≤◌, ◌<◌}
use mathlib.Core.Path.{◌≡◌, refl, sym, ap, ap₂, subst, ◌∙◌}
use mathlib.Core.List.{List, [], ◌∷◌, ◌++◌, append-nil}
use mathlib.Core.Bool.{Bool, true, false}
use native.Mathlib.Decide.{ℕ_discrete, dec_lt}
use native.Mathlib.Omega.{arith}
use lib.ListN.{length, get_or, set, replicate, length-set, length-append}
use lib.Seq.{ext_get_or, get_or-set_same, get_or-set_other, set-get_or}
use lib.Dec.{eqb, ltb, leb-suc-suc}
use borrow.Author.Tests.{eq-eqb, ne_eqb, eqb-true, eqb-false, lt-ltb, le-ltb, ltb-true, ltb-false, le-leb, leb-true}
use Rattle.lists.specs.Scan.{choose, is, at_most, nonzero, all_pass, first, how_many}
use Rattle.lists.specs.Part.{between}
use Rattle.lists.proofs.Tests.{and_both, all_at, all_by, all_set, first_le, first_passes, first_none, count_append, count_all, count_none}
use Rattle.lists.proofs.Parts.{between_length, between_at, between_middle, between_set_before, between_set_after, between_set_in}
use Rattle.lists.proofs.Edits.{padded_length}
use Rattle.frames.specs.Kind.{kind_row}
use Rattle.records.specs.Own.{named, byslot, SlotsFit, indirect_ok, body_ok, indirect_child, BodyFits}
use Rattle.records.specs.Row.{filled, spread, ref_for, Climbs}
use Rattle.records.proofs.Owns.{indirect_fits}
use Rattle.records.proofs.Slots.{count_has, named_get, slot_filled}
use Rattle.records.proofs.Rows.{spread_length, spread_at}
use Rattle.lists.specs.Edit.{padded}
use Rattle.edits.specs.declared.representation.Change.{Change}
use Rattle.edits.specs.declared.representation.Change.TheVariants.{Add, Remove, Replace}
use Rattle.edits.specs.Change.{count_in}
use Rattle.edits.specs.Body.{slot_add, slot_remove, slot_replace, slot_change, tab, refs_of, slot_for, slot_body}
use Rattle.edits.specs.Rows.{Row, row_insert, row_remove, row_replace, row_change, Takes}
use Rattle.edits.proofs.Columns.{refs_length, tab_as, tab_length}
use Rattle.edits.proofs.RowChanges.{table_insert, table_remove, table_replace}
use Rattle.edits.proofs.Shown.{Indirect}
use Rattle.edits.proofs.SortedBodies.{refs_nonzero}
use Rattle.edits.proofs.TableBodies.{tab_all, spread_row}

-- 1 or 0
abbrev bit : Bool → ℕ
bit b = choose b 1 0

-- ── counts after one element was written ──
count_set : (p : ℕ → Bool) (l : List ℕ) (i x : ℕ) → i < length l → how_many p (set l i x) + bit (p (get_or l i 0)) ≡ how_many p l + bit (p x)
count_set p [] i x h = absurd (omega arith)
count_set p (y ∷ ys) zero x h = go (p x) (p y)
  where
    go : (a b : Bool) → choose a (suc (how_many p ys)) (how_many p ys) + bit b ≡ choose b (suc (how_many p ys)) (how_many p ys) + bit a
    go true true = refl
    go true false = omega arith
    go false true = omega arith
    go false false = refl
count_set p (y ∷ ys) (suc i) x h = go (p y) (count_set p ys i x (omega arith))
  where
    go : (b : Bool) → how_many p (set ys i x) + bit (p (get_or ys i 0)) ≡ how_many p ys + bit (p x)
        → choose b (suc (how_many p (set ys i x))) (how_many p (set ys i x)) + bit (p (get_or ys i 0)) ≡ choose b (suc (how_many p ys)) (how_many p ys) + bit (p x)
    go true e = omega arith
    go false e = e

named_of : (slots : List ℕ) (j : ℕ) (rs : List ℕ) → ((i : ℕ) → i < length rs → how_many (is (j + i + 1)) slots ≡ bit (nonzero (get_or rs i 0))) → named slots j rs ≡ true
named_of slots j [] h = refl
named_of slots j (r ∷ rs) h =
    and_both (eq-eqb _ _ (ap (λ (k : ℕ). how_many (is k) slots) (let e : j + 1 ≡ j + 0 + 1 = omega arith in e) ∙ h 0 (omega arith)))
    (named_of slots (j + 1) rs (λ i l. ap (λ (k : ℕ). how_many (is k) slots) (let e : j + 1 + i + 1 ≡ j + suc i + 1 = omega arith in e) ∙ h (suc i) (omega arith)))

-- the rule and the row from the two parts
indirect_shown : (body : List ℕ) (n : ℕ) (row : Row) (slots refs : List ℕ) → length body ≡ 304 → between body 0 256 ≡ slots → between body 256 304 ≡ refs
    → all_pass (at_most 48) slots ≡ true → how_many nonzero refs ≡ n → named slots 0 refs ≡ true → filled 0 (spread refs slots) ≡ row → Indirect body n row
unfolding indirect_ok
indirect_shown body n row slots refs long es er low many names e =
    record {
      long = long;
      ok = and_both (and_both (ap (all_pass (at_most 48)) es ∙ low) (eq-eqb _ _ (ap (how_many nonzero) er ∙ many))) (ap₂ (λ (x y : List ℕ). named x 0 y) es er ∙ names);
      shows = ap₂ (λ (x y : List ℕ). filled 0 (spread y x)) es er ∙ e;
    }

-- ── one change: byte b's slot number was that of place j, or 0 where j was empty (p), and becomes so again (q), with y at the place ──
record SlotWrite (slots refs : List ℕ) (b j x y : ℕ) (p q : Bool) : Type 0 where
  s256 : length slots ≡ 256
  r48 : length refs ≡ 48
  low : all_pass (at_most 48) slots ≡ true
  names : named slots 0 refs ≡ true
  bl : b < 256
  jl : j < 48
  was : get_or slots b 0 ≡ choose p (j + 1) 0
  full : nonzero (get_or refs j 0) ≡ p
  now : x ≡ choose q (j + 1) 0
  fills : nonzero y ≡ q

module _ {slots refs : List ℕ} {b j x y : ℕ} {p q : Bool} (c : SlotWrite slots refs b j x y p q) where
  -- whether such a slot number names place i
  names_j : (t : Bool) (w : ℕ) → w ≡ choose t (j + 1) 0 → (i : ℕ) → i ≡ j → bit (eqb w (0 + i + 1)) ≡ bit t
  names_j true w e i h = ap bit (eq-eqb w (0 + i + 1) (omega arith))
  names_j false w e i h = ap bit (ne_eqb w (0 + i + 1) (λ z. omega arith))

  names_other : (t : Bool) (w : ℕ) → w ≡ choose t (j + 1) 0 → (i : ℕ) → (i ≡ j → ⊥) → bit (eqb w (0 + i + 1)) ≡ 0
  names_other true w e i h = ap bit (ne_eqb w (0 + i + 1) (λ z. h (omega arith)))
  names_other false w e i h = ap bit (ne_eqb w (0 + i + 1) (λ z. omega arith))

  change : (v i : ℕ) → how_many (is (0 + i + 1)) (set slots b v) + bit (eqb (get_or slots b 0) (0 + i + 1)) ≡ how_many (is (0 + i + 1)) slots + bit (eqb v (0 + i + 1))
  change v i = count_set (is (0 + i + 1)) slots b v (omega (arith, c.bl))

  before : (i : ℕ) → i < 48 → how_many (is (0 + i + 1)) slots ≡ bit (nonzero (get_or refs i 0))
  before i h = named_get slots 0 refs c.names i (omega arith)

  at_j : how_many (is (0 + j + 1)) slots ≡ bit p
  at_j = before j c.jl ∙ ap bit c.full

  changed_low : all_pass (at_most 48) (set slots b x) ≡ true
  changed_low = all_set (at_most 48) slots b x c.low (le-leb x 48 (go q c.now))
    where
      go : (t : Bool) → x ≡ choose t (j + 1) 0 → x ≤ 48
      go true e = omega arith
      go false e = omega arith

  changed_many : how_many nonzero (set refs j y) + bit p ≡ how_many nonzero refs + bit q
  changed_many =
      omega (arith, count_set nonzero refs j y (omega arith), ap bit c.full, ap bit c.fills)

  changed_names : named (set slots b x) 0 (set refs j y) ≡ true
  changed_names = named_of (set slots b x) 0 (set refs j y) (λ i l. go i (omega (arith, length-set refs j y)) (ℕ_discrete i j))
    where
      go : (i : ℕ) → i < 48 → Dec (i ≡ j) → how_many (is (0 + i + 1)) (set slots b x) ≡ bit (nonzero (get_or (set refs j y) i 0))
      go i h (yes e) =
          let new : bit (nonzero (get_or (set refs j y) i 0)) ≡ bit q =
          ap (λ (k : ℕ). bit (nonzero (get_or (set refs j y) k 0))) e ∙ ap (λ (r : ℕ). bit (nonzero r)) (get_or-set_same refs j y 0 (omega arith)) ∙ ap bit c.fills in
          let old : bit (nonzero (get_or refs i 0)) ≡ bit p = ap (λ (k : ℕ). bit (nonzero (get_or refs k 0))) e ∙ ap bit c.full in
          omega (arith, change x i, before i h, names_j p (get_or slots b 0) c.was i e, names_j q x c.now i e)
      go i h (no n) =
          omega (arith, change x i, before i h, names_other p (get_or slots b 0) c.was i n, names_other q x c.now i n, ap (λ (r : ℕ). bit (nonzero r)) (get_or-set_other refs j i y 0 n))

  -- no other byte's slot number names place j
  alone : (i : ℕ) → i < 256 → (i ≡ b → ⊥) → get_or slots i 0 ≡ j + 1 → ⊥
  alone i h n e =
      let none : how_many (is (0 + j + 1)) (set slots b 0) ≡ 0 = omega (arith, change 0 j, at_j, names_j p (get_or slots b 0) c.was j refl, names_j false 0 refl j refl) in
      omega (arith, count_has (is (0 + j + 1)) (set slots b 0) i (omega (arith, length-set slots b 0)) (ap (is (0 + j + 1)) (get_or-set_other slots b i 0 0 n) ∙ eq-eqb (get_or slots i 0) (0 + j + 1) (omega arith)))

  here : (t : Bool) → x ≡ choose t (j + 1) 0 → nonzero y ≡ t → byslot (set refs j y) x ≡ y
  here true e f =
      ap (λ (c : Bool). choose c 0 (get_or (set refs j y) (x - 1) 0)) (ne_eqb x 0 (λ z. omega arith))
      ∙ ap (λ (k : ℕ). get_or (set refs j y) k 0) (let w : x - 1 ≡ j = omega arith in w)
      ∙ get_or-set_same refs j y 0 (omega arith)
  here false e f = ap (byslot (set refs j y)) e ∙ omega (arith, ltb-false 0 y f)

  there : (w : ℕ) → (w ≡ j + 1 → ⊥) → byslot (set refs j y) w ≡ byslot refs w
  there w n = go (eqb w 0) refl
    where
      go : (t : Bool) → eqb w 0 ≡ t → choose t 0 (get_or (set refs j y) (w - 1) 0) ≡ choose t 0 (get_or refs (w - 1) 0)
      go true e = refl
      go false e = let z : w ≡ 0 → ⊥ = eqb-false w 0 e in get_or-set_other refs j (w - 1) y 0 (λ q. n (omega arith))

  changed_spread : spread (set refs j y) (set slots b x) ≡ set (spread refs slots) b y
  changed_spread =
      let new = spread_length (set refs j y) (set slots b x) ∙ length-set slots b x in
      let old = length-set (spread refs slots) b y ∙ spread_length refs slots in
      ext_get_or 0 (spread (set refs j y) (set slots b x)) (set (spread refs slots) b y) (new ∙ sym old)
      (λ i h. spread_at (set refs j y) (set slots b x) i ∙ go i (omega arith) (ℕ_discrete i b))
    where
      go : (i : ℕ) → i < 256 → Dec (i ≡ b) → byslot (set refs j y) (get_or (set slots b x) i 0) ≡ get_or (set (spread refs slots) b y) i 0
      go i h (yes e) =
          ap (λ (k : ℕ). byslot (set refs j y) (get_or (set slots b x) k 0)) e
          ∙ ap (byslot (set refs j y)) (get_or-set_same slots b x 0 (omega arith))
          ∙ here q c.now c.fills
          ∙ sym (ap (λ (k : ℕ). get_or (set (spread refs slots) b y) k 0) e ∙ get_or-set_same (spread refs slots) b y 0 (omega (arith, spread_length refs slots)))
      go i h (no n) =
          ap (byslot (set refs j y)) (get_or-set_other slots b i x 0 n)
          ∙ there (get_or slots i 0) (alone i h n)
          ∙ sym (spread_at refs slots i)
          ∙ sym (get_or-set_other (spread refs slots) b i y 0 n)

-- ── the three changes ──
module _ (body : List ℕ) (n : ℕ) (row : Row) (s : Indirect body n row) (few : n ≤ 48) (b : ℕ) (bl : b < 256) (child : indirect_child body b ≡ ref_for b row) where
  abbrev slots : List ℕ
  slots = between body 0 256

  abbrev refs : List ℕ
  refs = between body 256 304

  abbrev w : ℕ
  w = get_or slots b 0

  rule : (length body ≡ 304) × SlotsFit body × (how_many nonzero refs ≡ n)
  unfolding body_ok kind_row
  rule =
      let w : BodyFits 3 body n = record { low = omega arith; high = omega arith; long = s.long; few = few; ok = s.ok } in
      indirect_fits w refl

  s256 : length slots ≡ 256
  s256 = between_length body 0 256 (omega arith) (omega (arith, s.long))

  r48 : length refs ≡ 48
  r48 = between_length body 256 304 (omega arith) (omega (arith, s.long))

  small : w ≤ 48
  small = leb-true _ _ (all_at (at_most 48) slots rule.1.low b (omega (arith, s256)))

  slot : w ≡ get_or body b 0
  slot = between_at body 0 256 b (omega arith) ∙ ap (λ (i : ℕ). get_or body i 0) (let e : 0 + b ≡ b = omega arith in e)

  told : byslot refs w ≡ ref_for b row
  unfolding indirect_child
  told = ap (byslot refs) slot ∙ child

  holds : nonzero (ref_for b row) ≡ nonzero w
  holds = ap nonzero (sym told) ∙ slot_filled slots refs rule.1.names b (omega (arith, s256)) (omega (arith, small, r48))

  -- where a child is, its slot number names a place
  module _ (some : 0 < ref_for b row) where
    some_slot : 0 < w
    some_slot = ltb-true 0 w (sym holds ∙ lt-ltb 0 (ref_for b row) some)

    some_ref : nonzero (get_or refs (w - 1) 0) ≡ true
    some_ref =
        lt-ltb 0 (get_or refs (w - 1) 0) (omega (arith, some, told, ap (λ (t : Bool). choose t 0 (get_or refs (w - 1) 0)) (ne_eqb w 0 (λ z. omega (arith, some_slot)))))

  at_b : get_or (spread refs slots) b 0 ≡ ref_for b row
  at_b = spread_at refs slots b ∙ told

  long : length (spread refs slots) ≡ 256
  long = spread_length refs slots ∙ s256

  -- the parts of the body after a slot number and a place were written
  module _ (j x y : ℕ) (jl : j < 48) where
    slots_new : between (set (set body b x) (256 + j) y) 0 256 ≡ set slots b x
    slots_new =
        between_set_after (set body b x) 0 256 (256 + j) y (omega arith) (omega arith)
        ∙ between_set_in body 0 256 b x (omega arith) bl
        ∙ ap (λ (i : ℕ). set slots i x) (let e : b - 0 ≡ b = omega arith in e)

    refs_new : between (set (set body b x) (256 + j) y) 256 304 ≡ set refs j y
    refs_new =
        between_set_in (set body b x) 256 304 (256 + j) y (omega arith) (omega arith)
        ∙ ap₂ (λ (l : List ℕ) (i : ℕ). set l i y) (between_set_before body 256 304 b x bl) (let e : 256 + j - 256 ≡ j = omega arith in e)

    -- by the law of one change
    written : (p q : Bool) → w ≡ choose p (j + 1) 0 → nonzero (get_or refs j 0) ≡ p → x ≡ choose q (j + 1) 0 → nonzero y ≡ q → (m : ℕ) → m + bit p ≡ n + bit q
        → (more : Row) → filled 0 (set (spread refs slots) b y) ≡ more → Indirect (set (set body b x) (256 + j) y) m more
    written p q was full now fills m e more f =
        let c : SlotWrite slots refs b j x y p q =
        record { s256 = s256; r48 = r48; low = rule.1.low; names = rule.1.names; bl = bl; jl = jl; was = was; full = full; now = now; fills = fills } in
        indirect_shown (set (set body b x) (256 + j) y) m more (set slots b x) (set refs j y)
        (length-set (set body b x) (256 + j) y ∙ length-set body b x ∙ s.long) slots_new refs_new
        (changed_low c)
        (omega (arith, rule.2, changed_many c))
        (changed_names c)
        (ap (filled 0) (changed_spread c) ∙ f)

  -- the lowest unused place
  unused : n < 48 → (first (is 0) refs < 48) × (get_or refs (first (is 0) refs) 0 ≡ 0)
  unused room = go (dec_lt (first (is 0) refs) 48)
    where
      go : Dec (first (is 0) refs < 48) → (first (is 0) refs < 48) × (get_or refs (first (is 0) refs) 0 ≡ 0)
      go (yes h) = (h, eqb-true _ _ (first_passes (is 0) refs (omega (arith, r48))))
      go (no h) =
          let end : first (is 0) refs ≡ length refs = omega (arith, first_le (is 0) refs, r48) in
          let full : all_pass nonzero refs ≡ true = all_by nonzero refs (λ i l. let z : get_or refs i 0 ≡ 0 → ⊥ = eqb-false (get_or refs i 0) 0 (first_none (is 0) refs end i l) in lt-ltb 0 (get_or refs i 0) (omega arith)) in
          absurd (omega (arith, count_all nonzero refs full, rule.2, r48))

  indirect_add : (r : ℕ) → n < 48 → ref_for b row ≡ 0 → 0 < r → Indirect (slot_add body b r) (n + 1) (row_insert b r row)
  unfolding slot_add
  indirect_add r room z some =
      let j = first (is 0) refs in
      let u = unused room in
      let none : w ≡ 0 = omega (arith, ltb-false 0 w (sym holds ∙ ap nonzero z)) in
      written j (j + 1) r u.0 false true none (ap nonzero u.1) refl (lt-ltb 0 r some) (n + 1) (omega arith) (row_insert b r row)
      (table_insert b (spread refs slots) long bl r (at_b ∙ z) some ∙ ap (row_insert b r) s.shows)

  indirect_remove : 0 < ref_for b row → Indirect (slot_remove body b) (n - 1) (row_remove b row)
  unfolding slot_remove
  indirect_remove h =
      let j = w - 1 in
      let filled_places : 0 < n = omega (arith, rule.2, count_has nonzero refs j (omega (arith, small, r48, some_slot h)) (some_ref h)) in
      subst (λ (i : ℕ). Indirect (set (set body b 0) i 0) (n - 1) (row_remove b row)) (let e : 256 + j ≡ 255 + get_or body b 0 = omega (arith, slot, some_slot h) in e)
      (written j 0 0 (omega (arith, small, some_slot h)) true false (omega (arith, some_slot h)) (some_ref h) refl refl (n - 1) (omega arith) (row_remove b row)
      (table_remove b (spread refs slots) long bl (omega (arith, at_b)) ∙ ap (row_remove b) s.shows))

  indirect_replace : (r : ℕ) → 0 < ref_for b row → 0 < r → Indirect (slot_replace body b r) n (row_replace b r row)
  unfolding slot_replace
  indirect_replace r h some =
      let j = w - 1 in
      subst (λ (l : List ℕ). Indirect l n (row_replace b r row))
      (ap (λ (l : List ℕ). set l (256 + j) r) (ap (set body b) slot ∙ set-get_or body b 0) ∙ ap (λ (i : ℕ). set body i r) (let e : 256 + j ≡ 255 + get_or body b 0 = omega (arith, slot, some_slot h) in e))
      (written j w r (omega (arith, small, some_slot h)) true true (omega (arith, some_slot h)) (some_ref h) (omega (arith, some_slot h)) (lt-ltb 0 r some) n (omega arith) (row_replace b r row)
      (table_replace b (spread refs slots) long bl r (omega (arith, at_b)) some ∙ ap (row_replace b r) s.shows))

  pub indirect_change : (change : Change) → length row ≡ n → Takes 48 b change row → Indirect (slot_change body b change) (count_in change n) (row_change b change row)
  indirect_change (Add r) size t = indirect_add r (omega (arith, t.0)) t.1.0 t.1.1
  indirect_change Remove size t = indirect_remove t
  indirect_change (Replace r) size t = indirect_replace r t.0 t.1

-- ── the body built from a row ──
-- one more, where there is a slot number
abbrev shift : ℕ → ℕ
shift s = choose (eqb s 0) 0 (suc s)

slot_later : (b : ℕ) (e : ℕ × ℕ) (es : Row) → (e.0 ≡ b → ⊥) → slot_for b (e ∷ es) ≡ shift (slot_for b es)
slot_later b e es n = ap (λ (t : Bool). choose t 1 (shift (slot_for b es))) (ne_eqb e.0 b n)

slot_none : (b lo : ℕ) (row : Row) → Climbs lo row → b < lo → slot_for b row ≡ 0
slot_none b lo [] c h = refl
slot_none b lo (e ∷ es) c h = slot_later b e es (λ q. omega (arith, c.0.low)) ∙ ap shift (slot_none b (suc e.0) es c.1 (omega (arith, c.0.low)))

slot_ref : (b : ℕ) (row : Row) (z : List ℕ) → byslot (refs_of row ++ z) (slot_for b row) ≡ ref_for b row
slot_ref b [] z = refl
slot_ref b (e ∷ es) z = go (eqb e.0 b) (slot_for b es) (eqb (slot_for b es) 0) refl (slot_ref b es z)
  where
    go : (t : Bool) (s : ℕ) (u : Bool) → eqb s 0 ≡ u → choose u 0 (get_or (refs_of es ++ z) (s - 1) 0) ≡ ref_for b es
        → byslot (e.1 ∷ (refs_of es ++ z)) (choose t 1 (choose u 0 (suc s))) ≡ choose t e.1 (ref_for b es)
    go true s u i ih = refl
    go false s true i ih = ih
    go false s false i ih =
        let nz : s ≡ 0 → ⊥ = eqb-false s 0 i in
        ap (λ (t : Bool). choose t 0 (get_or (e.1 ∷ (refs_of es ++ z)) (suc s - 1) 0)) (ne_eqb (suc s) 0 (λ q. omega arith))
        ∙ ap (λ (k : ℕ). get_or (e.1 ∷ (refs_of es ++ z)) k 0) (let q : suc s - 1 ≡ suc (s - 1) = omega arith in q)
        ∙ ih

slot_small : (b : ℕ) (row : Row) → slot_for b row ≤ length row
slot_small b [] = omega arith
slot_small b (e ∷ es) = go (eqb e.0 b) (slot_for b es) (eqb (slot_for b es) 0) (slot_small b es)
  where
    go : (t : Bool) (s : ℕ) (u : Bool) → s ≤ length es → choose t 1 (choose u 0 (suc s)) ≤ suc (length es)
    go true s u h = omega arith
    go false s true h = omega arith
    go false s false h = omega arith

spread_tab : (refs : List ℕ) (m b : ℕ) (g : ℕ → ℕ) → spread refs (tab m b g) ≡ tab m b (λ i. byslot refs (g i))
spread_tab refs zero b g = refl
spread_tab refs (suc m) b g = ap (λ (l : List ℕ). byslot refs (g b) ∷ l) (spread_tab refs m (suc b) g)

-- each place of the row is named once
count_shift : (i m b : ℕ) (g : ℕ → ℕ) → how_many (is (suc i + 1)) (tab m b (λ j. shift (g j))) ≡ how_many (is (i + 1)) (tab m b g)
count_shift i zero b g = refl
count_shift i (suc m) b g = ap₂ (λ (t : Bool) (n : ℕ). choose t (suc n) n) (go (g b) (eqb (g b) 0) refl (eqb (g b) (i + 1)) refl) (count_shift i m (suc b) g)
  where
    go : (s : ℕ) (u : Bool) → eqb s 0 ≡ u → (v : Bool) → eqb s (i + 1) ≡ v → eqb (choose u 0 (suc s)) (suc i + 1) ≡ v
    go s true e true h = absurd (omega (arith, eqb-true s 0 e, eqb-true s (i + 1) h))
    go s true e false h = ne_eqb 0 (suc i + 1) (λ q. omega arith)
    go s false e true h = eq-eqb (suc s) (suc i + 1) (omega (arith, eqb-true s (i + 1) h))
    go s false e false h = let n : s ≡ i + 1 → ⊥ = eqb-false s (i + 1) h in ne_eqb (suc s) (suc i + 1) (λ q. n (omega arith))

count_shift_one : (m b : ℕ) (g : ℕ → ℕ) → how_many (is 1) (tab m b (λ j. shift (g j))) ≡ 0
count_shift_one zero b g = refl
count_shift_one (suc m) b g = ap₂ (λ (t : Bool) (n : ℕ). choose t (suc n) n) (go (g b) (eqb (g b) 0) refl) (count_shift_one m (suc b) g)
  where
    go : (s : ℕ) (u : Bool) → eqb s 0 ≡ u → eqb (choose u 0 (suc s)) 1 ≡ false
    go s true e = ne_eqb 0 1 (λ q. omega arith)
    go s false e = let n : s ≡ 0 → ⊥ = eqb-false s 0 e in ne_eqb (suc s) 1 (λ q. n (omega arith))

-- one slot number more in front
front : (s i : ℕ) (l : List ℕ) → (s ≡ i + 1 → ⊥) → how_many (is (i + 1)) (s ∷ l) ≡ how_many (is (i + 1)) l
front s i l n = ap (λ (t : Bool). choose t (suc (how_many (is (i + 1)) l)) (how_many (is (i + 1)) l)) (ne_eqb s (i + 1) n)

slot_once : (m b : ℕ) (row : Row) → b + m ≡ 256 → Climbs b row → (i : ℕ) → how_many (is (i + 1)) (tab m b (λ j. slot_for j row)) ≡ bit (ltb i (length row))
slot_once zero b [] e c i = sym (ap bit (le-ltb i 0 (omega arith)))
slot_once zero b (x ∷ row) e c i = absurd (omega (arith, c.0.low, c.0.byte))
slot_once (suc m) b [] e c i = front 0 i (tab m (suc b) (λ j. 0)) (λ q. omega arith) ∙ slot_once m (suc b) [] (omega arith) tt i
slot_once (suc m) b (x ∷ row) e c i = go (eqb x.0 b) refl (λ v. slot_once m (suc b) (x ∷ row) (omega arith) v i) (slot_once m (suc b) row (omega arith))
  where
    more : List ℕ
    more = tab m (suc b) (λ j. slot_for j (x ∷ row))

    shifted : List ℕ
    shifted = tab m (suc b) (λ j. shift (slot_for j row))

    by : (i : ℕ) → ((k : ℕ) → how_many (is (k + 1)) (tab m (suc b) (λ j. slot_for j row)) ≡ bit (ltb k (length row))) → how_many (is (i + 1)) (1 ∷ shifted) ≡ bit (ltb i (suc (length row)))
    by zero k = ap suc (count_shift_one m (suc b) (λ j. slot_for j row)) ∙ sym (ap bit (lt-ltb 0 (suc (length row)) (omega arith)))
    by (suc i) k =
        front 1 (suc i) shifted (λ q. omega arith)
        ∙ count_shift i m (suc b) (λ j. slot_for j row)
        ∙ k i
        ∙ ap bit (sym (leb-suc-suc (suc i) (length row)))

    go : (t : Bool) → eqb x.0 b ≡ t → (Climbs (suc b) (x ∷ row) → how_many (is (i + 1)) more ≡ bit (ltb i (suc (length row))))
        → (Climbs (suc b) row → (k : ℕ) → how_many (is (k + 1)) (tab m (suc b) (λ j. slot_for j row)) ≡ bit (ltb k (length row)))
        → how_many (is (i + 1)) (slot_for b (x ∷ row) ∷ more) ≡ bit (ltb i (suc (length row)))
    go false q h k =
        let n : x.0 ≡ b → ⊥ = eqb-false x.0 b q in
        let v : Climbs (suc b) (x ∷ row) = (record { low = omega (arith, c.0.low); byte = c.0.byte; some = c.0.some }, c.1) in
        ap (λ (s : ℕ). how_many (is (i + 1)) (s ∷ more)) (slot_none b (suc b) (x ∷ row) v (omega arith)) ∙ front 0 i more (λ q. omega arith) ∙ h v
    go true q h k =
        let same : x.0 ≡ b = eqb-true x.0 b q in
        ap (λ (t : Bool). how_many (is (i + 1)) (choose t 1 (shift (slot_for b row)) ∷ more)) q
        ∙ ap (λ (l : List ℕ). how_many (is (i + 1)) (1 ∷ l))
        (tab_as m (suc b) (λ j. slot_for j (x ∷ row)) (λ j. shift (slot_for j row)) (λ j l. slot_later j x row (λ z. omega arith)))
        ∙ by i (k (subst (λ (y : ℕ). Climbs (suc y) row) same c.1))

zero_at : (m i : ℕ) → nonzero (get_or (replicate m 0) i 0) ≡ false
zero_at zero i = refl
zero_at (suc m) zero = refl
zero_at (suc m) (suc i) = zero_at m i

refs_filled : (lo : ℕ) (row : Row) (m i : ℕ) → Climbs lo row → nonzero (get_or (refs_of row ++ replicate m 0) i 0) ≡ ltb i (length row)
refs_filled lo [] m i c = zero_at m i ∙ sym (le-ltb i 0 (omega arith))
refs_filled lo (e ∷ es) m zero c = lt-ltb 0 e.1 c.0.some ∙ sym (lt-ltb 0 (suc (length es)) (omega arith))
refs_filled lo (e ∷ es) m (suc i) c = refs_filled (suc e.0) es m i c.1 ∙ sym (leb-suc-suc (suc i) (length es))

pub indirect_built : (row : Row) → length row ≤ 48 → Climbs 0 row → Indirect (slot_body row) (length row) row
unfolding slot_body
indirect_built row few c =
    let slots = tab 256 0 (λ b. slot_for b row) in
    let m = 48 - length (refs_of row) in
    let refs = padded 48 (refs_of row) in
    let s256 = tab_length 256 0 (λ b. slot_for b row) in
    let r48 = padded_length 48 (refs_of row) (omega (arith, refs_length row)) in
    indirect_shown (slot_body row) (length row) row slots refs (omega (arith, length-append slots refs))
    (between_middle [] slots refs 0 256 refl s256)
    (ap (λ (l : List ℕ). between (slots ++ l) 256 304) (sym (append-nil refs)) ∙ between_middle slots refs [] 256 304 s256 r48)
    (tab_all (at_most 48) 256 0 (λ b. slot_for b row) (λ i. le-leb (slot_for i row) 48 (omega (arith, slot_small i row))))
    (count_append nonzero (refs_of row) (replicate m 0)
    ∙ omega (arith, count_all nonzero (refs_of row) (refs_nonzero 0 row c), refs_length row, count_none nonzero (replicate m 0) (λ i l. zero_at m i)))
    (named_of slots 0 refs (λ i l. ap (λ (k : ℕ). how_many (is k) slots) (let q : 0 + i + 1 ≡ i + 1 = omega arith in q)
    ∙ slot_once 256 0 row refl c i
    ∙ ap bit (sym (refs_filled 0 row m i c))))
    (ap (filled 0) (spread_tab refs 256 0 (λ b. slot_for b row) ∙ tab_as 256 0 (λ b. byslot refs (slot_for b row)) (λ b. ref_for b row) (λ i l. slot_ref i row (replicate m 0))) ∙ spread_row row c)
