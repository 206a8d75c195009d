-- What the own rule says of a record's row: as many entries as children, bytes ascending below 256, no reference 0; and the child for a byte
-- is looked up in it.
use Prim.Native.Nat.{ℕ, zero, suc, ◌+◌, ◌≤◌, ◌<◌}
use mathlib.Core.Path.{◌≡◌, refl, sym, ap, ap₂, subst, ◌∙◌}
use mathlib.Core.List.{List, [], ◌∷◌}
use mathlib.Core.Bool.{Bool, true, false, ◌&&◌}
use native.Mathlib.Decide.{dec_le}
use native.Mathlib.Omega.{arith}
use lib.ListN.{length, get_or, take}
use lib.Seq.{take_all}
use lib.Dec.{eqb, leb, ltb, leb-suc-suc}
use borrow.Author.Tests.{eq-eqb, ne_eqb, lt-ltb, eqb-true, eqb-false, ltb-true, ltb-false, le-leb, leb-true, leb-false}
use Rattle.lists.specs.Scan.{choose, is, at_most, nonzero, all_pass, first, how_many, rises}
use Rattle.lists.specs.Part.{between}
use Rattle.lists.proofs.Tests.{both, all_at}
use Rattle.lists.proofs.Parts.{between_length, between_at}
use Rattle.frames.specs.Kind.{children_of}
use Rattle.records.specs.Own.{SlotsFit, sorted_ok, BodyFits, InnerFits, sorted_child, indirect_child, child_of, child_at}
use Rattle.records.specs.Row.{beside, filled, sorted_row, indirect_row, direct_row, body_row, row_at, ref_for, Climbs, RowRule}
use Rattle.frames.specs.declared.form.Form.{Form}
use Rattle.lists.proofs.Alike.{alike_by, count_alike}
use Rattle.records.proofs.Slots.{within, small_within, named_count}
use Rattle.records.proofs.Owns.{body_fits, sorted_fits, indirect_fits, direct_fits}
use Rattle.records.proofs.Rows.{Scanned, sorted_length, filled_skips, filled_holds, direct_scanned, indirect_scanned}

-- ── the bytes ascend, below 256, and no reference is 0 ──
pub climbs_lower : (a b : ℕ) (es : List (ℕ × ℕ)) → a ≤ b → Climbs b es → Climbs a es
climbs_lower a b [] h c = tt
climbs_lower a b (e ∷ es) h c = (record { low = omega (arith, c.0.low); byte = c.0.byte; some = c.0.some }, c.1)

beside_climbs : (lo : ℕ) (ks rs : List ℕ) → rises lo ks ≡ true → all_pass nonzero rs ≡ true → Climbs lo (beside ks rs)
beside_climbs lo [] rs h k = tt
beside_climbs lo (x ∷ ks) [] h k = tt
beside_climbs lo (x ∷ ks) (r ∷ rs) h k =
    let p = both (leb lo x) _ h in
    let q = both (leb x 255) _ p.1 in
    let z = both (nonzero r) _ k in (
      record { low = leb-true lo x p.0; byte = omega (arith, leb-true x 255 q.0); some = ltb-true 0 r z.0 },
      beside_climbs (suc x) ks rs (ap (λ (n : ℕ). rises n ks) (let e : suc x ≡ x + 1 = omega arith in e) ∙ q.1) z.1,
    )

pub filled_climbs : (b : ℕ) (l : List ℕ) → b + length l ≤ 256 → Climbs b (filled b l)
filled_climbs b [] h = tt
filled_climbs b (r ∷ rs) h = go (nonzero r) refl (filled_climbs (suc b) rs (omega arith))
  where
    go : (t : Bool) → nonzero r ≡ t → Climbs (suc b) (filled (suc b) rs) → Climbs b (filled b (r ∷ rs))
    go true e ih = subst (Climbs b) (sym (filled_holds b r rs e)) (record { low = omega arith; byte = omega arith; some = ltb-true 0 r e }, ih)
    go false e ih = subst (Climbs b) (sym (filled_skips b r rs e)) (climbs_lower b (suc b) (filled (suc b) rs) (omega arith) ih)

pub filled_length : (b : ℕ) (l : List ℕ) → length (filled b l) ≡ how_many nonzero l
filled_length b [] = refl
filled_length b (r ∷ rs) = go (nonzero r) refl (filled_length (suc b) rs)
  where
    go : (t : Bool) → nonzero r ≡ t → length (filled (suc b) rs) ≡ how_many nonzero rs → length (filled b (r ∷ rs)) ≡ how_many nonzero (r ∷ rs)
    go true e ih = ap length (filled_holds b r rs e) ∙ ap suc ih ∙ ap (λ (t : Bool). choose t (suc (how_many nonzero rs)) (how_many nonzero rs)) (sym e)
    go false e ih = ap length (filled_skips b r rs e) ∙ ih ∙ ap (λ (t : Bool). choose t (suc (how_many nonzero rs)) (how_many nonzero rs)) (sym e)

-- ── the child for a byte, looked up in the row ──
beside_for : (b : ℕ) (ks rs : List ℕ) → length ks ≡ length rs
    → choose (ltb (first (is b) ks) (length ks)) (get_or rs (first (is b) ks) 0) 0 ≡ ref_for b (beside ks rs)
beside_for b [] rs e = refl
beside_for b (k ∷ ks) [] e = absurd (omega arith)
beside_for b (k ∷ ks) (r ∷ rs) e = go (eqb k b) (beside_for b ks rs (omega arith))
  where
    go : (t : Bool) → choose (ltb (first (is b) ks) (length ks)) (get_or rs (first (is b) ks) 0) 0 ≡ ref_for b (beside ks rs)
        → choose (ltb (choose t 0 (suc (first (is b) ks))) (suc (length ks))) (get_or (r ∷ rs) (choose t 0 (suc (first (is b) ks))) 0) 0 ≡ choose t r (ref_for b (beside ks rs))
    go true ih = simp (lt-ltb 0 (suc (length ks)) (omega arith))
    go false ih = simp (leb-suc-suc (suc (first (is b) ks)) (length ks)) ih

sorted_for : (k : ℕ) (body : List ℕ) (n b : ℕ) → length body ≡ k + k → n ≤ k → sorted_child k body n b ≡ ref_for b (sorted_row k body n)
unfolding sorted_child
sorted_for k body n b long h =
    let kl : length (between body 0 n) ≡ n = between_length body 0 n (omega arith) (omega arith) ∙ omega arith in
    let rl : length (between body k (k + n)) ≡ n = between_length body k (k + n) (omega arith) (omega arith) ∙ omega arith in
    at (first (is b) (between body 0 n))
    ∙ ap (λ (m : ℕ). choose (ltb (first (is b) (between body 0 n)) m) (get_or (between body k (k + n)) (first (is b) (between body 0 n)) 0) 0) (sym kl)
    ∙ beside_for b (between body 0 n) (between body k (k + n)) (kl ∙ sym rl)
  where
    at : (j : ℕ) → choose (ltb j n) (get_or body (k + j) 0) 0 ≡ choose (ltb j n) (get_or (between body k (k + n)) j 0) 0
    at j = go (ltb j n) refl
      where
        go : (t : Bool) → ltb j n ≡ t → choose t (get_or body (k + j) 0) 0 ≡ choose t (get_or (between body k (k + n)) j 0) 0
        go true e = let l : j < n = ltb-true j n e in sym (between_at body k (k + n) j (omega arith))
        go false e = refl

-- no byte below lo is in a row that climbs from lo on
pub climbs_none : (lo b : ℕ) (es : List (ℕ × ℕ)) → Climbs lo es → b < lo → ref_for b es ≡ 0
climbs_none lo b [] c h = refl
climbs_none lo b (e ∷ es) c h =
    ap (λ (t : Bool). choose t e.1 (ref_for b es)) (ne_eqb e.0 b (λ z. omega (arith, c.0.low))) ∙ climbs_none (suc e.0) b es c.1 (omega (arith, c.0.low))

filled_for : (a i : ℕ) (l : List ℕ) → a + length l ≤ 256 → ref_for (a + i) (filled a l) ≡ get_or l i 0
filled_for a i [] h = refl
filled_for a zero (r ∷ rs) h = go (nonzero r) refl
  where
    go : (t : Bool) → nonzero r ≡ t → ref_for (a + 0) (filled a (r ∷ rs)) ≡ r
    go true e = ap (ref_for (a + 0)) (filled_holds a r rs e) ∙ ap (λ (t : Bool). choose t r (ref_for (a + 0) (filled (suc a) rs))) (eq-eqb a (a + 0) (omega arith))
    go false e =
        ap (ref_for (a + 0)) (filled_skips a r rs e) ∙ climbs_none (suc a) (a + 0) (filled (suc a) rs) (filled_climbs (suc a) rs (omega arith)) (omega arith) ∙ omega (arith, ltb-false 0 r e)
filled_for a (suc i) (r ∷ rs) h =
    go (nonzero r) refl (ap (λ (k : ℕ). ref_for k (filled (suc a) rs)) (let e : a + suc i ≡ suc a + i = omega arith in e) ∙ filled_for (suc a) i rs (omega arith))
  where
    go : (t : Bool) → nonzero r ≡ t → ref_for (a + suc i) (filled (suc a) rs) ≡ get_or rs i 0 → ref_for (a + suc i) (filled a (r ∷ rs)) ≡ get_or rs i 0
    go true e ih =
        ap (ref_for (a + suc i)) (filled_holds a r rs e) ∙ ap (λ (t : Bool). choose t r (ref_for (a + suc i) (filled (suc a) rs))) (ne_eqb a (a + suc i) (λ e. omega arith)) ∙ ih
    go false e ih = ap (ref_for (a + suc i)) (filled_skips a r rs e) ∙ ih

-- ── each kind's row, by its body's rule ──
sorted_row_lem : (k : ℕ) (body : List ℕ) (n : ℕ) → length body ≡ k + k → n ≤ k → sorted_ok k body n ≡ true → RowRule (sorted_row k body n) (sorted_child k body n) n
unfolding sorted_ok
sorted_row_lem k body n long few ok =
    let a = both (rises 0 (between body 0 n) && all_pass (at_most 0) (between body n k) && all_pass nonzero (between body k (k + n))) _ ok in
    let b = both (rises 0 (between body 0 n) && all_pass (at_most 0) (between body n k)) _ a.0 in
    let c = both (rises 0 (between body 0 n)) _ b.0 in
    record {
      size = sorted_length k body n long few;
      climbs = beside_climbs 0 (between body 0 n) (between body k (k + n)) c.0 b.1;
      child_for = λ x h. sorted_for k body n x long few;
    }

-- kinds 3 and 4, by the words that tell which bytes have a child
filled_row : {body : List ℕ} {row : List (ℕ × ℕ)} {ref : ℕ → ℕ} (n : ℕ) → Scanned body row ref → how_many nonzero (take 256 body) ≡ n → RowRule row ref n
filled_row {body} {row} {ref} n w many =
    record {
      size = ap length w.fills ∙ filled_length 0 w.places ∙ sym (count_alike w.alike) ∙ many;
      climbs = subst (Climbs 0) (sym w.fills) (filled_climbs 0 w.places (omega (arith, w.long)));
      child_for = λ b h. w.each b h ∙ sym (ap₂ ref_for (let q : b ≡ 0 + b = omega arith in q) w.fills ∙ filled_for 0 b w.places (omega (arith, w.long)));
    }

slots_many : (body : List ℕ) (n : ℕ) → length body ≡ 304 → SlotsFit body → how_many nonzero (between body 256 304) ≡ n → how_many nonzero (take 256 body) ≡ n
slots_many body n long fit many =
    let slots = between body 0 256 in
    let refs = between body 256 304 in
    let all48 : length refs ≡ 48 = between_length body 256 304 (omega arith) (omega arith) in
    count_alike (alike_by nonzero (within 0 48) slots slots refl (λ i l. small_within 48 (get_or slots i 0) (leb-true _ _ (all_at (at_most 48) slots fit.low i l))))
    ∙ ap (λ (m : ℕ). how_many (within 0 m) slots) (sym all48)
    ∙ named_count slots 0 refs fit.names
    ∙ many

module _ {kind : ℕ} {body : List ℕ} {n : ℕ} (w : BodyFits kind body n) where
  pub body_scanned : 3 ≤ kind → Scanned body (body_row kind body n) (child_of kind body n)
  unfolding body_row child_of
  body_scanned h = go (leb kind 2) refl (eqb kind 3) refl
    where
      go : (t : Bool) → leb kind 2 ≡ t → (u : Bool) → eqb kind 3 ≡ u
          → Scanned body
          (choose t (sorted_row (children_of kind) body n) (choose u (indirect_row body) (direct_row body)))
          (λ b. choose t (sorted_child (children_of kind) body n b) (choose u (indirect_child body b) (get_or body b 0)))
      go true e u i = absurd (omega (arith, leb-true kind 2 e))
      go false e true i = let r = indirect_fits w (eqb-true kind 3 i) in indirect_scanned body r.0 r.1
      go false e false i = direct_scanned body (direct_fits w (omega (arith, w.high, leb-false kind 2 e, eqb-false kind 3 i))).0

  many : 3 ≤ kind → how_many nonzero (take 256 body) ≡ n
  many h = go (eqb kind 3) refl
    where
      go : (u : Bool) → eqb kind 3 ≡ u → how_many nonzero (take 256 body) ≡ n
      go true i = let r = indirect_fits w (eqb-true kind 3 i) in slots_many body n r.0 r.1 r.2
      go false i = let r = direct_fits w (omega (arith, w.high, h, eqb-false kind 3 i)) in ap (how_many nonzero) (take_all 256 body (omega (arith, r.0))) ∙ r.1

  low_row : kind ≤ 2 → RowRule (body_row kind body n) (child_of kind body n) n
  unfolding body_row child_of
  low_row h =
      let r = sorted_fits w h in
      subst (λ (t : Bool). RowRule (choose t (sorted_row (children_of kind) body n) (choose (eqb kind 3) (indirect_row body) (direct_row body))) (λ b. choose t (sorted_child (children_of kind) body n b) (choose (eqb kind 3) (indirect_child body b) (get_or body b 0))) n)
      (sym (le-leb kind 2 h))
      (sorted_row_lem (children_of kind) body n r.0 w.few r.1)

  pub body_row_lem : RowRule (body_row kind body n) (child_of kind body n) n
  body_row_lem = go (dec_le kind 2)
    where
      go : Dec (kind ≤ 2) → RowRule (body_row kind body n) (child_of kind body n) n
      go (yes h) = low_row h
      go (no h) = let three : 3 ≤ kind = omega arith in filled_row n (body_scanned three) (many three)

pub row_rule : {form : Form} {kind : ℕ} {rec : List ℕ} → InnerFits form kind rec → RowRule (row_at form kind rec) (child_at form kind rec) (get_or rec 1 0)
unfolding child_at
row_rule w = body_row_lem (body_fits w)
