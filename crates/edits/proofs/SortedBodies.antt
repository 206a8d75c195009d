-- Kinds 1 and 2, over the number k of places: a body that obeys the rule is the one built from its row, so that a change of it is the body
-- built from the changed row.
use Prim.Native.Nat.{ℕ, zero, suc, ◌+◌, ◌-◌, ◌≤◌, ◌<◌}
use mathlib.Core.Path.{◌≡◌, refl, sym, ap, ap₂, subst, ◌∙◌}
use mathlib.Core.Logic.{ite}
use mathlib.Core.List.{List, [], ◌∷◌, ◌++◌, append-nil}
use mathlib.Core.Bool.{Bool, true, ◌&&◌}
use native.Mathlib.Decide.{ℕ_discrete}
use native.Mathlib.Omega.{arith}
use lib.ListN.{length, take, set, replicate, length-append, length-replicate}
use lib.Seq.{take_at}
use borrow.Author.Tests.{le-leb, lt-leb, lt-ltb, eq-eqb, ne_eqb}
use Rattle.lists.specs.Scan.{choose, is, at_most, at_least, nonzero, all_pass, first, rises}
use Rattle.lists.specs.Part.{between}
use Rattle.lists.specs.Edit.{push_in, pull_out, shift_in, shift_out, padded}
use Rattle.lists.proofs.Tests.{both, and_both, all_zero, zeros_all}
use Rattle.lists.proofs.Parts.{between_length, between_whole, between_join, between_front, between_middle, between_left, between_right}
use Rattle.lists.proofs.Edits.{padded_length}
use Rattle.records.specs.Own.{sorted_ok}
use Rattle.records.specs.Row.{beside, sorted_row, ref_for, Climbs}
use Rattle.edits.specs.declared.representation.Change.{Change}
use Rattle.edits.specs.declared.representation.Change.TheVariants.{Add, Remove, Replace}
use Rattle.edits.specs.Change.{count_in}
use Rattle.edits.specs.Body.{sorted_add, sorted_remove, sorted_replace, sorted_change, bytes_of, refs_of, sorted_body}
use Rattle.edits.specs.Rows.{Row, row_insert, row_remove, row_replace, row_change, Takes}
use Rattle.edits.proofs.Columns.{bytes_length, refs_length}
use Rattle.edits.proofs.RowChanges.{refs_later, by_order, insert_length, insert_climbs, remove_length, remove_climbs, replace_length, replace_climbs}
use Rattle.edits.proofs.Shown.{Sorted}

abbrev zeros : ℕ → List ℕ
zeros m = replicate m 0

-- a column of a row: its bytes, or its references
abbrev col : (ℕ × ℕ → ℕ) → Row → List ℕ
col g [] = []
col g (e ∷ es) = g e ∷ col g es

bytes_col : (row : Row) → bytes_of row ≡ col (λ e. e.0) row
bytes_col [] = refl
bytes_col (e ∷ es) = ap (λ (l : List ℕ). e.0 ∷ l) (bytes_col es)

refs_col : (row : Row) → refs_of row ≡ col (λ e. e.1) row
refs_col [] = refl
refs_col (e ∷ es) = ap (λ (l : List ℕ). e.1 ∷ l) (refs_col es)

-- ── the body built from a row ──
beside_row : (row : Row) → beside (bytes_of row) (refs_of row) ≡ row
beside_row [] = refl
beside_row (e ∷ es) = ap (λ (l : Row). e ∷ l) (beside_row es)

row_rises : (lo : ℕ) (row : Row) → Climbs lo row → rises lo (bytes_of row) ≡ true
row_rises lo [] c = refl
row_rises lo (e ∷ es) c =
    and_both (le-leb lo e.0 c.0.low)
    (and_both (le-leb e.0 255 (omega (arith, c.0.byte)))
    (ap (λ (n : ℕ). rises n (bytes_of es)) (let q : e.0 + 1 ≡ suc e.0 = omega arith in q) ∙ row_rises (suc e.0) es c.1))

pub refs_nonzero : (lo : ℕ) (row : Row) → Climbs lo row → all_pass nonzero (refs_of row) ≡ true
refs_nonzero lo [] c = refl
refs_nonzero lo (e ∷ es) c = and_both (lt-ltb 0 e.1 c.0.some) (refs_nonzero (suc e.0) es c.1)

module _ (k : ℕ) (row : Row) (n : ℕ) (size : length row ≡ n) (few : n ≤ k) where
  abbrev keys : List ℕ
  keys = padded k (bytes_of row)

  abbrev refs : List ℕ
  refs = padded k (refs_of row)

  keys_long : length keys ≡ k
  keys_long = padded_length k (bytes_of row) (omega (arith, bytes_length row))

  refs_long : length refs ≡ k
  refs_long = padded_length k (refs_of row) (omega (arith, refs_length row))

  sorted_keys : between (sorted_body k row) 0 k ≡ keys
  unfolding sorted_body
  sorted_keys = between_middle [] keys refs 0 k refl (keys_long ∙ omega arith)

  sorted_refs : between (sorted_body k row) k (k + k) ≡ refs
  unfolding sorted_body
  sorted_refs =
      ap (λ (l : List ℕ). between (keys ++ l) k (k + k)) (sym (append-nil refs)) ∙ between_middle keys refs [] k (k + k) keys_long (refs_long ∙ omega arith)

  -- the four parts of the rule
  used_keys : between (sorted_body k row) 0 n ≡ bytes_of row
  used_keys =
      sym (between_front (sorted_body k row) 0 n k few)
      ∙ ap (take (n - 0)) sorted_keys
      ∙ take_at (bytes_of row) (zeros (k - length (bytes_of row))) (n - 0) (omega (arith, bytes_length row))

  used_refs : between (sorted_body k row) k (k + n) ≡ refs_of row
  used_refs =
      sym (between_front (sorted_body k row) k (k + n) (k + k) (omega arith))
      ∙ ap (take (k + n - k)) sorted_refs
      ∙ take_at (refs_of row) (zeros (k - length (refs_of row))) (k + n - k) (omega (arith, refs_length row))

  rest : (l : List ℕ) → length l ≡ n → between (padded k l) n k ≡ zeros (k - length l)
  rest l h =
      ap (λ (z : List ℕ). between (l ++ z) n k) (sym (append-nil (zeros (k - length l))))
      ∙ between_middle l (zeros (k - length l)) [] n k h (length-replicate (k - length l) 0 ∙ omega arith)

  rest_keys : between (sorted_body k row) n k ≡ zeros (k - length (bytes_of row))
  unfolding sorted_body
  rest_keys = between_left keys refs n k few (omega (arith, keys_long)) ∙ rest (bytes_of row) (bytes_length row ∙ size)

  rest_refs : between (sorted_body k row) (k + n) (k + k) ≡ zeros (k - length (refs_of row))
  unfolding sorted_body
  rest_refs = between_right keys refs n k k keys_long ∙ rest (refs_of row) (refs_length row ∙ size)

  pub sorted_built : Climbs 0 row → Sorted k (sorted_body k row) n row
  unfolding sorted_body sorted_ok
  sorted_built c =
      record {
        long = omega (arith, length-append keys refs, keys_long, refs_long);
        ok =
            and_both (and_both (and_both
            (ap (rises 0) used_keys ∙ row_rises 0 row c)
            (ap (all_pass (at_most 0)) rest_keys ∙ zeros_all (k - length (bytes_of row)) 0))
            (ap (all_pass nonzero) used_refs ∙ refs_nonzero 0 row c))
            (ap (all_pass (at_most 0)) rest_refs ∙ zeros_all (k - length (refs_of row)) 0);
        shows = ap₂ beside used_keys used_refs ∙ beside_row row;
      }

-- ── a body that obeys the rule is built from its row ──
beside_columns : (ks rs : List ℕ) → length ks ≡ length rs → (bytes_of (beside ks rs) ≡ ks) × (refs_of (beside ks rs) ≡ rs)
beside_columns [] [] h = (refl, refl)
beside_columns [] (r ∷ rs) h = absurd (omega arith)
beside_columns (k ∷ ks) [] h = absurd (omega arith)
beside_columns (k ∷ ks) (r ∷ rs) h =
    let i = beside_columns ks rs (omega arith) in
    (ap (λ (l : List ℕ). k ∷ l) i.0, ap (λ (l : List ℕ). r ∷ l) i.1)

-- a part whose rest is 0 is its used part, padded
part_padded : (l : List ℕ) (a m e k : ℕ) → a ≤ m → m ≤ e → e ≤ length l → e - a ≡ k → all_pass (at_most 0) (between l m e) ≡ true → between l a e ≡ padded k (between l a m)
part_padded l a m e k am me el ek z =
    let used = between_length l a m am (omega arith) in
    let left = between_length l m e me el in
    sym (between_join l a m e am me)
    ∙ ap (λ (y : List ℕ). between l a m ++ y) (all_zero (between l m e) z ∙ ap zeros (let q : length (between l m e) ≡ k - length (between l a m) = omega arith in q))

sorted_canon : (k : ℕ) (body : List ℕ) (n : ℕ) → length body ≡ k + k → n ≤ k → sorted_ok k body n ≡ true → body ≡ sorted_body k (sorted_row k body n)
unfolding sorted_ok sorted_body
sorted_canon k body n long few ok =
    let ks = between body 0 n in
    let rs = between body k (k + n) in
    let a = both (rises 0 ks && all_pass (at_most 0) (between body n k) && all_pass nonzero rs) (all_pass (at_most 0) (between body (k + n) (k + k))) ok in
    let b = both (rises 0 ks && all_pass (at_most 0) (between body n k)) (all_pass nonzero rs) a.0 in
    let c = both (rises 0 ks) (all_pass (at_most 0) (between body n k)) b.0 in
    let kl : length ks ≡ n = between_length body 0 n (omega arith) (omega arith) ∙ omega arith in
    let rl : length rs ≡ n = between_length body k (k + n) (omega arith) (omega arith) ∙ omega arith in
    let cols = beside_columns ks rs (kl ∙ sym rl) in
    let left : between body 0 k ≡ padded k ks = part_padded body 0 n k k (omega arith) few (omega arith) (omega arith) c.1 in
    let right : between body k (k + k) ≡ padded k rs = part_padded body k (k + n) (k + k) k (omega arith) (omega arith) (omega arith) (omega arith) a.1 in
    sym (between_whole body)
    ∙ ap (between body 0) long
    ∙ sym (between_join body 0 k (k + k) (omega arith) (omega arith))
    ∙ ap₂ ◌++◌ (left ∙ ap (padded k) (sym cols.0)) (right ∙ ap (padded k) (sym cols.1))

-- ── what a change of a list is to its columns ──
push_0 : (m : ℕ) → push_in 0 (zeros m) ≡ zeros m
push_0 zero = refl
push_0 (suc m) = ap (λ (l : List ℕ). 0 ∷ l) (push_0 m)

push_pad : (x m : ℕ) (l : List ℕ) → push_in x (l ++ zeros (suc m)) ≡ x ∷ (l ++ zeros m)
push_pad x m [] = ap (λ (l : List ℕ). x ∷ l) (push_0 m)
push_pad x m (y ∷ ys) = ap (λ (l : List ℕ). x ∷ l) (push_pad y m ys)

pull_pad : (y : ℕ) (l : List ℕ) (m : ℕ) → pull_out (y ∷ (l ++ zeros m)) 0 ≡ l ++ zeros (suc m)
pull_pad y [] zero = refl
pull_pad y [] (suc m) = ap (λ (l : List ℕ). 0 ∷ l) (pull_pad 0 [] m)
pull_pad y (z ∷ zs) m = ap (λ (l : List ℕ). z ∷ l) (pull_pad z zs m)

set_right : (xs ys : List ℕ) (n i v : ℕ) → length xs ≡ n → set (xs ++ ys) (n + i) v ≡ xs ++ set ys i v
set_right [] ys n i v h = ap (λ (j : ℕ). set ys j v) (let q : n + i ≡ i = omega arith in q)
set_right (x ∷ xs) ys n i v h =
    ap (λ (j : ℕ). set (x ∷ (xs ++ ys)) j v) (let q : n + i ≡ suc (length xs + i) = omega arith in q) ∙ ap (λ (l : List ℕ). x ∷ l) (set_right xs ys (length xs) i v refl)

module _ (g : ℕ × ℕ → ℕ) (b r : ℕ) where
  col_in : (lo : ℕ) (row : Row) (m : ℕ) → Climbs lo row → ref_for b row ≡ 0
      → shift_in (first (at_least b) (bytes_of row)) (g (b, r)) (col g row ++ zeros (suc m)) ≡ col g (row_insert b r row) ++ zeros m
  unfolding shift_in
  col_in lo [] m c z = push_pad (g (b, r)) m []
  col_in lo (e ∷ es) m c z =
      let at = first (at_least b) (bytes_of es) in
      by_order b r (λ l. shift_in (first (at_least b) (bytes_of (e ∷ es))) (g (b, r)) (col g (e ∷ es) ++ zeros (suc m)) ≡ col g l ++ zeros m) e es c.0.some z
      (λ h. ap (λ (t : Bool). shift_in (choose t 0 (suc at)) (g (b, r)) (col g (e ∷ es) ++ zeros (suc m))) (le-leb b e.0 (omega arith)) ∙ push_pad (g (b, r)) m (g e ∷ col g es))
      (λ h y. ap (λ (t : Bool). shift_in (choose t 0 (suc at)) (g (b, r)) (col g (e ∷ es) ++ zeros (suc m))) (lt-leb b e.0 h)
      ∙ ap (λ (l : List ℕ). g e ∷ l) (col_in (suc e.0) es m c.1 y))

module _ (g : ℕ × ℕ → ℕ) (b : ℕ) where
  col_out : (row : Row) (m : ℕ) → 0 < ref_for b row → shift_out (first (is b) (bytes_of row)) (col g row ++ zeros m) ≡ col g (row_remove b row) ++ zeros (suc m)
  unfolding shift_out
  col_out [] m h = absurd (omega arith)
  col_out (e ∷ es) m h = go (ℕ_discrete b e.0) (col_out es m)
    where
      go : (d : Dec (b ≡ e.0)) → (0 < ref_for b es → shift_out (first (is b) (bytes_of es)) (col g es ++ zeros m) ≡ col g (row_remove b es) ++ zeros (suc m))
          → shift_out (first (is b) (bytes_of (e ∷ es))) (col g (e ∷ es) ++ zeros m) ≡ col g (ite d es (e ∷ row_remove b es)) ++ zeros (suc m)
      go (yes q) ih =
          ap (λ (t : Bool). shift_out (choose t 0 (suc (first (is b) (bytes_of es)))) (col g (e ∷ es) ++ zeros m)) (eq-eqb e.0 b (sym q)) ∙ pull_pad (g e) (col g es) m
      go (no n) ih =
          ap (λ (t : Bool). shift_out (choose t 0 (suc (first (is b) (bytes_of es)))) (col g (e ∷ es) ++ zeros m)) (ne_eqb e.0 b (λ q. n (sym q)))
          ∙ ap (λ (l : List ℕ). g e ∷ l) (ih (omega (arith, refs_later b e es n)))

module _ (b r : ℕ) where
  bytes_set : (row : Row) → bytes_of (row_replace b r row) ≡ bytes_of row
  bytes_set [] = refl
  bytes_set (e ∷ es) = go (ℕ_discrete b e.0) (bytes_set es)
    where
      go : (d : Dec (b ≡ e.0)) → bytes_of (row_replace b r es) ≡ bytes_of es → bytes_of (ite d ((e.0, r) ∷ es) (e ∷ row_replace b r es)) ≡ e.0 ∷ bytes_of es
      go (yes q) ih = refl
      go (no n) ih = ap (λ (l : List ℕ). e.0 ∷ l) ih

  refs_set : (row : Row) (z : List ℕ) → 0 < ref_for b row → set (refs_of row ++ z) (first (is b) (bytes_of row)) r ≡ refs_of (row_replace b r row) ++ z
  refs_set [] z h = absurd (omega arith)
  refs_set (e ∷ es) z h = go (ℕ_discrete b e.0) (refs_set es z)
    where
      go : (d : Dec (b ≡ e.0)) → (0 < ref_for b es → set (refs_of es ++ z) (first (is b) (bytes_of es)) r ≡ refs_of (row_replace b r es) ++ z)
          → set (refs_of (e ∷ es) ++ z) (first (is b) (bytes_of (e ∷ es))) r ≡ refs_of (ite d ((e.0, r) ∷ es) (e ∷ row_replace b r es)) ++ z
      go (yes q) ih = ap (λ (t : Bool). set (refs_of (e ∷ es) ++ z) (choose t 0 (suc (first (is b) (bytes_of es)))) r) (eq-eqb e.0 b (sym q))
      go (no n) ih =
          ap (λ (t : Bool). set (refs_of (e ∷ es) ++ z) (choose t 0 (suc (first (is b) (bytes_of es)))) r) (ne_eqb e.0 b (λ q. n (sym q)))
          ∙ ap (λ (l : List ℕ). e.1 ∷ l) (ih (omega (arith, refs_later b e es n)))

-- ── a column padded to k places ──
col_length : (g : ℕ × ℕ → ℕ) (row : Row) → length (col g row) ≡ length row
col_length g [] = refl
col_length g (e ∷ es) = ap suc (col_length g es)

module _ (g : ℕ × ℕ → ℕ) (k : ℕ) where
  pad_by : (m : ℕ) (row : Row) → k - length row ≡ m → padded k (col g row) ≡ col g row ++ zeros m
  pad_by m row h = ap (λ (j : ℕ). col g row ++ zeros j) (let q : k - length (col g row) ≡ m = omega (arith, col_length g row) in q)

  column_in : (b r : ℕ) (row : Row) → length row < k → Climbs 0 row → ref_for b row ≡ 0
      → shift_in (first (at_least b) (bytes_of row)) (g (b, r)) (padded k (col g row)) ≡ padded k (col g (row_insert b r row))
  column_in b r row room c z =
      let m = k - suc (length row) in
      ap (shift_in (first (at_least b) (bytes_of row)) (g (b, r))) (pad_by (suc m) row (omega arith))
      ∙ col_in g b r 0 row m c z
      ∙ sym (pad_by m (row_insert b r row) (omega (arith, insert_length b r 0 row c z)))

  column_out : (b : ℕ) (row : Row) → length row ≤ k → 0 < ref_for b row
      → shift_out (first (is b) (bytes_of row)) (padded k (col g row)) ≡ padded k (col g (row_remove b row))
  column_out b row few h =
      let m = k - length row in
      ap (shift_out (first (is b) (bytes_of row))) (pad_by m row refl) ∙ col_out g b row m h ∙ sym (pad_by (suc m) (row_remove b row) (omega (arith, remove_length b row h)))

-- ── the three changes ──
module _ (k : ℕ) (body : List ℕ) (n : ℕ) (row : Row) (s : Sorted k body n row) (few : n ≤ k) (size : length row ≡ n) (c : Climbs 0 row) where
  canon : body ≡ sorted_body k row
  canon = sorted_canon k body n s.long few s.ok ∙ ap (sorted_body k) s.shows

  bytes : between body 0 n ≡ bytes_of row
  bytes = ap (λ (l : List ℕ). between l 0 n) canon ∙ used_keys k row n size few

  left : between body 0 k ≡ padded k (bytes_of row)
  left = ap (λ (l : List ℕ). between l 0 k) canon ∙ sorted_keys k row n size few

  right : between body k (k + k) ≡ padded k (refs_of row)
  right = ap (λ (l : List ℕ). between l k (k + k)) canon ∙ sorted_refs k row n size few

  sorted_add_lem : (b r : ℕ) → n < k → ref_for b row ≡ 0 → b < 256 → 0 < r → Sorted k (sorted_add k body n b r) (n + 1) (row_insert b r row)
  unfolding sorted_add sorted_body
  sorted_add_lem b r room z low some =
      let at = first (at_least b) (bytes_of row) in
      let new = row_insert b r row in
      subst (λ (l : List ℕ). Sorted k l (n + 1) new)
      (sym (ap (λ (l : List ℕ). shift_in (first (at_least b) l) b (between body 0 k) ++ shift_in (first (at_least b) l) r (between body k (k + k))) bytes
      ∙ ap₂ (λ (x y : List ℕ). shift_in at b x ++ shift_in at r y) left right
      ∙ ap₂ (λ (x y : List ℕ). shift_in at b (padded k x) ++ shift_in at r (padded k y)) (bytes_col row) (refs_col row)
      ∙ ap₂ ◌++◌ (column_in (λ e. e.0) k b r row (omega arith) c z) (column_in (λ e. e.1) k b r row (omega arith) c z)
      ∙ ap₂ (λ (x y : List ℕ). padded k x ++ padded k y) (sym (bytes_col new)) (sym (refs_col new))))
      (sorted_built k new (n + 1) (insert_length b r 0 row c z ∙ omega arith) (omega arith) (insert_climbs b r 0 row (omega arith) low some c z))

  sorted_remove_lem : (b : ℕ) → 0 < ref_for b row → Sorted k (sorted_remove k body n b) (n - 1) (row_remove b row)
  unfolding sorted_remove sorted_body
  sorted_remove_lem b h =
      let at = first (is b) (bytes_of row) in
      let new = row_remove b row in
      subst (λ (l : List ℕ). Sorted k l (n - 1) new)
      (sym (ap (λ (l : List ℕ). shift_out (first (is b) l) (between body 0 k) ++ shift_out (first (is b) l) (between body k (k + k))) bytes
      ∙ ap₂ (λ (x y : List ℕ). shift_out at x ++ shift_out at y) left right
      ∙ ap₂ (λ (x y : List ℕ). shift_out at (padded k x) ++ shift_out at (padded k y)) (bytes_col row) (refs_col row)
      ∙ ap₂ ◌++◌ (column_out (λ e. e.0) k b row (omega arith) h) (column_out (λ e. e.1) k b row (omega arith) h)
      ∙ ap₂ (λ (x y : List ℕ). padded k x ++ padded k y) (sym (bytes_col new)) (sym (refs_col new))))
      (sorted_built k new (n - 1) (omega (arith, remove_length b row h)) (omega arith) (remove_climbs b 0 row c))

  sorted_replace_lem : (b r : ℕ) → 0 < ref_for b row → 0 < r → Sorted k (sorted_replace k body n b r) n (row_replace b r row)
  unfolding sorted_replace sorted_body
  sorted_replace_lem b r h some =
      let at = first (is b) (bytes_of row) in
      let new = row_replace b r row in
      let same : length (refs_of row) ≡ length (refs_of new) = omega (arith, refs_length row, refs_length new, replace_length b r row) in
      subst (λ (l : List ℕ). Sorted k l n new)
      (sym (ap (λ (l : List ℕ). set body (k + first (is b) l) r) bytes
      ∙ ap (λ (l : List ℕ). set l (k + at) r) canon
      ∙ set_right (padded k (bytes_of row)) (padded k (refs_of row)) k at r (padded_length k (bytes_of row) (omega (arith, bytes_length row)))
      ∙ ap₂ ◌++◌ (ap (padded k) (sym (bytes_set b r row))) (refs_set b r row (zeros (k - length (refs_of row))) h ∙ ap (λ (j : ℕ). refs_of new ++ zeros (k - j)) same)))
      (sorted_built k new n (replace_length b r row ∙ size) few (replace_climbs b r 0 row some c))

  pub sorted_change_lem : (b : ℕ) → b < 256 → (change : Change) → Takes k b change row → Sorted k (sorted_change k body n b change) (count_in change n) (row_change b change row)
  sorted_change_lem b low (Add r) t = sorted_add_lem b r (omega (arith, t.0)) t.1.0 low t.1.1
  sorted_change_lem b low Remove t = sorted_remove_lem b t
  sorted_change_lem b low (Replace r) t = sorted_replace_lem b r t.0 t.1
