-- A row with a child more, a child less, or another reference for one: its length and order, the places it shows, and the table of 256
-- places whose row it is.
use Prim.Native.Nat.{ℕ, zero, suc, ◌+◌, ◌≤◌, ◌<◌}
use mathlib.Core.Path.{◌≡◌, refl, sym, ap, subst, ◌∙◌}
use mathlib.Core.Logic.{ite, if_pos, if_neg}
use mathlib.Core.List.{List, [], ◌∷◌}
use mathlib.Core.Bool.{Bool, true, false}
use native.Mathlib.Decide.{ℕ_discrete}
use native.Mathlib.Omega.{arith}
use lib.ListN.{length, get_or, set}
use borrow.Author.Tests.{eq-eqb, ne_eqb, lt-ltb}
use Rattle.lists.specs.Scan.{choose, nonzero}
use Rattle.frames.specs.Place.{place_at}
use Rattle.records.specs.Row.{filled, ref_for, Climbs}
use Rattle.records.specs.View.{places}
use Rattle.records.proofs.Rows.{filled_skips, filled_holds}
use Rattle.records.proofs.RowRules.{climbs_lower, filled_climbs}
use Rattle.art.specs.Stores.{Place}
use Rattle.art.specs.Tags.{Order, order, below, equal, above}
use Rattle.art.specs.Refs.{add_ref, add_ref_by, pair_ref, pair_ref_by, cut_ref, re_ref}
use Rattle.edits.specs.declared.representation.Change.{Change}
use Rattle.edits.specs.declared.representation.Change.TheVariants.{Add, Remove, Replace}
use Rattle.edits.specs.Rows.{Row, row_insert_by, row_insert, row_pair, row_remove, row_replace, row_change, refs_change}

-- a row whose front child is for another byte
pub refs_later : (b : ℕ) (e : ℕ × ℕ) (es : Row) → (b ≡ e.0 → ⊥) → ref_for b (e ∷ es) ≡ ref_for b es
refs_later b e es n = ap (λ (t : Bool). choose t e.1 (ref_for b es)) (ne_eqb e.0 b (λ q. n (sym q)))

-- a front child for b that is no child for b
not_front : (b : ℕ) (e : ℕ × ℕ) (es : Row) → 0 < e.1 → ref_for b (e ∷ es) ≡ 0 → b ≡ e.0 → ⊥
not_front b e es h z q = omega (arith, ap (λ (t : Bool). choose t e.1 (ref_for b es)) (eq-eqb e.0 b (sym q)))

-- ── one more ──
module _ (b r : ℕ) where
  -- by where b stands to the front child's byte; it is not that byte
  pub by_order : (P : Row → Type 0) (e : ℕ × ℕ) (es : Row) → 0 < e.1 → ref_for b (e ∷ es) ≡ 0
      → (b < e.0 → P ((b, r) ∷ e ∷ es)) → (e.0 < b → ref_for b es ≡ 0 → P (e ∷ row_insert b r es)) → P (row_insert b r (e ∷ es))
  by_order P e es s z f g = go (order b e.0)
    where
      go : (o : Order b e.0) → P (row_insert_by b r e o es (row_insert b r es))
      go (below h) = f h
      go (equal h) = absurd (not_front b e es s z h)
      go (above h) = g h (sym (refs_later b e es (λ q. omega arith)) ∙ z)

  pub insert_length : (lo : ℕ) (row : Row) → Climbs lo row → ref_for b row ≡ 0 → length (row_insert b r row) ≡ suc (length row)
  insert_length lo [] c z = refl
  insert_length lo (e ∷ es) c z =
      by_order (λ l. length l ≡ suc (suc (length es))) e es c.0.some z (λ h. refl) (λ h y. ap suc (insert_length (suc e.0) es c.1 y))

  pub insert_climbs : (lo : ℕ) (row : Row) → lo ≤ b → b < 256 → 0 < r → Climbs lo row → ref_for b row ≡ 0 → Climbs lo (row_insert b r row)
  insert_climbs lo [] l h s c z = (record { low = l; byte = h; some = s }, tt)
  insert_climbs lo (e ∷ es) l h s c z =
      by_order (Climbs lo) e es c.0.some z
      (λ k. (record { low = l; byte = h; some = s }, (record { low = k; byte = c.0.byte; some = c.0.some }, c.1)))
      (λ k y. (c.0, insert_climbs (suc e.0) es k h s c.1 y))

  pub insert_places : (row : Row) → places (row_insert b r row) ≡ add_ref b (place_at r) (places row)
  insert_places [] = refl
  insert_places (e ∷ es) = go (order b e.0) (insert_places es)
    where
      go : (o : Order b e.0) → places (row_insert b r es) ≡ add_ref b (place_at r) (places es)
          → places (row_insert_by b r e o es (row_insert b r es)) ≡ add_ref_by b (place_at r) (e.0, place_at e.1) o (places es) (add_ref b (place_at r) (places es))
      go (below h) ih = refl
      go (equal h) ih = refl
      go (above h) ih = ap (λ (l : List (ℕ × Place)). (e.0, place_at e.1) ∷ l) ih

-- two children
module _ (x t y u : ℕ) (n : x ≡ y → ⊥) where
  pub pair_places : places (row_pair x t y u) ≡ pair_ref x (place_at t) y (place_at u)
  pair_places = insert_places x t ((y, u) ∷ []) ∙ go (order x y)
    where
      go : (o : Order x y) → add_ref_by x (place_at t) (y, place_at u) o [] ((x, place_at t) ∷ []) ≡ pair_ref_by x y o (place_at t) (place_at u)
      go (below h) = refl
      go (equal h) = absurd (n h)
      go (above h) = refl

  pub pair_climbs : x < 256 → y < 256 → 0 < t → 0 < u → (length (row_pair x t y u) ≡ 2) × Climbs 0 (row_pair x t y u)
  pair_climbs xl yl ts us =
      let c : Climbs 0 ((y, u) ∷ []) = (record { low = omega arith; byte = yl; some = us }, tt) in
      let z : ref_for x ((y, u) ∷ []) ≡ 0 = refs_later x (y, u) [] n in
      (insert_length x t 0 ((y, u) ∷ []) c z, insert_climbs x t 0 ((y, u) ∷ []) (omega arith) xl ts c z)

-- ── one less ──
module _ (b : ℕ) where
  pub remove_length : (row : Row) → 0 < ref_for b row → suc (length (row_remove b row)) ≡ length row
  remove_length [] h = absurd (omega arith)
  remove_length (e ∷ es) h = go (ℕ_discrete b e.0) (remove_length es)
    where
      go : (d : Dec (b ≡ e.0)) → (0 < ref_for b es → suc (length (row_remove b es)) ≡ length es) → suc (length (ite d es (e ∷ row_remove b es))) ≡ suc (length es)
      go (yes q) ih = refl
      go (no n) ih = ap suc (ih (omega (arith, refs_later b e es n)))

  pub remove_climbs : (lo : ℕ) (row : Row) → Climbs lo row → Climbs lo (row_remove b row)
  remove_climbs lo [] c = tt
  remove_climbs lo (e ∷ es) c = go (ℕ_discrete b e.0) (remove_climbs (suc e.0) es c.1)
    where
      go : (d : Dec (b ≡ e.0)) → Climbs (suc e.0) (row_remove b es) → Climbs lo (ite d es (e ∷ row_remove b es))
      go (yes q) ih = climbs_lower lo (suc e.0) es (omega (arith, c.0.low)) c.1
      go (no n) ih = (c.0, ih)

  pub remove_places : (row : Row) → places (row_remove b row) ≡ cut_ref b (places row)
  remove_places [] = refl
  remove_places (e ∷ es) = go (ℕ_discrete b e.0) (remove_places es)
    where
      go : (d : Dec (b ≡ e.0)) → places (row_remove b es) ≡ cut_ref b (places es)
          → places (ite d es (e ∷ row_remove b es)) ≡ ite d (places es) ((e.0, place_at e.1) ∷ cut_ref b (places es))
      go (yes q) ih = refl
      go (no n) ih = ap (λ (l : List (ℕ × Place)). (e.0, place_at e.1) ∷ l) ih

-- ── another reference ──
module _ (b r : ℕ) where
  pub replace_length : (row : Row) → length (row_replace b r row) ≡ length row
  replace_length [] = refl
  replace_length (e ∷ es) = go (ℕ_discrete b e.0) (replace_length es)
    where
      go : (d : Dec (b ≡ e.0)) → length (row_replace b r es) ≡ length es → length (ite d ((e.0, r) ∷ es) (e ∷ row_replace b r es)) ≡ suc (length es)
      go (yes q) ih = refl
      go (no n) ih = ap suc ih

  pub replace_climbs : (lo : ℕ) (row : Row) → 0 < r → Climbs lo row → Climbs lo (row_replace b r row)
  replace_climbs lo [] s c = tt
  replace_climbs lo (e ∷ es) s c = go (ℕ_discrete b e.0) (replace_climbs (suc e.0) es s c.1)
    where
      go : (d : Dec (b ≡ e.0)) → Climbs (suc e.0) (row_replace b r es) → Climbs lo (ite d ((e.0, r) ∷ es) (e ∷ row_replace b r es))
      go (yes q) ih = (record { low = c.0.low; byte = c.0.byte; some = s }, c.1)
      go (no n) ih = (c.0, ih)

  pub replace_places : (row : Row) → places (row_replace b r row) ≡ re_ref (places row) b (place_at r)
  replace_places [] = refl
  replace_places (e ∷ es) = go (ℕ_discrete b e.0) (replace_places es)
    where
      go : (d : Dec (b ≡ e.0)) → places (row_replace b r es) ≡ re_ref (places es) b (place_at r)
          → places (ite d ((e.0, r) ∷ es) (e ∷ row_replace b r es)) ≡ ite d ((e.0, place_at r) ∷ places es) ((e.0, place_at e.1) ∷ re_ref (places es) b (place_at r))
      go (yes q) ih = refl
      go (no n) ih = ap (λ (l : List (ℕ × Place)). (e.0, place_at e.1) ∷ l) ih

-- ── by the change ──
pub change_places : (b : ℕ) (change : Change) (row : Row) → places (row_change b change row) ≡ refs_change b change (places row)
change_places b (Add r) row = insert_places b r row
change_places b Remove row = remove_places b row
change_places b (Replace r) row = replace_places b r row

-- ── a table with another reference for b: one change f of its row, that goes past the bytes below b, and is right where b is in front ──
module _ (f : Row → Row) (b was now : ℕ) (past : (e : ℕ × ℕ) (es : Row) → e.0 < b → f (e ∷ es) ≡ e ∷ f es)
    (here : (rs : List ℕ) → b + length rs < 256 → filled b (now ∷ rs) ≡ f (filled b (was ∷ rs))) where
  table_set : (a i : ℕ) (l : List ℕ) → a + i ≡ b → i < length l → a + length l ≤ 256 → get_or l i 0 ≡ was → filled a (set l i now) ≡ f (filled a l)
  table_set a i [] q h k g = absurd (omega arith)
  table_set a zero (x ∷ xs) q h k g =
      let s : a ≡ b = omega arith in
      subst (λ (c : ℕ). filled c (now ∷ xs) ≡ f (filled c (x ∷ xs))) (sym s) (subst (λ (y : ℕ). filled b (now ∷ xs) ≡ f (filled b (y ∷ xs))) (sym g) (here xs (omega arith)))
  table_set a (suc i) (x ∷ xs) q h k g = go (nonzero x) refl (table_set (suc a) i xs (omega arith) (omega arith) (omega arith) g)
    where
      go : (t : Bool) → nonzero x ≡ t → filled (suc a) (set xs i now) ≡ f (filled (suc a) xs) → filled a (x ∷ set xs i now) ≡ f (filled a (x ∷ xs))
      go true e ih =
          filled_holds a x (set xs i now) e
          ∙ ap (λ (l : Row). (a, x) ∷ l) ih
          ∙ sym (ap f (filled_holds a x xs e) ∙ past (a, x) (filled (suc a) xs) (omega arith))
      go false e ih = filled_skips a x (set xs i now) e ∙ ih ∙ ap f (sym (filled_skips a x xs e))

module _ (b : ℕ) (l : List ℕ) (long : length l ≡ 256) (low : b < 256) where
  pub table_insert : (r : ℕ) → get_or l b 0 ≡ 0 → 0 < r → filled 0 (set l b r) ≡ row_insert b r (filled 0 l)
  table_insert r z s = table_set (row_insert b r) b 0 r past here 0 b l (omega arith) (omega arith) (omega arith) z
    where
      past : (e : ℕ × ℕ) (es : Row) → e.0 < b → row_insert b r (e ∷ es) ≡ e ∷ row_insert b r es
      past e es h = go (order b e.0)
        where
          go : (o : Order b e.0) → row_insert_by b r e o es (row_insert b r es) ≡ e ∷ row_insert b r es
          go (below k) = absurd (omega arith)
          go (equal k) = absurd (omega arith)
          go (above k) = refl

      front : (es : Row) → Climbs (suc b) es → row_insert b r es ≡ (b, r) ∷ es
      front [] c = refl
      front (e ∷ es) c = go (order b e.0)
        where
          go : (o : Order b e.0) → row_insert_by b r e o es (row_insert b r es) ≡ (b, r) ∷ e ∷ es
          go (below k) = refl
          go (equal k) = absurd (omega (arith, c.0.low))
          go (above k) = absurd (omega (arith, c.0.low))

      here : (rs : List ℕ) → b + length rs < 256 → filled b (r ∷ rs) ≡ row_insert b r (filled b (0 ∷ rs))
      here rs h =
          filled_holds b r rs (lt-ltb 0 r s)
          ∙ sym (front (filled (suc b) rs) (filled_climbs (suc b) rs (omega arith)))
          ∙ ap (row_insert b r) (sym (filled_skips b 0 rs refl))

  pub table_remove : 0 < get_or l b 0 → filled 0 (set l b 0) ≡ row_remove b (filled 0 l)
  table_remove s = table_set (row_remove b) b (get_or l b 0) 0 past here 0 b l (omega arith) (omega arith) (omega arith) refl
    where
      past : (e : ℕ × ℕ) (es : Row) → e.0 < b → row_remove b (e ∷ es) ≡ e ∷ row_remove b es
      past e es h = if_neg (ℕ_discrete b e.0) (λ q. omega arith) es (e ∷ row_remove b es)

      here : (rs : List ℕ) → b + length rs < 256 → filled b (0 ∷ rs) ≡ row_remove b (filled b (get_or l b 0 ∷ rs))
      here rs h =
          let x = get_or l b 0 in
          filled_skips b 0 rs refl
          ∙ sym (if_pos (ℕ_discrete b b) refl (filled (suc b) rs) ((b, x) ∷ row_remove b (filled (suc b) rs)))
          ∙ ap (row_remove b) (sym (filled_holds b x rs (lt-ltb 0 x s)))

  pub table_replace : (r : ℕ) → 0 < get_or l b 0 → 0 < r → filled 0 (set l b r) ≡ row_replace b r (filled 0 l)
  table_replace r s k = table_set (row_replace b r) b (get_or l b 0) r past here 0 b l (omega arith) (omega arith) (omega arith) refl
    where
      past : (e : ℕ × ℕ) (es : Row) → e.0 < b → row_replace b r (e ∷ es) ≡ e ∷ row_replace b r es
      past e es h = if_neg (ℕ_discrete b e.0) (λ q. omega arith) ((e.0, r) ∷ es) (e ∷ row_replace b r es)

      here : (rs : List ℕ) → b + length rs < 256 → filled b (r ∷ rs) ≡ row_replace b r (filled b (get_or l b 0 ∷ rs))
      here rs h =
          let x = get_or l b 0 in
          filled_holds b r rs (lt-ltb 0 r k)
          ∙ sym (if_pos (ℕ_discrete b b) refl ((b, r) ∷ filled (suc b) rs) ((b, x) ∷ row_replace b r (filled (suc b) rs)))
          ∙ ap (row_replace b r) (sym (filled_holds b x rs (lt-ltb 0 x s)))
