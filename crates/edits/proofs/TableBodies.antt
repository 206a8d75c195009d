-- Kind 4, and every table of 256 places: the table of a row has this row, and a table with another reference for a byte has the changed row.
use Prim.Native.Nat.{ℕ, zero, suc, ◌+◌, ◌<◌}
use mathlib.Core.Path.{◌≡◌, refl, sym, ap, ap₂, subst, ◌∙◌}
use mathlib.Core.List.{List, [], ◌∷◌}
use mathlib.Core.Bool.{Bool, true, false}
use native.Mathlib.Omega.{arith}
use lib.ListN.{length, get_or, set, length-set}
use lib.Dec.{eqb}
use borrow.Author.Tests.{eq-eqb, ne_eqb, eqb-true, eqb-false, lt-ltb}
use Rattle.lists.specs.Scan.{choose, nonzero, all_pass}
use Rattle.lists.proofs.Tests.{and_both}
use Rattle.records.specs.Own.{direct_ok}
use Rattle.records.specs.Row.{filled, direct_row, ref_for, Climbs}
use Rattle.records.proofs.Rows.{filled_skips, filled_holds}
use Rattle.records.proofs.RowRules.{climbs_none, filled_length}
use Rattle.edits.specs.Body.{tab, row_spread}
use Rattle.edits.specs.declared.representation.Change.{Change}
use Rattle.edits.specs.declared.representation.Change.TheVariants.{Add, Remove, Replace}
use Rattle.edits.specs.Change.{ref_in, count_in}
use Rattle.edits.specs.Rows.{Row, row_insert, row_remove, row_replace, row_change, Takes}
use Rattle.edits.proofs.Columns.{tab_as, tab_length}
use Rattle.edits.proofs.RowChanges.{insert_length, remove_length, replace_length, table_insert, table_remove, table_replace}
use Rattle.edits.proofs.Shown.{Direct}

-- ── g of each number ──
pub tab_all : (p : ℕ → Bool) (m b : ℕ) (g : ℕ → ℕ) → ((i : ℕ) → p (g i) ≡ true) → all_pass p (tab m b g) ≡ true
tab_all p zero b g h = refl
tab_all p (suc m) b g h = and_both (h b) (tab_all p m (suc b) g h)

-- ── the table of a row ──
tab_row : (m b : ℕ) (row : Row) → b + m ≡ 256 → Climbs b row → filled b (tab m b (λ i. ref_for i row)) ≡ row
tab_row zero b [] e c = refl
tab_row zero b (x ∷ row) e c = absurd (omega (arith, c.0.low, c.0.byte))
tab_row (suc m) b [] e c = filled_skips b 0 (tab m (suc b) (λ i. 0)) refl ∙ tab_row m (suc b) [] (omega arith) tt
tab_row (suc m) b (x ∷ row) e c = go (eqb x.0 b) refl (tab_row m (suc b) (x ∷ row) (omega arith)) (tab_row m (suc b) row (omega arith))
  where
    more : List ℕ
    more = tab m (suc b) (λ i. ref_for i (x ∷ row))

    go : (t : Bool) → eqb x.0 b ≡ t → (Climbs (suc b) (x ∷ row) → filled (suc b) more ≡ x ∷ row)
        → (Climbs (suc b) row → filled (suc b) (tab m (suc b) (λ i. ref_for i row)) ≡ row) → filled b (ref_for b (x ∷ row) ∷ more) ≡ x ∷ row
    go true q h k =
        let same : x.0 ≡ b = eqb-true x.0 b q in
        ap (λ (t : Bool). filled b (choose t x.1 (ref_for b row) ∷ more)) q
        ∙ filled_holds b x.1 more (lt-ltb 0 x.1 c.0.some)
        ∙ ap₂ (λ (y : ℕ) (l : Row). (y, x.1) ∷ l) (sym same)
        (ap (filled (suc b))
        (tab_as m (suc b) (λ i. ref_for i (x ∷ row)) (λ i. ref_for i row) (λ j l. ap (λ (t : Bool). choose t x.1 (ref_for j row)) (ne_eqb x.0 j (λ z. omega arith))))
        ∙ k (subst (λ (y : ℕ). Climbs (suc y) row) same c.1))
    go false q h k =
        let other : x.0 ≡ b → ⊥ = eqb-false x.0 b q in
        let v : Climbs (suc b) (x ∷ row) = (record { low = omega (arith, c.0.low); byte = c.0.byte; some = c.0.some }, c.1) in
        filled_skips b (ref_for b (x ∷ row)) more (ap nonzero (climbs_none (suc b) b (x ∷ row) v (omega arith))) ∙ h v

pub spread_row : (row : Row) → Climbs 0 row → direct_row (row_spread row) ≡ row
spread_row row c = tab_row 256 0 row refl c

-- ── kind 4 ──
-- any table with this row
pub direct_shown : (body : List ℕ) (n : ℕ) (row : Row) → length body ≡ 256 → direct_row body ≡ row → length row ≡ n → Direct body n row
unfolding direct_ok
direct_shown body n row long e size = record { long = long; ok = eq-eqb _ _ (sym (filled_length 0 body) ∙ ap length e ∙ size); shows = e }

pub direct_built : (row : Row) → Climbs 0 row → Direct (row_spread row) (length row) row
direct_built row c = direct_shown (row_spread row) (length row) row (tab_length 256 0 (λ b. ref_for b row)) (spread_row row c) refl

module _ (body : List ℕ) (n : ℕ) (row : Row) (s : Direct body n row) (size : length row ≡ n) (c : Climbs 0 row) (b : ℕ) (low : b < 256) (here : get_or body b 0 ≡ ref_for b row) where
  pub direct_change : (change : Change) → Takes 256 b change row → Direct (set body b (ref_in change)) (count_in change n) (row_change b change row)
  direct_change change t =
      direct_shown (set body b (ref_in change)) (count_in change n) (row_change b change row) (length-set body b (ref_in change) ∙ s.long) (shows change t) (counts change t)
    where
      shows : (change : Change) → Takes 256 b change row → direct_row (set body b (ref_in change)) ≡ row_change b change row
      shows (Add r) t = table_insert b body s.long low r (here ∙ t.1.0) t.1.1 ∙ ap (row_insert b r) s.shows
      shows Remove t = table_remove b body s.long low (omega (arith, t)) ∙ ap (row_remove b) s.shows
      shows (Replace r) t = table_replace b body s.long low r (omega (arith, t.0)) t.1 ∙ ap (row_replace b r) s.shows

      counts : (change : Change) → Takes 256 b change row → length (row_change b change row) ≡ count_in change n
      counts (Add r) t = insert_length b r 0 row c t.1.0 ∙ omega arith
      counts Remove t = omega (arith, remove_length b row t)
      counts (Replace r) t = replace_length b r row ∙ size
