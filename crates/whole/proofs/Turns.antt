-- The cases of a leaf, of a child, and of the ends of a row and of a record, and what holds on the way.
use Prim.Native.Nat.{ℕ, ◌+◌}
use mathlib.Core.Path.{◌≡◌, refl, sym, ap, subst, ◌∙◌}
use mathlib.Core.List.{List}
use mathlib.Core.Bool.{Bool, true, false, ◌&&◌}
use lib.Dec.{eqb}
use borrow.Author.Tests.{eq-eqb, ne_eqb, eqb-false}
use Rattle.std.specs.Prelude.{Some, None}
use Rattle.whole.specs.Visit.{Visit, leaf_visit, first_of, row_end, child_end, record_end}
use Rattle.lists.specs.Scan.{choose}
use Rattle.frames.specs.declared.frame.Frame.{Frame}
use Rattle.records.specs.Words.{previous_leaf, next_leaf_word}
use Rattle.records.specs.Own.{prefix_at}
use Rattle.whole.specs.Arrive.{inner_rec}
use Rattle.tree.specs.Seen.{LeafSeen, tag_at}
use Rattle.whole.specs.Witness.{WitnessSeen, goes_on, stored_agrees}
use Rattle.whole.specs.declared.well_formed.Seen.{Seen}
use Rattle.whole.specs.declared.well_formed.Row.{Row}

-- ── the witness of a row ──
module _ (w t : ℕ) where
  pub first_none : w ≡ 0 → t ≡ first_of w t
  first_none e = ap (λ (b : Bool). choose b t w) (sym (eq-eqb w 0 e))

  pub first_some : (w ≡ 0 → ⊥) → w ≡ first_of w t
  first_some e = ap (λ (b : Bool). choose b t w) (sym (ne_eqb w 0 e))

module _ (w : ℕ) (s : Seen) where
  pub row_none : w ≡ 0 → None ≡ row_end w s
  unfolding row_end
  row_none e = ap (λ (b : Bool). choose b None (Some (w, s))) (sym (eq-eqb w 0 e))

  pub row_some : (w ≡ 0 → ⊥) → Some (w, s) ≡ row_end w s
  unfolding row_end
  row_some e = ap (λ (b : Bool). choose b None (Some (w, s))) (sym (ne_eqb w 0 e))

pub first_seen : {f : Frame} {words keys : List ℕ} {w t x : ℕ} → WitnessSeen f words keys w → LeafSeen f words keys t → x ≡ first_of w t → LeafSeen f words keys x
first_seen {f} {words} {keys} {w} {t} h l e = subst (LeafSeen f words keys) (sym e) (go (eqb w 0) refl)
  where
    go : (b : Bool) → eqb w 0 ≡ b → LeafSeen f words keys (choose b t w)
    go true q = l
    go false q = h.seen (eqb-false w 0 q)

-- ── a child ──
module _ (f : Frame) (words keys : List ℕ) (e byte w : ℕ) {v : Visit} where
  pub child_ill : v ≡ None → None ≡ child_end f words keys e byte w v
  child_ill q = ap (child_end f words keys e byte w) (sym q)

  module _ {t x : ℕ} {s : Seen} (q : v ≡ Some (t, s)) (fst : x ≡ first_of w t) where
    child_by : (b : Bool) → goes_on e (tag_at f words keys x) byte (tag_at f words keys t) ≡ b → choose b (Some (x, s)) None ≡ child_end f words keys e byte w v
    child_by b g =
        ap (λ (b : Bool). choose b (Some (x, s)) None) (sym g)
        ∙ ap (λ (y : ℕ). choose (goes_on e (tag_at f words keys y) byte (tag_at f words keys t)) (Some (y, s)) None) fst
        ∙ ap (child_end f words keys e byte w) (sym q)

    pub child_well : goes_on e (tag_at f words keys x) byte (tag_at f words keys t) ≡ true → Some (x, s) ≡ child_end f words keys e byte w v
    child_well g = child_by true g

    pub child_parts : goes_on e (tag_at f words keys x) byte (tag_at f words keys t) ≡ false → None ≡ child_end f words keys e byte w v
    child_parts g = child_by false g

-- ── a record's end ──
module _ (f : Frame) (words keys : List ℕ) (row : Row) (depth : ℕ) where
  abbrev agreement : ℕ → Bool
  agreement w = stored_agrees depth (prefix_at f.form (inner_rec f.form words row.kind row.start)) (tag_at f words keys w)

  pub record_ill : {v : Visit} → v ≡ None → None ≡ record_end f words keys row depth v
  record_ill q = ap (record_end f words keys row depth) (sym q)

  module _ {v : Visit} {w : ℕ} {s : Seen} (q : v ≡ Some (w, s)) where
    record_by : (b : Bool) → agreement w ≡ b → choose b (Some (w, s)) None ≡ record_end f words keys row depth v
    record_by b g = ap (λ (b : Bool). choose b (Some (w, s)) None) (sym g) ∙ ap (record_end f words keys row depth) (sym q)

    pub record_well : agreement w ≡ true → Some (w, s) ≡ record_end f words keys row depth v
    record_well g = record_by true g

    pub record_parts : agreement w ≡ false → None ≡ record_end f words keys row depth v
    record_parts g = record_by false g

-- ── a leaf, by its links ──
module _ (rec : List ℕ) (ref : ℕ) (s : Seen) {prev next : ℕ} (p : prev ≡ previous_leaf rec) (n : next ≡ next_leaf_word rec) where
  abbrev ahead : ℕ → Visit
  ahead x = Some (ref, record { prev = ref; next = x; count = s.count + 1 })

  leaf_by : (b : Bool) → eqb prev s.prev && eqb s.next ref ≡ b → choose b (ahead next) None ≡ leaf_visit rec ref s
  unfolding leaf_visit
  leaf_by b e =
      ap (λ (b : Bool). choose b (ahead next) None) (sym e ∙ ap (λ (x : ℕ). eqb x s.prev && eqb s.next ref) p)
      ∙ ap (λ (x : ℕ). choose (eqb (previous_leaf rec) s.prev && eqb s.next ref) (ahead x) None) n

  pub leaf_well : eqb prev s.prev && eqb s.next ref ≡ true → ahead next ≡ leaf_visit rec ref s
  leaf_well e = leaf_by true e

  pub leaf_parts : eqb prev s.prev && eqb s.next ref ≡ false → None ≡ leaf_visit rec ref s
  leaf_parts e = leaf_by false e
