-- A used cell is read from a record of a pool whose word 0 is not 0; where that obeys its rule, the cell gives its tag's length, or its children.
use Prim.Native.Nat.{ℕ, suc, ◌-◌}
use mathlib.Core.Path.{◌≡◌, refl, sym, ap, ap₂, subst, ◌∙◌}
use mathlib.Core.List.{List, [], ◌∷◌, ◌++◌}
use mathlib.Core.Bool.{Bool, true, false}
use native.Mathlib.Omega.{arith}
use lib.ListN.{length, get_or, take, drop, replicate, length-drop, take-append-drop}
use lib.Seq.{length-take-le, take_all}
use lib.Dec.{eqb}
use borrow.Author.Tests.{eqb-false}
use Rattle.lists.specs.Scan.{choose}
use Rattle.lists.specs.Part.{between}
use Rattle.lists.proofs.Tests.{all_zero}
use Rattle.lists.proofs.Parts.{between_length}
use Rattle.prefix.specs.Run.{capped, held}
use Rattle.frames.specs.Form.{stored_of}
use Rattle.frames.specs.Frame.{FrameOf}
use Rattle.records.specs.Own.{prefix_at, InnerFits, total_of}
use Rattle.frames.specs.Place.{in_pool, record_at, key_at}
use Rattle.records.specs.Row.{row_at}
use Rattle.records.specs.View.{Held, places, cell_of, rule_at}
use Rattle.frames.specs.declared.frame.Frame.{Frame}
use Rattle.records.proofs.Owns.{inner_rule, leaf_rule}
use Rattle.frames.proofs.FormTable.{stored_eight}
use Rattle.frames.proofs.Places.{inner_kind, record_length, key_length}
use Rattle.records.proofs.RowRules.{row_rule}
use Rattle.art.specs.Stores.{Place, leaf_place, inner_place, Cell, unused, leaf_cell, inner_cell, Used}
use Rattle.view.specs.Cells.{word_zero}
use Rattle.view.specs.Seen.{LeafShows, InnerShows, LeafObeys, InnerObeys}

-- a used cell comes from a pool, and from a record in use
picked : (b z : Bool) (c d : Cell Held) → choose b (choose z unused c) unused ≡ d → Used d → (b ≡ true) × (z ≡ false) × (c ≡ d)
picked true true c d e u = absurd (subst Used (sym e) u)
picked true false c d e u = (refl, refl, e)
picked false z c d e u = absurd (subst Used (sym e) u)

module _ (f : Frame) (words keys : List ℕ) where
  -- what a leaf and an inner record show
  abbrev leaf_shown : ℕ → Cell Held
  leaf_shown n = leaf_cell (take (get_or (record_at f words (leaf_place n)) 1 0) (key_at f keys n)) (record { number = n; total = total_of (record_at f words (leaf_place n)) })

  abbrev inner_shown : ℕ → ℕ → Cell Held
  inner_shown k n =
      inner_cell (get_or (record_at f words (inner_place k n)) 2 0) (held (prefix_at f.form (record_at f words (inner_place k n))))
      (places (row_at f.form k (record_at f words (inner_place k n))))

  leaf_picked : (n : ℕ) (d : Cell Held) → cell_of f words keys (leaf_place n) ≡ d → Used d
      → (in_pool f (leaf_place n) ≡ true) × (eqb (word_zero f words (leaf_place n)) 0 ≡ false) × (leaf_shown n ≡ d)
  unfolding cell_of
  leaf_picked n d = picked (in_pool f (leaf_place n)) (eqb (word_zero f words (leaf_place n)) 0) (leaf_shown n) d

  inner_picked : (k n : ℕ) (d : Cell Held) → cell_of f words keys (inner_place k n) ≡ d → Used d
      → (in_pool f (inner_place k n) ≡ true) × (eqb (word_zero f words (inner_place k n)) 0 ≡ false) × (inner_shown k n ≡ d)
  unfolding cell_of
  inner_picked k n d = picked (in_pool f (inner_place k n)) (eqb (word_zero f words (inner_place k n)) 0) (inner_shown k n) d

  pub seen_leaf : (n : ℕ) (tag : List ℕ) (a : Held) → cell_of f words keys (leaf_place n) ≡ leaf_cell tag a → LeafShows f words keys n tag a
  seen_leaf n tag a h =
      let r = leaf_picked n (leaf_cell tag a) h tt in
      let e : leaf_shown n ≡ leaf_cell tag a = r.2 in
      record { pool = r.0; used = eqb-false _ _ r.1; tag_is = cc; number_is = cc; total_is = cc }

  pub seen_inner : (k n len : ℕ) (stored : List ℕ) (refs : List (ℕ × Place)) → cell_of f words keys (inner_place k n) ≡ inner_cell len stored refs
      → InnerShows f words k n len stored refs
  seen_inner k n len stored refs h =
      let r = inner_picked k n (inner_cell len stored refs) h tt in
      let e : inner_shown k n ≡ inner_cell len stored refs = r.2 in
      record { pool = r.0; used = eqb-false _ _ r.1; len_is = cc; stored_is = cc; refs_are = cc }

places_length : (es : List (ℕ × ℕ)) → length (places es) ≡ length es
places_length [] = refl
places_length (e ∷ es) = ap suc (places_length es)

module _ {f : Frame} {words keys : List ℕ} (w : FrameOf f words keys) where
  pub leaf_obeys : {n : ℕ} {tag : List ℕ} {a : Held} → LeafShows f words keys n tag a → rule_at f words keys (leaf_place n) ≡ true → LeafObeys f words keys n tag
  leaf_obeys {n} {tag} {a} s h =
      let limit = f.form.limit in
      let key = key_at f keys n in
      let len = get_or (record_at f words (leaf_place n)) 1 0 in
      let r = leaf_rule limit (record_at f words (leaf_place n)) key h in
      let long : length key ≡ limit = key_length w n s.pool in
      let size : length tag ≡ len = ap length s.tag_is ∙ length-take-le len key (omega (arith, r.short)) in
      let rest : drop len key ≡ replicate (limit - len) 0 =
      sym (take_all (limit - len) (drop len key) (omega (arith, length-drop len key)))
      ∙ all_zero (between key len limit) r.rest
      ∙ ap (λ (m : ℕ). replicate m 0) (between_length key len limit r.short (omega arith)) in
      record {
        short = omega (arith, r.short);
        in_use = r.used;
        len_is = sym size;
        key_is = sym (take-append-drop len key) ∙ ap₂ (λ (x y : List ℕ). x ++ y) (sym s.tag_is) (rest ∙ ap (λ (m : ℕ). replicate (limit - m) 0) (sym size));
      }

  pub inner_obeys : {k n len : ℕ} {stored : List ℕ} {refs : List (ℕ × Place)} → InnerShows f words k n len stored refs → rule_at f words keys (inner_place k n) ≡ true
      → InnerObeys f words k n len stored refs
  unfolding prefix_at
  inner_obeys {k} {n} {len} {stored} {refs} s h =
      let rec = record_at f words (inner_place k n) in
      let kind = inner_kind w k n s.pool in
      let fits : InnerFits f.form k rec = record { low = kind.0; high = kind.1; long = record_length w (inner_place k n) s.pool; ok = h } in
      let r = inner_rule f.form k rec h in
      let row = row_rule fits in
      let count : length refs ≡ get_or rec 1 0 = ap length s.refs_are ∙ places_length (row_at f.form k rec) ∙ row.size in
      record {
        fits = fits;
        kind_is = r.head.kind_word;
        count_is = sym count;
        two = omega (arith, r.head.two);
        few = omega (arith, r.few);
        short = omega (arith, r.head.short, s.len_is);
        stored_long =
            ap length s.stored_is
            ∙ length-take-le (capped (get_or rec 2 0)) (stored_of f.form rec) (omega (arith, stored_eight f.form rec))
            ∙ ap capped (sym s.len_is);
      }
