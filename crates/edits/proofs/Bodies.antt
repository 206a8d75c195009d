-- Every kind: a body that holds a row holds the changed row after a change; its spread is the table of its row; and a row that climbs has
-- a body that holds it.
use Prim.Native.Nat.{ℕ, ◌≤◌, ◌<◌}
use mathlib.Core.Path.{◌≡◌, refl, sym, ap, ◌∙◌}
use mathlib.Core.List.{List}
use mathlib.Core.Bool.{Bool}
use native.Mathlib.Omega.{arith}
use lib.ListN.{length, get_or, set}
use lib.Dec.{eqb, leb}
use Rattle.lists.specs.Scan.{choose, nonzero, how_many}
use Rattle.lists.specs.Part.{between}
use Rattle.lists.proofs.Tests.{count_le}
use Rattle.lists.proofs.Parts.{between_length}
use Rattle.frames.specs.Kind.{kind_row, children_of}
use Rattle.records.specs.Own.{sorted_child, indirect_child, child_of}
use Rattle.records.specs.Row.{sorted_row, direct_row, ref_for, Climbs}
use Rattle.records.proofs.Rows.{spread_length}
use Rattle.records.proofs.RowRules.{filled_length}
use Rattle.edits.specs.declared.representation.Change.{Change}
use Rattle.edits.specs.declared.representation.Change.TheVariants.{Add, Remove, Replace}
use Rattle.edits.specs.Change.{ref_in, count_in}
use Rattle.edits.specs.Body.{sorted_change, slot_change, body_change, row_spread, sorted_spread, slot_spread, body_spread, sorted_body, slot_body, body_of}
use Rattle.edits.specs.Rows.{Row, row_change, Takes}
use Rattle.edits.proofs.Columns.{tab_length}
use Rattle.edits.proofs.Shown.{Laid, by_layout, Holds, holds_laid, laid, holds_size, holds_climbs, holds_child}
use Rattle.edits.proofs.SortedBodies.{sorted_built, sorted_change_lem}
use Rattle.edits.proofs.TableBodies.{direct_shown, direct_built, direct_change, spread_row}
use Rattle.edits.proofs.SlotBodies.{indirect_built, indirect_change}

-- by the two tests of the kind
abbrev by : {A : Type 0} → Bool → Bool → A → A → A → A
by t u x y z = choose t x (choose u y z)

module _ {kind : ℕ} {body : List ℕ} {n : ℕ} {row : Row} (h : Holds kind body n row) where
  size : length row ≡ n
  size = holds_size h

  climbs : Climbs 0 row
  climbs = holds_climbs h

  child : (b : ℕ) → b < 256 → by (leb kind 2) (eqb kind 3) (sorted_child (children_of kind) body n b) (indirect_child body b) (get_or body b 0) ≡ ref_for b row
  unfolding child_of
  child b l = holds_child h b l

  -- no more children than there are places for
  few : (b : ℕ) (change : Change) → Takes (children_of kind) b change row → count_in change n ≤ children_of kind
  few b (Add r) t = omega (arith, t.0, size)
  few b Remove t = omega (arith, h.fits.few)
  few b (Replace r) t = h.fits.few

  pub holds_change : (b : ℕ) → b < 256 → (change : Change) → Takes (children_of kind) b change row → Holds kind (body_change kind body n b change) (count_in change n) (row_change b change row)
  unfolding body_change
  holds_change b low change takes =
      holds_laid kind (body_change kind body n b change) (count_in change n) (row_change b change row) h.fits.low h.fits.high (few b change takes)
      (by_layout
      (λ t u words k. Laid t u words k body n row → by t u (sorted_child k body n b) (indirect_child body b) (get_or body b 0) ≡ ref_for b row → n ≤ k → Takes k b change row
      → Laid t u words k (by t u (sorted_change k body n b change) (slot_change body b change) (set body b (ref_in change))) (count_in change n) (row_change b change row))
      (λ k s e l. sorted_change_lem k body n row s l size climbs b low change)
      (λ s e l. indirect_change body n row s l b low e change size)
      (λ s e l. direct_change body n row s size climbs b low e change)
      kind h.fits.low h.fits.high (laid h) (child b low) h.fits.few takes)

  -- the references by their bytes: a table with the same row
  table : (length (body_spread kind body n) ≡ 256) × (direct_row (body_spread kind body n) ≡ row)
  unfolding body_spread sorted_spread slot_spread
  table =
      by_layout
      (λ t u words k. Laid t u words k body n row
      → (length (by t u (sorted_spread k body n) (slot_spread body) body) ≡ 256) × (direct_row (by t u (sorted_spread k body n) (slot_spread body) body) ≡ row))
      (λ k s. (
        tab_length 256 0 (λ b. ref_for b (sorted_row k body n)),
        ap (λ (l : Row). direct_row (row_spread l)) s.shows ∙ spread_row row climbs,
      ))
      (λ s. (spread_length (between body 256 304) (between body 0 256) ∙ between_length body 0 256 (omega arith) (omega (arith, s.long)), s.shows))
      (λ s. (s.long, s.shows))
      kind h.fits.low h.fits.high (laid h)

  pub spread_length_is : length (body_spread kind body n) ≡ 256
  spread_length_is = table.0

  pub spread_shows : direct_row (body_spread kind body n) ≡ row
  spread_shows = table.1

  pub spread_count : how_many nonzero (body_spread kind body n) ≡ n
  spread_count = sym (filled_length 0 (body_spread kind body n)) ∙ ap length spread_shows ∙ size

  -- it is a body of kind 4
  pub spread_holds : Holds 4 (body_spread kind body n) n row
  unfolding kind_row
  spread_holds =
      holds_laid 4 (body_spread kind body n) n row (omega arith) (omega arith) (omega (arith, count_le nonzero (body_spread kind body n), spread_count, spread_length_is))
      (direct_shown (body_spread kind body n) n row spread_length_is spread_shows size)

  pub spread_at_byte : (b : ℕ) → b < 256 → get_or (body_spread kind body n) b 0 ≡ ref_for b row
  unfolding child_of
  spread_at_byte b l = holds_child spread_holds b l

-- the body built from a row
pub holds_built : (kind : ℕ) (row : Row) → 1 ≤ kind → kind ≤ 4 → length row ≤ children_of kind → Climbs 0 row → Holds kind (body_of kind row) (length row) row
unfolding body_of
holds_built kind row low high few c =
    holds_laid kind (body_of kind row) (length row) row low high few
    (by_layout
    (λ t u words k. length row ≤ k → Laid t u words k (by t u (sorted_body k row) (slot_body row) (row_spread row)) (length row) row)
    (λ k l. sorted_built k row (length row) refl l c)
    (λ l. indirect_built row l c)
    (λ l. direct_built row c)
    kind low high few)
