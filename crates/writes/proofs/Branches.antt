-- The children of a record laid out by their bytes: two of them, or all but one.
use Prim.Native.Nat.{ℕ, zero, suc, ◌-◌, ◌≤◌, ◌<◌}
use mathlib.Core.Path.{◌≡◌, refl, ap, ◌∙◌}
use mathlib.Core.Logic.{◌≢◌}
use mathlib.Core.List.{List, []}
use native.Mathlib.Omega.{arith}
use lib.ListN.{length, get_or, set, replicate, length-set, length-replicate}
use lib.Seq.{get_or-set_other}
use lib.Dec.{lit≤}
use borrow.Author.Tests.{eqb-true}
use Rattle.lists.specs.Scan.{how_many, nonzero}
use Rattle.prefix.specs.declared.Prefix.{Prefix}
use Rattle.frames.specs.Kind.{kind_row}
use Rattle.frames.specs.declared.form.Form.{Form}
use Rattle.frames.proofs.KindTable.{kind_rules}
use Rattle.records.specs.Own.{direct_ok, child_of, child_at}
use Rattle.records.specs.Row.{filled, direct_row, ref_for}
use Rattle.records.proofs.Owns.{inner_rule}
use Rattle.edits.specs.declared.representation.Change.TheVariants.{Remove}
use Rattle.edits.specs.Record.{spread_of}
use Rattle.edits.specs.Rows.{Row, row_insert, row_pair, row_remove}
use Rattle.edits.specs.Inner.{Inner}
use Rattle.edits.proofs.Inners.{inner_size, inner_climbs, inner_child, spread_of_lem}
use Rattle.edits.proofs.RowChanges.{pair_climbs, table_insert}
use Rattle.edits.proofs.Shown.{Direct, holds_laid, holds_child}
use Rattle.edits.proofs.TableBodies.{direct_shown, direct_change}

-- places that are all 0 have no child
zeros_row : (n b : ℕ) → filled b (replicate n 0) ≡ []
zeros_row zero b = refl
zeros_row (suc n) b = zeros_row n (suc b)

zero_at : (n i : ℕ) → ◌≡◌ {A = ℕ} (get_or (replicate n 0) i 0) 0
zero_at zero i = refl
zero_at (suc n) zero = refl
zero_at (suc n) (suc i) = zero_at n i

-- how many children a table has
direct_count : (body : List ℕ) (n : ℕ) (row : Row) → Direct body n row → how_many nonzero body ≡ n
unfolding direct_ok
direct_count body n row d = eqb-true _ _ d.ok

-- ── two children ──
module _ (b r c s : ℕ) (ne : b ≢ c) (bl : b < 256) (cl : c < 256) (rs : 0 < r) (ss : 0 < s) where
  abbrev none : List ℕ
  none = replicate 256 0

  pub pair_long : length (set (set none c s) b r) ≡ 256
  pair_long = length-set (set none c s) b r ∙ length-set none c s ∙ length-replicate {A = ℕ} 256 0

  pub pair_row : direct_row (set (set none c s) b r) ≡ row_pair b r c s
  pair_row =
      table_insert b (set none c s) (length-set none c s ∙ length-replicate {A = ℕ} 256 0) bl r (get_or-set_other none c b s 0 ne ∙ zero_at 256 b) rs
      ∙ ap (row_insert b r) (table_insert c none (length-replicate {A = ℕ} 256 0) cl s (zero_at 256 c) ss ∙ ap (row_insert c s) (zeros_row 256 0))

  pub pair_count : how_many nonzero (set (set none c s) b r) ≡ 2
  pair_count =
      direct_count (set (set none c s) b r) 2 (row_pair b r c s)
      (direct_shown (set (set none c s) b r) 2 (row_pair b r c s) pair_long pair_row (pair_climbs b r c s ne bl cl rs ss).0)

-- ── a record's children, and all but one ──
module _ {form : Form} {kind : ℕ} {rec : List ℕ} {p : Prefix} {row : Row} (i : Inner form kind rec p row) where
  abbrev S : List ℕ
  S = spread_of form kind rec

  table : Direct S (length row) row
  table = direct_shown S (length row) row (spread_of_lem i).0 (spread_of_lem i).1 refl

  pub spread_long : length S ≡ 256
  spread_long = (spread_of_lem i).0

  pub spread_count : how_many nonzero S ≡ get_or rec 1 0
  spread_count = (spread_of_lem i).2 ∙ inner_size i

  few : length row ≤ 256
  few = omega (arith, inner_size i, (inner_rule form kind rec i.fits.ok).few, (kind_rules kind i.fits.low i.fits.high).most)

  at_byte : (b : ℕ) → b < 256 → get_or S b 0 ≡ ref_for b row
  unfolding child_of kind_row
  at_byte b low = holds_child (holds_laid 4 S (length row) row (lit≤ tt) (lit≤ tt) few table) b low

  pub drop_count : (b : ℕ) → b < 256 → 0 < child_at form kind rec b → how_many nonzero (set S b 0) ≡ get_or rec 1 0 - 1
  drop_count b low some =
      direct_count (set S b 0) (length row - 1) (row_remove b row)
      (direct_change S (length row) row table refl (inner_climbs i) b low (at_byte b low) Remove (omega (arith, inner_child i b low)))
      ∙ ap (λ (n : ℕ). n - 1) (inner_size i)
