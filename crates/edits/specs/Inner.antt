-- An inner record with the prefix and the row that it has, and the prefixes that a record can have.
use Rattle.std.specs.Prelude.{ℕ, ◌≤◌, ◌≡◌, List, true, length}
use Rattle.lists.specs.Scan.{at_most, all_pass}
use Rattle.lists.specs.Part.{between}
use Rattle.prefix.specs.Run.{capped}
use Rattle.prefix.specs.declared.Prefix.{Prefix}
use Rattle.frames.specs.declared.form.Form.{Form}
use Rattle.records.specs.Own.{prefix_at, InnerFits}
use Rattle.records.specs.Row.{row_at}
use Rattle.edits.specs.Rows.{Row}

-- a prefix that a record of this form can have: no longer than the limit, in eight bytes, those past its length 0
pub record PrefixFits (form : Form) (p : Prefix) : Type 0 where
  pub short : p.full.0 ≤ form.limit
  pub eight : length p.stored ≡ 8
  pub bytes : all_pass (at_most 255) p.stored ≡ true
  pub rest : all_pass (at_most 0) (between p.stored (capped p.full.0) 8) ≡ true

-- a record that obeys its rule, and has this prefix and row
pub record Inner (form : Form) (kind : ℕ) (rec : List ℕ) (p : Prefix) (row : Row) : Type 0 where
  pub fits : InnerFits form kind rec
  pub prefix : prefix_at form rec ≡ p
  pub shows : row_at form kind rec ≡ row
