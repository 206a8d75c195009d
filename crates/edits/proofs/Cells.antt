-- What each change of an inner record makes of its cell, in the words of the mathematics' rows.
use Prim.Native.Nat.{ℕ, ◌≤◌, ◌<◌}
use mathlib.Core.Path.{◌≡◌, ap, ◌∙◌}
use mathlib.Core.List.{List}
use lib.ListN.{length}
use Rattle.prefix.specs.Run.{held}
use Rattle.prefix.specs.declared.Prefix.{Prefix}
use Rattle.frames.specs.Kind.{children_of}
use Rattle.frames.specs.Form.{Stores}
use Rattle.records.specs.Row.{direct_row, Climbs}
use Rattle.records.specs.View.{Held, places, inner_cell_of}
use Rattle.frames.specs.declared.form.Form.{Form}
use Rattle.art.specs.Stores.{Place, Cell, inner_cell}
use Rattle.edits.specs.declared.representation.Change.{Change}
use Rattle.edits.specs.Change.{count_in}
use Rattle.edits.specs.Head.{set_prefix}
use Rattle.edits.specs.Record.{change_of, spread_of, build_rec}
use Rattle.edits.specs.Rows.{Row, Takes, refs_change}
use Rattle.edits.proofs.RowChanges.{change_places}
use Rattle.edits.specs.Inner.{PrefixFits, Inner}
use Rattle.edits.proofs.Inners.{inner_shows, change_inner, prefix_inner, build_inner, move_inner}

-- the cell of this prefix
abbrev shown : Prefix → List (ℕ × Place) → Cell Held
shown p refs = inner_cell p.full.0 (held p) refs

module _ {form : Form} (stores : Stores form) {kind : ℕ} {rec : List ℕ} {p : Prefix} {row : Row} (i : Inner form kind rec p row) where
  pub change_cell : (b : ℕ) → b < 256 → (change : Change) → Takes (children_of kind) b change row → 2 ≤ count_in change (length row)
      → inner_cell_of form kind (change_of form kind rec b change) ≡ inner_cell p.full.0 (held p) (refs_change b change (places row))
  change_cell b low change takes two = inner_shows (change_inner stores i b low change takes two) ∙ ap (shown p) (change_places b change row)

  pub prefix_cell : (q : Prefix) → PrefixFits form q → inner_cell_of form kind (set_prefix form q rec) ≡ inner_cell q.full.0 (held q) (places row)
  prefix_cell q f = inner_shows (prefix_inner stores i q f)

  pub move_cell : (to : ℕ) → 1 ≤ to → to ≤ 4 → length row ≤ children_of to
      → inner_cell_of form to (build_rec form to p (direct_row (spread_of form kind rec))) ≡ inner_cell p.full.0 (held p) (places row)
  move_cell to low high few = inner_shows (move_inner stores i to low high few)

pub build_cell : (form : Form) → Stores form → (kind : ℕ) (p : Prefix) (row : Row) → 1 ≤ kind → kind ≤ 4 → PrefixFits form p → 2 ≤ length row → length row ≤ children_of kind
    → Climbs 0 row → inner_cell_of form kind (build_rec form kind p row) ≡ inner_cell p.full.0 (held p) (places row)
build_cell form stores kind p row low high f two few c = inner_shows (build_inner form stores kind p row low high f two few c)
