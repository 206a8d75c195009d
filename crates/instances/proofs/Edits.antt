-- A record with children for A, B and C, in each of the four kinds: built, with a child more, one less, another one, in another kind, and with another run.
use Prim.Native.Nat.{ℕ, ◌≤◌}
use mathlib.Core.Path.{◌≡◌, refl}
use mathlib.Core.List.{[], ◌∷◌}
use native.Mathlib.Omega.{arith}
use Rattle.prefix.specs.Run.{prefix_of}
use Rattle.prefix.specs.declared.Prefix.{Prefix}
use Rattle.frames.specs.Form.{form_of, Stores}
use mathlib.Core.Logic.{inl}
use Rattle.frames.proofs.KindTable.{kind_rules}
use Rattle.records.specs.Row.{direct_row, Climbs}
use Rattle.records.specs.View.{inner_cell_of}
use Rattle.art.specs.Stores.{leaf_place, inner_cell}
use Rattle.edits.specs.declared.representation.Change.TheVariants.{Add, Remove, Replace}
use Rattle.edits.specs.Head.{set_prefix}
use Rattle.edits.specs.Record.{change_of, spread_of, build_rec}
use Rattle.edits.specs.Rows.{Row}
use Rattle.edits.specs.Inner.{PrefixFits, Inner}
use Rattle.edits.proofs.Inners.{change_inner, prefix_inner, build_inner, move_inner}
use Rattle.edits.proofs.Cells.{change_cell, prefix_cell, move_cell, build_cell}
use Rattle.instances.specs.Opened.{opened}

-- ── the record ──
-- the run L1
abbrev pub run : Prefix
run = prefix_of (76 ∷ 49 ∷ [])

abbrev row : Row
row = (65, 5) ∷ (66, 13) ∷ (67, 21) ∷ []

eight : Stores (form_of 1)
unfolding opened
eight = inl refl

pub run_fits : PrefixFits (form_of 1) run
unfolding opened
run_fits = record { short = omega arith; eight = refl; bytes = refl; rest = refl }

pub none_fits : PrefixFits (form_of 1) (prefix_of [])
unfolding opened
none_fits = record { short = omega arith; eight = refl; bytes = refl; rest = refl }

climbs : Climbs 0 row
climbs = (
  record { low = omega arith; byte = omega arith; some = omega arith },
  (record { low = omega arith; byte = omega arith; some = omega arith }, (record { low = omega arith; byte = omega arith; some = omega arith }, tt)),
)

-- ── in any kind ──
module _ (kind : ℕ) (low : 1 ≤ kind) (high : kind ≤ 4) where
  built : Inner (form_of 1) kind (build_rec (form_of 1) kind run row) run row
  built = build_inner (form_of 1) eight kind run row low high run_fits (omega arith) (omega (arith, (kind_rules kind low high).least)) climbs

  -- a child for D
  added : Inner (form_of 1) kind (change_of (form_of 1) kind (build_rec (form_of 1) kind run row) 68 (Add 29)) run ((65, 5) ∷ (66, 13) ∷ (67, 21) ∷ (68, 29) ∷ [])
  unfolding opened
  added = change_inner eight built 68 (omega arith) (Add 29) (omega (arith, (kind_rules kind low high).least), (refl, omega arith)) (omega arith)

  -- none for C
  removed : Inner (form_of 1) kind (change_of (form_of 1) kind (build_rec (form_of 1) kind run row) 67 Remove) run ((65, 5) ∷ (66, 13) ∷ [])
  unfolding opened
  removed = change_inner eight built 67 (omega arith) Remove (omega arith) (omega arith)

  -- another for B
  replaced : Inner (form_of 1) kind (change_of (form_of 1) kind (build_rec (form_of 1) kind run row) 66 (Replace 29)) run ((65, 5) ∷ (66, 29) ∷ (67, 21) ∷ [])
  unfolding opened
  replaced = change_inner eight built 66 (omega arith) (Replace 29) (omega arith, omega arith) (omega arith)

  -- no run
  bared : Inner (form_of 1) kind (set_prefix (form_of 1) (prefix_of []) (build_rec (form_of 1) kind run row)) (prefix_of []) row
  bared = prefix_inner eight built (prefix_of []) none_fits

  -- moved into any kind
  moved : (to : ℕ) → 1 ≤ to → to ≤ 4 → Inner (form_of 1) to (build_rec (form_of 1) to run (direct_row (spread_of (form_of 1) kind (build_rec (form_of 1) kind run row)))) run row
  moved to from upto = move_inner eight built to from upto (omega (arith, (kind_rules to from upto).least))

  -- ── and the cells that these show ──
  built_cell : inner_cell_of (form_of 1) kind (build_rec (form_of 1) kind run row) ≡ inner_cell 2 (76 ∷ 49 ∷ []) ((65, leaf_place 0) ∷ (66, leaf_place 1) ∷ (67, leaf_place 2) ∷ [])
  unfolding opened
  built_cell = build_cell (form_of 1) eight kind run row low high run_fits (omega arith) (omega (arith, (kind_rules kind low high).least)) climbs

  added_cell : inner_cell_of (form_of 1) kind (change_of (form_of 1) kind (build_rec (form_of 1) kind run row) 68 (Add 29))
      ≡ inner_cell 2 (76 ∷ 49 ∷ []) ((65, leaf_place 0) ∷ (66, leaf_place 1) ∷ (67, leaf_place 2) ∷ (68, leaf_place 3) ∷ [])
  unfolding opened
  added_cell = change_cell eight built 68 (omega arith) (Add 29) (omega (arith, (kind_rules kind low high).least), (refl, omega arith)) (omega arith)

  removed_cell : inner_cell_of (form_of 1) kind (change_of (form_of 1) kind (build_rec (form_of 1) kind run row) 67 Remove) ≡ inner_cell 2 (76 ∷ 49 ∷ []) ((65, leaf_place 0) ∷ (66, leaf_place 1) ∷ [])
  unfolding opened
  removed_cell = change_cell eight built 67 (omega arith) Remove (omega arith) (omega arith)

  replaced_cell : inner_cell_of (form_of 1) kind (change_of (form_of 1) kind (build_rec (form_of 1) kind run row) 66 (Replace 29))
      ≡ inner_cell 2 (76 ∷ 49 ∷ []) ((65, leaf_place 0) ∷ (66, leaf_place 3) ∷ (67, leaf_place 2) ∷ [])
  unfolding opened
  replaced_cell = change_cell eight built 66 (omega arith) (Replace 29) (omega arith, omega arith) (omega arith)

  bared_cell : inner_cell_of (form_of 1) kind (set_prefix (form_of 1) (prefix_of []) (build_rec (form_of 1) kind run row)) ≡ inner_cell 0 [] ((65, leaf_place 0) ∷ (66, leaf_place 1) ∷ (67, leaf_place 2) ∷ [])
  unfolding opened
  bared_cell = prefix_cell eight built (prefix_of []) none_fits

  moved_cell : (to : ℕ) → 1 ≤ to → to ≤ 4 → inner_cell_of (form_of 1) to (build_rec (form_of 1) to run (direct_row (spread_of (form_of 1) kind (build_rec (form_of 1) kind run row))))
      ≡ inner_cell 2 (76 ∷ 49 ∷ []) ((65, leaf_place 0) ∷ (66, leaf_place 1) ∷ (67, leaf_place 2) ∷ [])
  unfolding opened
  moved_cell to from upto = move_cell eight built to from upto (omega (arith, (kind_rules to from upto).least))
