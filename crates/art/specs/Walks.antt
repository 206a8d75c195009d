-- The walk over a store, with so many records left, and the stores that show a tree.
use Rattle.std.specs.Prelude.{◌≡◌, Bool, ◌||◌, List, [], ◌∷◌, ◌++◌, ℕ, zero, suc, ◌+◌, length, take, drop, get_or, ltb}
use Rattle.std.proofs.Math.Logic.{ite}
use Rattle.std.proofs.Math.Option.{Option, none, some}
use Rattle.std.proofs.Math.Decide.{ℕ_discrete, dec_le}
use Rattle.art.specs.Tags.{Tag, Aim, fits_dec}
use Rattle.art.specs.Trees.{Tree, leaf, inner, Row, end, child}
use Rattle.art.specs.Nodes.{meets_dec, start}
use Rattle.art.specs.Stores.{Place, leaf_place, inner_place, Cell, unused, leaf_cell, inner_cell, Store, refs}

module _ {A : Type 0} where
  -- to the child for the byte b
  abbrev pub walk_refs : List (ℕ × Place) → ℕ → (Place → Option A) → Option A
  walk_refs [] b go = none
  walk_refs (e ∷ rs) b go = ite (ℕ_discrete b e.0) (go e.1) (walk_refs rs b go)

  -- at a cell, as the walk over what the records show
  abbrev pub walk_cell : Cell A → Aim → ℕ → Bool → Tag → (Place → ℕ → Bool → Option A) → Option A
  walk_cell unused m d sk s go = none
  walk_cell (leaf_cell t a) m d sk s go = ite (fits_dec m (drop (start sk d s t) s) (drop (start sk d s t) t)) (some a) none
  walk_cell (inner_cell len st rs) m d sk s go =
      ite (meets_dec sk st (drop d s)) (ite (dec_le (length s) (d + len)) none (walk_refs rs (get_or s (d + len) 0) (λ y. go y (suc (d + len)) (sk || ltb 8 len)))) none

  -- with so many records left
  abbrev pub walk_store : ℕ → Store A → Place → Aim → ℕ → Bool → Tag → Option A
  walk_store zero σ x m d sk s = none
  walk_store (suc f) σ x m d sk s = walk_cell (σ x) m d sk s (λ y e sk'. walk_store f σ y m e sk' s)

  -- ── a store shows a tree ──
  -- the store has the cells of the tree at its places, whatever else it has
  abbrev mutual
    pub Shows : Tree A → Tag → Store A → Type 0
    Shows (leaf n s a) p σ = σ (leaf_place n) ≡ leaf_cell (p ++ s) a
    Shows (inner k n run r) p σ = (σ (inner_place k n) ≡ inner_cell (length run) (take 8 run) (refs r)) × ShowsRow r (p ++ run) σ

    -- and so for each child of a row, below the path q and its byte
    pub ShowsRow : Row A → Tag → Store A → Type 0
    ShowsRow end q σ = Unit {0}
    ShowsRow (child b t r) q σ = Shows t (q ++ b ∷ []) σ × ShowsRow r q σ
