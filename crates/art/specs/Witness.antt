-- The check's way through a store without the path to it: each record hands up the first leaf below it as a witness, and a row compares the tags of its children's.
use Rattle.std.specs.Prelude.{◌≡◌, Bool, List, [], ◌∷◌, ◌++◌, ℕ, zero, suc, ◌+◌, take, drop}
use Rattle.std.proofs.Math.Logic.{ite}
use Rattle.std.proofs.Math.Option.{Option, none, some}
use Rattle.art.specs.Tags.{Tag, tag_dec}
use Rattle.art.specs.Stores.{Place, cell_tag, leaf_place, inner_place, Cell, unused, leaf_cell, inner_cell, Store}
use Rattle.art.specs.Visit.{and_then, State, mark, enlist}

-- how a leaf is handed up, by its number and tag, and the tag that is read from what was handed up
pub record Hand (W : Type 0) : Type 0 where
  pub up : ℕ → Tag → W
  pub tag : W → Tag

module _ {A : Type 0} where
  -- the leaf's number is handed up, and its tag is read from the store
  abbrev pub by_number : Store A → Hand ℕ
  by_number σ = record { up = λ n t. n; tag = λ n. cell_tag (σ (leaf_place n)) }

-- the tag of every leaf of the store is read from what is handed up of it
abbrev pub Tells : {W A : Type 0} → Hand W → Store A → Type 0
Tells {A = A} k σ = (n : ℕ) (t : Tag) (a : A) → σ (leaf_place n) ≡ leaf_cell t a → k.tag (k.up n t) ≡ t

-- a child's witness t has the first e bytes of the row's witness w, then the child's byte b
abbrev pub goes_on : (e : ℕ) (w : Tag) (b : ℕ) (t : Tag) → Dec (take (suc e) t ≡ take e w ++ b ∷ [])
goes_on e w b t = tag_dec (take (suc e) t) (take e w ++ b ∷ [])

module _ {W : Type 0} (k : Hand W) where
  -- the children of a row that branches at depth e, after the first, which handed up w
  abbrev pub probe_more : List (ℕ × Place) → (e : ℕ) (w : W) → (Place → State → Option (W × State)) → State → Option State
  probe_more [] e w go s = some s
  probe_more (c ∷ rs) e w go s = and_then (go c.1 s) (λ h. ite (goes_on e (k.tag w) c.0 (k.tag h.0)) (probe_more rs e w go h.1) none)

  -- a row, which hands up its first child's witness
  abbrev pub probe_refs : List (ℕ × Place) → ℕ → (Place → State → Option (W × State)) → State → Option (W × State)
  probe_refs [] e go s = none
  probe_refs (c ∷ rs) e go s =
      and_then (go c.1 s) (λ h. ite (goes_on e (k.tag h.0) c.0 (k.tag h.0)) (and_then (probe_more rs e h.0 go h.1) (λ s'. some (h.0, s'))) none)

  -- the stored bytes are those of the witness at the record's depth
  abbrev pub probe_run : (d len : ℕ) → List ℕ → W × State → Option (W × State)
  probe_run d len st h = ite (tag_dec (take 8 (take len (drop d (k.tag h.0)))) st) (some h) none

  module _ (link : ℕ → ℕ → Bool) {A : Type 0} where
    -- a leaf is handed up; a record hands up what its row does, where its stored bytes agree; a wrong kind of cell ends the way
    abbrev pub probe_cell : Place → Cell A → ℕ → (ℕ → Place → State → Option (W × State)) → State → Option (W × State)
    probe_cell (leaf_place n) unused d go s = none
    probe_cell (leaf_place n) (leaf_cell t a) d go s = and_then (enlist link n s) (λ s'. some (k.up n t, s'))
    probe_cell (leaf_place n) (inner_cell len st rs) d go s = none
    probe_cell (inner_place i n) unused d go s = none
    probe_cell (inner_place i n) (leaf_cell t a) d go s = none
    probe_cell (inner_place i n) (inner_cell len st rs) d go s = and_then (probe_refs rs (d + len) (λ y z. go (suc (d + len)) y z) s) (λ h. probe_run d len st h)

    -- the place x at depth d, with so many records left on the path
    abbrev pub probe : ℕ → Store A → ℕ → Place → State → Option (W × State)
    probe zero σ d x s = none
    probe (suc f) σ d x s = and_then (mark x s) (λ s'. probe_cell x (σ x) d (λ e y z. probe f σ e y z) s')
