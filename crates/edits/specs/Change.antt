-- A change of a record's children for one byte, by its cases: a child more, the child taken out, another reference for it.
use Rattle.std.specs.Prelude.{ℕ, ◌+◌, ◌-◌}
use Rattle.edits.specs.declared.representation.Change.{Change}
use Rattle.edits.specs.declared.representation.Change.TheVariants.{Add, Remove, Replace}

-- what stands for the byte afterwards, 0 where nothing does
abbrev pub ref_in : Change → ℕ
ref_in (Add ref) = ref
ref_in Remove = 0
ref_in (Replace ref) = ref

-- how many of n children there are afterwards
abbrev pub count_in : Change → ℕ → ℕ
count_in (Add ref) n = n + 1
count_in Remove n = n - 1
count_in (Replace ref) n = n

-- what it needs: room for a child more, else the child
abbrev pub Needs : Change → Type 0 → Type 0 → Type 0
Needs (Add ref) Room Child = Room
Needs Remove Room Child = Child
Needs (Replace ref) Room Child = Child
