-- An element among those of a list, and lists without a repeat.
use Rattle.std.specs.Prelude.{◌≡◌, ◌⊎◌, List, [], ◌∷◌}
use Rattle.art.specs.Decisions.{either_dec}

module _ {X : Type 0} where
  -- x is one of the list's
  abbrev pub In : X → List X → Type 0
  In x [] = ⊥
  In x (y ∷ l) = (x ≡ y) ⊎ In x l

  -- whether it is, where equality is decided
  abbrev pub in_dec : Discrete X → (x : X) (l : List X) → Dec (In x l)
  in_dec d x [] = no (λ h. h)
  in_dec d x (y ∷ l) = either_dec (d x y) (in_dec d x l)

  -- no element twice
  abbrev pub Different : List X → Type 0
  Different [] = Unit {0}
  Different (x ∷ l) = (¬ In x l) × Different l
