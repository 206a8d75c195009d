-- What is decided by what it is equivalent to, and by two decisions.
use Rattle.std.specs.Prelude.{◌⊎◌}
use Rattle.std.proofs.Common.{inl, inr}

module _ {A B : Type 0} where
  -- whether the second holds, by the first
  abbrev pub iff_dec : (A → B) → (B → A) → Dec A → Dec B
  iff_dec f g (yes a) = yes (f a)
  iff_dec f g (no n) = no (λ b. n (g b))

  -- whether both hold
  abbrev pub both_dec : Dec A → Dec B → Dec (A × B)
  both_dec (yes a) (yes b) = yes (a, b)
  both_dec (yes a) (no n) = no (λ h. n h.1)
  both_dec (no n) d = no (λ h. n h.0)

  -- whether one holds
  abbrev pub either_dec : Dec A → Dec B → Dec (A ⊎ B)
  either_dec (yes a) d = yes (inl a)
  either_dec (no n) (yes b) = yes (inr b)
  either_dec (no n) (no m) = no (elim [ inl a ↦ n a | inr b ↦ m b ])
