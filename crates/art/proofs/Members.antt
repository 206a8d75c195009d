-- An element of two lists in a row is one of the first or of the second; lists without a repeat, taken apart and put together.
use mathlib.Core.Path.{refl, subst}
use mathlib.Core.Logic.{◌⊎◌, inl, inr}
use mathlib.Core.List.{List, [], ◌∷◌, ◌++◌}
use Rattle.art.specs.Members.{In, Different}

module _ {X : Type 0} where
  -- an element of the first list is one of the two in a row
  pub in_left : (x : X) (l m : List X) → In x l → In x (l ++ m)
  in_left x [] m x'' = elim x'' [ ]
  in_left x (y ∷ l) m (inl e) = inl e
  in_left x (y ∷ l) m (inr h) = inr (in_left x l m h)

  -- and so is an element of the second
  pub in_right : (x : X) (l m : List X) → In x m → In x (l ++ m)
  in_right x [] m h = h
  in_right x (y ∷ l) m h = inr (in_right x l m h)

  -- and there is no other
  pub in_append : (x : X) (l m : List X) → In x (l ++ m) → In x l ⊎ In x m
  in_append x [] m h = inr h
  in_append x (y ∷ l) m (inl e) = inl (inl e)
  in_append x (y ∷ l) m (inr h) = go (in_append x l m h)
    where
      go : In x l ⊎ In x m → In x (y ∷ l) ⊎ In x m
      go (inl k) = inl (inr k)
      go (inr k) = inr k

  -- two lists in a row have no repeat where neither has one and they share no element
  pub different_append : (l m : List X) → Different l → Different m → ((x : X) → In x l → ¬ In x m) → Different (l ++ m)
  different_append [] m h k f = k
  different_append (x ∷ l) m h k f = ((λ i. new (in_append x l m i)), different_append l m h.1 k (λ y i. f y (inr i)))
    where
      new : In x l ⊎ In x m → ⊥
      new (inl i) = h.0 i
      new (inr i) = f x (inl refl) i

  -- and only there: the first has none,
  pub different_left : (l m : List X) → Different (l ++ m) → Different l
  different_left [] m h = tt
  different_left (x ∷ l) m h = ((λ i. h.0 (in_left x l m i)), different_left l m h.1)

  -- the second has none,
  pub different_right : (l m : List X) → Different (l ++ m) → Different m
  different_right [] m h = h
  different_right (x ∷ l) m h = different_right l m h.1

  -- and they share no element
  pub different_apart : (l m : List X) → Different (l ++ m) → (x : X) → In x l → ¬ In x m
  different_apart [] m h x x5 i = elim x5 [ ]
  different_apart (y ∷ l) m h x (inl e) i = h.0 (in_right y l m (subst (λ (z : X). In z m) e i))
  different_apart (y ∷ l) m h x (inr j) i = different_apart l m h.1 x j i
