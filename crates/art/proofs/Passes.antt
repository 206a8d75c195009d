-- The way through a tree ends well just where its places are new and all different, and its leaves are linked.
use mathlib.Core.Path.{◌≡◌, refl, sym, ap, ap₂, ◌∙◌, subst}
use mathlib.Core.Logic.{◌⊎◌, inl, inr, ite, if_neg}
use mathlib.Core.Bool.{Bool, true, false}
use mathlib.Core.Option.{Option, none, some}
use mathlib.Core.List.{List, [], ◌∷◌, ◌++◌}
use Prim.Native.Nat.{ℕ, suc, ◌+◌}
use native.Mathlib.Omega.{arith}
use lib.ListN.{length, length-append}
use Rattle.art.specs.Tags.{Tag, Listing}
use Rattle.art.specs.Listings.{under}
use Rattle.art.specs.Trees.{Tree, leaf, inner, Row, end, child, contents, row_contents}
use Rattle.art.specs.Stores.{Place, leaf_place, inner_place, place_dec, Cell, unused, leaf_cell, inner_cell, Store, store, store_row, Used, Once, OnceRow, Separate, or_cell, write, empty}
use Rattle.art.proofs.Stores.{write_other, used_not}
use Rattle.art.specs.Members.{In, in_dec}
use Rattle.art.proofs.Members.{in_left, in_right, in_append}
use Rattle.art.specs.Chain.{leaf_ref, end_of, leaves, row_leaves}
use Rattle.art.proofs.Chains.{end_append}
use Rattle.art.specs.Visit.{and_then, provided, State, marked, listed, mark, spots, row_spots, passed, passed_row, enlist, InTurn, pass, pass_row, Passes, PassesRow}

mark_new : (x : Place) (z : State) → ¬ In x z.seen → mark x z ≡ some (marked x z)
mark_new x z n = if_neg (in_dec place_dec x z.seen) n none (some (marked x z))

module _ {A : Type 0} where
  mutual
    -- the leaf seen last after a tree is the last of its leaves
    pub prev_passed : (t : Tree A) (z : State) → (passed t z).prev ≡ end_of z.prev (leaves t)
    prev_passed (leaf n s a) z = refl
    prev_passed (inner k n run r) z = row_prev_passed r (marked (inner_place k n) z)

    -- and so for a row
    pub row_prev_passed : (r : Row A) (z : State) → (passed_row r z).prev ≡ end_of z.prev (row_leaves r)
    row_prev_passed end z = refl
    row_prev_passed (child b t r) z =
        row_prev_passed r (passed t z) ∙ ap (λ (k : ℕ). end_of k (row_leaves r)) (prev_passed t z) ∙ sym (end_append z.prev (leaves t) (row_leaves r))

  mutual
    -- a tree adds as many to the count as it has leaves
    pub count_passed : (t : Tree A) (z : State) → (passed t z).count ≡ z.count + length (leaves t)
    count_passed (leaf n s a) z = refl
    count_passed (inner k n run r) z = row_count_passed r (marked (inner_place k n) z)

    -- and so does a row
    pub row_count_passed : (r : Row A) (z : State) → (passed_row r z).count ≡ z.count + length (row_leaves r)
    row_count_passed end z = omega arith
    row_count_passed (child b t r) z = omega (arith, row_count_passed r (passed t z), count_passed t z, length-append (leaves t) (row_leaves r))

  -- as many leaves as tags
  under_length : (p : Tag) (l : Listing A) → length (under p l) ≡ length l
  under_length p [] = refl
  under_length p (e ∷ l) = ap suc (under_length p l)

  mutual
    -- a tree has as many leaves as tags
    pub leaves_length : (t : Tree A) → length (leaves t) ≡ length (contents t)
    leaves_length (leaf n s a) = refl
    leaves_length (inner k n run r) = row_leaves_length r ∙ sym (under_length run (row_contents r))

    -- and so has a row
    pub row_leaves_length : (r : Row A) → length (row_leaves r) ≡ length (row_contents r)
    row_leaves_length end = refl
    row_leaves_length (child b t r) =
        omega (arith, length-append (leaves t) (row_leaves r), length-append (under (b ∷ []) (contents t)) (row_contents r), under_length (b ∷ []) (contents t), leaves_length t, row_leaves_length r)

  -- ── what is seen after it ──
  mutual
    -- what was seen before a tree is seen after it
    pub seen_before : (t : Tree A) (z : State) (x : Place) → In x z.seen → In x (passed t z).seen
    seen_before (leaf n s a) z x h = inr h
    seen_before (inner k n run r) z x h = row_seen_before r (marked (inner_place k n) z) x (inr h)

    -- and so for a row
    pub row_seen_before : (r : Row A) (z : State) (x : Place) → In x z.seen → In x (passed_row r z).seen
    row_seen_before end z x h = h
    row_seen_before (child b t r) z x h = row_seen_before r (passed t z) x (seen_before t z x h)

  row_seen_spot_by : (t : Tree A) (r : Row A) (z : State) (x : Place) → (In x (spots t) → In x (passed t z).seen) → (In x (row_spots r) → In x (passed_row r (passed t z)).seen)
      → In x (spots t) ⊎ In x (row_spots r) → In x (passed_row r (passed t z)).seen
  row_seen_spot_by t r z x f g (inl h) = row_seen_before r (passed t z) x (f h)
  row_seen_spot_by t r z x f g (inr h) = g h

  seen_spot_inner : (k n : ℕ) (r : Row A) (z : State) (x : Place) → (In x (row_spots r) → In x (passed_row r (marked (inner_place k n) z)).seen)
      → In x (inner_place k n ∷ row_spots r) → In x (passed_row r (marked (inner_place k n) z)).seen
  seen_spot_inner k n r z x f (inl e) = row_seen_before r (marked (inner_place k n) z) x (inl e)
  seen_spot_inner k n r z x f (inr h) = f h

  mutual
    -- every place of a tree is seen after it
    pub seen_spot : (t : Tree A) (z : State) (x : Place) → In x (spots t) → In x (passed t z).seen
    seen_spot (leaf n s a) z x (inr x6) = elim x6 [ ]
    seen_spot (leaf n s a) z x (inl e) = inl e
    seen_spot (inner k n run r) z x h = seen_spot_inner k n r z x (λ i. row_seen_spot r (marked (inner_place k n) z) x i) h

    -- and so for a row
    pub row_seen_spot : (r : Row A) (z : State) (x : Place) → In x (row_spots r) → In x (passed_row r z).seen
    row_seen_spot end z x h = absurd h
    row_seen_spot (child b t r) z x h =
        row_seen_spot_by t r z x (λ i. seen_spot t z x i) (λ i. row_seen_spot r (passed t z) x i) (in_append x (spots t) (row_spots r) h)

  seen_of_inner : (k n : ℕ) (r : Row A) (z : State) (x : Place) → In x (row_spots r) ⊎ In x (inner_place k n ∷ z.seen) → In x (inner_place k n ∷ row_spots r) ⊎ In x z.seen
  seen_of_inner k n r z x (inl h) = inl (inr h)
  seen_of_inner k n r z x (inr (inl e)) = inl (inl e)
  seen_of_inner k n r z x (inr (inr h)) = inr h

  seen_of_child : (t : Tree A) (r : Row A) (z : State) (x : Place) → (In x (passed t z).seen → In x (spots t) ⊎ In x z.seen) → In x (row_spots r) ⊎ In x (passed t z).seen
      → In x (spots t ++ row_spots r) ⊎ In x z.seen
  seen_of_child t r z x f (inl h) = inl (in_right x (spots t) (row_spots r) h)
  seen_of_child t r z x f (inr h) = go (f h)
    where
      go : In x (spots t) ⊎ In x z.seen → In x (spots t ++ row_spots r) ⊎ In x z.seen
      go (inl i) = inl (in_left x (spots t) (row_spots r) i)
      go (inr i) = inr i

  mutual
    -- what is seen after a tree is one of its places or was seen before
    pub seen_of : (t : Tree A) (z : State) (x : Place) → In x (passed t z).seen → In x (spots t) ⊎ In x z.seen
    seen_of (leaf n s a) z x (inl e) = inl (inl e)
    seen_of (leaf n s a) z x (inr h) = inr h
    seen_of (inner k n run r) z x h = seen_of_inner k n r z x (row_seen_of r (marked (inner_place k n) z) x h)

    -- and so for a row
    pub row_seen_of : (r : Row A) (z : State) (x : Place) → In x (passed_row r z).seen → In x (row_spots r) ⊎ In x z.seen
    row_seen_of end z x h = inr h
    row_seen_of (child b t r) z x h = seen_of_child t r z x (λ i. seen_of t z x i) (row_seen_of r (passed t z) x h)

  -- ── the store has just the places ──
  off_or : (c d : Cell A) → c ≡ unused → d ≡ unused → or_cell c d ≡ unused
  off_or c d e i = ap₂ or_cell e i

  mutual
    -- the store of a tree has nothing but at its places
    pub store_off : (t : Tree A) (p : Tag) (x : Place) → ¬ In x (spots t) → store t p x ≡ unused
    store_off (leaf n s a) p x h = write_other empty (leaf_place n) (leaf_cell (p ++ s) a) x (λ e. h (inl e))
    store_off (inner k n run r) p x h =
        write_other (store_row r (p ++ run)) (inner_place k n) _ x (λ e. h (inl e)) ∙ row_store_off r (p ++ run) x (λ i. h (inr i))

    -- and so for a row
    pub row_store_off : (r : Row A) (q : Tag) (x : Place) → ¬ In x (row_spots r) → store_row r q x ≡ unused
    row_store_off end q x h = refl
    row_store_off (child b t r) q x h =
        off_or (store t (q ++ b ∷ []) x) (store_row r q x) (store_off t (q ++ b ∷ []) x (λ i. h (in_left x (spots t) (row_spots r) i)))
        (row_store_off r q x (λ i. h (in_right x (spots t) (row_spots r) i)))

  used_or : (c d : Cell A) → Used c ⊎ Used d → Used (or_cell c d)
  used_or unused d (inl u) = absurd u
  used_or unused d (inr u) = u
  used_or (leaf_cell t a) d h = tt
  used_or (inner_cell n st rs) d h = tt

  used_write : (σ : Store A) (x : Place) (c : Cell A) (q : Place) → Used c → (q ≡ x) ⊎ Used (σ q) → Used (write σ x c q)
  used_write σ x c q u h = go (place_dec q x) h
    where
      go : (d : Dec (q ≡ x)) → (q ≡ x) ⊎ Used (σ q) → Used (ite d c (σ q))
      go (yes e) k = u
      go (no n) (inl e) = absurd (n e)
      go (no n) (inr v) = v

  on_inner : (σ : Store A) (k n : ℕ) (c : Cell A) (m : List Place) (x : Place) → Used c → (In x m → Used (σ x)) → In x (inner_place k n ∷ m) → Used (write σ (inner_place k n) c x)
  on_inner σ k n c m x u f (inl e) = used_write σ (inner_place k n) c x u (inl e)
  on_inner σ k n c m x u f (inr h) = used_write σ (inner_place k n) c x u (inr (f h))

  on_child : (c d : Cell A) (l m : List Place) (x : Place) → (In x l → Used c) → (In x m → Used d) → In x l ⊎ In x m → Used (or_cell c d)
  on_child c d l m x f g (inl h) = used_or c d (inl (f h))
  on_child c d l m x f g (inr h) = used_or c d (inr (g h))

  mutual
    -- the store of a tree has a record at each of its places
    pub store_on : (t : Tree A) (p : Tag) (x : Place) → In x (spots t) → Used (store t p x)
    store_on (leaf n s a) p x (inr x6) = elim x6 [ ]
    store_on (leaf n s a) p x (inl e) = used_write empty (leaf_place n) (leaf_cell (p ++ s) a) x tt (inl e)
    store_on (inner k n run r) p x h = on_inner (store_row r (p ++ run)) k n _ (row_spots r) x tt (λ i. row_store_on r (p ++ run) x i) h

    -- and so for a row
    pub row_store_on : (r : Row A) (q : Tag) (x : Place) → In x (row_spots r) → Used (store_row r q x)
    row_store_on end q x h = h
    row_store_on (child b t r) q x h =
        on_child (store t (q ++ b ∷ []) x) (store_row r q x) (spots t) (row_spots r) x (λ i. store_on t (q ++ b ∷ []) x i) (λ i. row_store_on r q x i) (in_append x (spots t) (row_spots r) h)

-- ── new places, linked leaves ──
new_inner : (k n : ℕ) (m s : List Place) (x : Place) → ¬ In (inner_place k n) s → (In x m → ¬ In x (inner_place k n ∷ s)) → In x (inner_place k n ∷ m) → ¬ In x s
new_inner k n m s x h f (inl e) i = h (subst (λ (y : Place). In y s) e i)
new_inner k n m s x h f (inr j) i = f j (inr i)

module _ (link : ℕ → ℕ → Bool) where
  turn_append : (b : ℕ) (l m : List ℕ) → InTurn link b l → InTurn link (end_of b l) m → InTurn link b (l ++ m)
  turn_append b [] m h k = k
  turn_append b (n ∷ l) m h k = (h.0, turn_append (leaf_ref n) l m h.1 k)

  turn_left : (b : ℕ) (l m : List ℕ) → InTurn link b (l ++ m) → InTurn link b l
  turn_left b [] m h = tt
  turn_left b (n ∷ l) m h = (h.0, turn_left (leaf_ref n) l m h.1)

  turn_right : (b : ℕ) (l m : List ℕ) → InTurn link b (l ++ m) → InTurn link (end_of b l) m
  turn_right b [] m h = h
  turn_right b (n ∷ l) m h = turn_right (leaf_ref n) l m h.1

  passes_leaf : (n : ℕ) (z z' : State) (d : Dec (In (leaf_place n) z.seen))
      → and_then (ite d none (some (marked (leaf_place n) z))) (λ y. enlist link n y) ≡ some z'
      → ((¬ In (leaf_place n) z.seen) × (link z.prev n ≡ true)) × (listed n (marked (leaf_place n) z) ≡ z')
  passes_leaf n z z' (yes h) q = absurd (let w : ◌≡◌ {A = ℕ} 0 1 = cc in omega arith)
  passes_leaf n z z' (no h) q = go (link z.prev n) refl q
    where
      go : (b : Bool) → link z.prev n ≡ b → provided b (listed n (marked (leaf_place n) z)) ≡ some z'
          → ((¬ In (leaf_place n) z.seen) × (link z.prev n ≡ true)) × (listed n (marked (leaf_place n) z) ≡ z')
      go true e q = ((h, e), cc)
      go false e q = absurd (let w : ◌≡◌ {A = ℕ} 0 1 = cc in omega arith)

  module _ {A : Type 0} where
    mutual
      -- where each place is new and each leaf follows, the way through a tree ends well
      pub passes_pass : (t : Tree A) (z : State) → Passes link t z → pass link t z ≡ some (passed t z)
      passes_pass (leaf n s a) z h =
          ap (λ (o : Option State). and_then o (λ y. enlist link n y)) (mark_new (leaf_place n) z h.0) ∙ ap (λ (b : Bool). provided b (listed n (marked (leaf_place n) z))) h.1
      passes_pass (inner k n run r) z h =
          ap (λ (o : Option State). and_then o (λ y. pass_row link r y)) (mark_new (inner_place k n) z h.0) ∙ row_passes_pass r (marked (inner_place k n) z) h.1

      -- and so for a row
      pub row_passes_pass : (r : Row A) (z : State) → PassesRow link r z → pass_row link r z ≡ some (passed_row r z)
      row_passes_pass end z h = refl
      row_passes_pass (child b t r) z h = ap (λ (o : Option State). and_then o (λ y. pass_row link r y)) (passes_pass t z h.0) ∙ row_passes_pass r (passed t z) h.1

    -- taking a way that ended well apart
    passes_inner : (k n : ℕ) (r : Row A) (z z' : State) (d : Dec (In (inner_place k n) z.seen))
        → ((y : State) → pass_row link r y ≡ some z' → PassesRow link r y × (passed_row r y ≡ z'))
        → and_then (ite d none (some (marked (inner_place k n) z))) (λ y. pass_row link r y) ≡ some z'
        → ((¬ In (inner_place k n) z.seen) × PassesRow link r (marked (inner_place k n) z)) × (passed_row r (marked (inner_place k n) z) ≡ z')
    passes_inner k n r z z' (yes h) f q = absurd (let w : ◌≡◌ {A = ℕ} 0 1 = cc in omega arith)
    passes_inner k n r z z' (no h) f q = let i = f (marked (inner_place k n) z) q in ((h, i.0), i.1)

    passes_child : (t : Tree A) (r : Row A) (z z' : State) (o : Option State)
        → ((y : State) → o ≡ some y → Passes link t z × (passed t z ≡ y))
        → ((y : State) → pass_row link r y ≡ some z' → PassesRow link r y × (passed_row r y ≡ z'))
        → and_then o (λ y. pass_row link r y) ≡ some z' → (Passes link t z × PassesRow link r (passed t z)) × (passed_row r (passed t z) ≡ z')
    passes_child t r z z' none f g q = absurd (let w : ◌≡◌ {A = ℕ} 0 1 = cc in omega arith)
    passes_child t r z z' (some y) f g q =
        let i = f y refl in
        let j = g (passed t z) (ap (pass_row link r) i.1 ∙ q) in
        ((i.0, j.0), j.1)

    mutual
      -- and only there
      pub pass_passes : (t : Tree A) (z z' : State) → pass link t z ≡ some z' → Passes link t z × (passed t z ≡ z')
      pass_passes (leaf n s a) z z' q = passes_leaf n z z' (in_dec place_dec (leaf_place n) z.seen) q
      pass_passes (inner k n run r) z z' q = passes_inner k n r z z' (in_dec place_dec (inner_place k n) z.seen) (λ y i. row_pass_passes r y z' i) q

      -- and so for a row
      pub row_pass_passes : (r : Row A) (z z' : State) → pass_row link r z ≡ some z' → PassesRow link r z × (passed_row r z ≡ z')
      row_pass_passes end z z' q = (tt, cc)
      row_pass_passes (child b t r) z z' q = passes_child t r z z' (pass link t z) (λ y i. pass_passes t z y i) (λ y i. row_pass_passes r y z' i) q

    -- the places are new
    new_child : (t : Tree A) (r : Row A) (z : State) (x : Place) → (In x (spots t) → ¬ In x z.seen) → (In x (row_spots r) → ¬ In x (passed t z).seen)
        → In x (spots t) ⊎ In x (row_spots r) → ¬ In x z.seen
    new_child t r z x f g (inl h) i = f h i
    new_child t r z x f g (inr h) i = g h (seen_before t z x i)

    mutual
      -- then no place of the tree was seen before
      pub passes_new : (t : Tree A) (z : State) → Passes link t z → (x : Place) → In x (spots t) → ¬ In x z.seen
      passes_new (leaf n s a) z h x (inr x11) i = elim x11 [ ]
      passes_new (leaf n s a) z h x (inl e) i = h.0 (subst (λ (y : Place). In y z.seen) e i)
      passes_new (inner k n run r) z h x j i = new_inner k n (row_spots r) z.seen x h.0 (λ l m. row_passes_new r (marked (inner_place k n) z) h.1 x l m) j i

      -- and so for a row
      pub row_passes_new : (r : Row A) (z : State) → PassesRow link r z → (x : Place) → In x (row_spots r) → ¬ In x z.seen
      row_passes_new end z h x j i = j
      row_passes_new (child b t r) z h x j i = new_child t r z x (λ l m. passes_new t z h.0 x l m) (λ l m. row_passes_new r (passed t z) h.1 x l m) (in_append x (spots t) (row_spots r) j) i

    apart : (t : Tree A) (r : Row A) (p q : Tag) (z : State) → PassesRow link r (passed t z) → (x : Place) (d : Dec (In x (spots t))) → (store t p x ≡ unused) ⊎ (store_row r q x ≡ unused)
    apart t r p q z h x (no n) = inl (store_off t p x n)
    apart t r p q z h x (yes i) = inr (row_store_off r q x (λ j. row_passes_new r (passed t z) h x j (seen_spot t z x i)))

    mutual
      -- and no place stands twice in the tree
      pub passes_once : (t : Tree A) (p : Tag) (z : State) → Passes link t z → Once t p
      passes_once (leaf n s a) p z h = tt
      passes_once (inner k n run r) p z h =
          (row_store_off r (p ++ run) (inner_place k n) (λ j. row_passes_new r (marked (inner_place k n) z) h.1 (inner_place k n) j (inl refl)), row_passes_once r (p ++ run) (marked (inner_place k n) z) h.1)

      -- and so for a row
      pub row_passes_once : (r : Row A) (q : Tag) (z : State) → PassesRow link r z → OnceRow r q
      row_passes_once end q z h = tt
      row_passes_once (child b t r) q z h =
          (passes_once t (q ++ b ∷ []) z h.0, (λ x. apart t r (q ++ b ∷ []) q z h.1 x (in_dec place_dec x (spots t))), row_passes_once r q (passed t z) h.1)

    mutual
      -- and its leaves follow each other after the one seen last
      pub passes_turn : (t : Tree A) (z : State) → Passes link t z → InTurn link z.prev (leaves t)
      passes_turn (leaf n s a) z h = (h.1, tt)
      passes_turn (inner k n run r) z h = row_passes_turn r (marked (inner_place k n) z) h.1

      -- and so for a row
      pub row_passes_turn : (r : Row A) (z : State) → PassesRow link r z → InTurn link z.prev (row_leaves r)
      row_passes_turn end z h = tt
      row_passes_turn (child b t r) z h =
          turn_append z.prev (leaves t) (row_leaves r) (passes_turn t z h.0) (subst (λ (k : ℕ). InTurn link k (row_leaves r)) (prev_passed t z) (row_passes_turn r (passed t z) h.1))

    -- and the other way round
    fresh_passed : (t : Tree A) (r : Row A) (p q : Tag) (z : State) (x : Place) → Separate (store t p) (store_row r q) → (In x (row_spots r) → ¬ In x z.seen)
        → In x (row_spots r) → In x (spots t) ⊎ In x z.seen → ⊥
    fresh_passed t r p q z x d f j (inr i) = f j i
    fresh_passed t r p q z x d f j (inl i) = go (d x)
      where
        go : (store t p x ≡ unused) ⊎ (store_row r q x ≡ unused) → ⊥
        go (inl e) = used_not (store t p x) (store_on t p x i) e
        go (inr e) = used_not (store_row r q x) (row_store_on r q x j) e

    fresh_inner : (r : Row A) (q : Tag) (k n : ℕ) (s : List Place) (x : Place) → store_row r q (inner_place k n) ≡ unused → ¬ In x s → In x (row_spots r) → ¬ In x (inner_place k n ∷ s)
    fresh_inner r q k n s x e f j (inl i) = used_not (store_row r q (inner_place k n)) (subst (λ (y : Place). Used (store_row r q y)) i (row_store_on r q x j)) e
    fresh_inner r q k n s x e f j (inr i) = f i

    mutual
      -- a tree with no place twice, none of them seen before, and with leaves that follow each other, lets the way end well
      pub once_passes : (t : Tree A) (p : Tag) (z : State) → Once t p → ((x : Place) → In x (spots t) → ¬ In x z.seen) → InTurn link z.prev (leaves t) → Passes link t z
      once_passes (leaf n s a) p z o f c = (f (leaf_place n) (inl refl), c.0)
      once_passes (inner k n run r) p z o f c =
          (f (inner_place k n) (inl refl), row_once_passes r (p ++ run) (marked (inner_place k n) z) o.1 (λ x j. fresh_inner r (p ++ run) k n z.seen x o.0 (f x (inr j)) j) c)

      -- and so for a row
      pub row_once_passes : (r : Row A) (q : Tag) (z : State) → OnceRow r q → ((x : Place) → In x (row_spots r) → ¬ In x z.seen)
          → InTurn link z.prev (row_leaves r) → PassesRow link r z
      row_once_passes end q z o f c = tt
      row_once_passes (child b t r) q z o f c = (
        once_passes t (q ++ b ∷ []) z o.0 (λ x i. f x (in_left x (spots t) (row_spots r) i)) (turn_left z.prev (leaves t) (row_leaves r) c),
        row_once_passes r q (passed t z) o.2 (λ x j i. fresh_passed t r (q ++ b ∷ []) q z x o.1 (λ l. f x (in_right x (spots t) (row_spots r) l)) j (seen_of t z x i))
            (subst (λ (k : ℕ). InTurn link k (row_leaves r)) (sym (prev_passed t z)) (turn_right z.prev (leaves t) (row_leaves r) c)),
      )
