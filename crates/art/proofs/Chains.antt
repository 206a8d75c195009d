-- The leaf list with one leaf more, and with one less, is linked again.
use mathlib.Core.Path.{◌≡◌, refl, sym, ap, ap₂, subst, ◌∙◌}
use mathlib.Core.Logic.{◌⊎◌, inl, inr, ◌≢◌, if_pos, if_neg}
use mathlib.Core.Bool.{Bool, true, false, ◌&&◌}
use mathlib.Core.List.{List, [], ◌∷◌, ◌++◌}
use Prim.Native.Nat.{ℕ}
use native.Mathlib.Decide.{ℕ_discrete}
use native.Mathlib.Omega.{arith}
use lib.Dec.{eqb}
use borrow.Author.Tests.{eq-eqb, eqb-true}
use Rattle.art.specs.Members.{In, Different}
use Rattle.art.proofs.Members.{in_left, in_right, different_left, different_right, different_apart}
use Rattle.art.specs.Chain.{leaf_ref, Links, after_ref, before_ref, end_of, head_of, Linked, follows, set_links, link_in, link_out}
use Rattle.art.specs.Visit.{InTurn}

-- a reference to nothing or to a leaf
abbrev Ref : ℕ → Type 0
Ref r = (r ≡ 0) ⊎ ((n : ℕ) × (r ≡ leaf_ref n))

leaf_is_ref : (n : ℕ) → Ref (leaf_ref n)
leaf_is_ref n = inr (n, refl)

-- a reference names none of these leaves
abbrev Off : ℕ → List ℕ → Type 0
Off r l = (x : ℕ) → In x l → r ≢ leaf_ref x

off_zero : (l : List ℕ) → Off 0 l
off_zero l x i e = omega arith

off_leaf : (n : ℕ) (l : List ℕ) → ¬ In n l → Off (leaf_ref n) l
off_leaf n [] h x x5 e = elim x5 [ ]
off_leaf n (y ∷ l) h x (inl i) e = h (inl (omega arith))
off_leaf n (y ∷ l) h x (inr i) e = off_leaf n l (λ j. h (inr j)) x i e

-- the end of a list is its start, or one of its leaves
end_in : (r : ℕ) (l : List ℕ) → (end_of r l ≡ r) ⊎ ((x : ℕ) × In x l × (end_of r l ≡ leaf_ref x))
end_in r [] = inl refl
end_in r (n ∷ l) = go (end_in (leaf_ref n) l)
  where
    go : (end_of (leaf_ref n) l ≡ leaf_ref n) ⊎ ((x : ℕ) × In x l × (end_of (leaf_ref n) l ≡ leaf_ref x))
        → (end_of (leaf_ref n) l ≡ r) ⊎ ((x : ℕ) × In x (n ∷ l) × (end_of (leaf_ref n) l ≡ leaf_ref x))
    go (inl e) = inr (n, inl refl, e)
    go (inr h) = inr (h.0, inr h.1, h.2)

-- the end of two lists in a row
pub end_append : (r : ℕ) (l m : List ℕ) → end_of r (l ++ m) ≡ end_of (end_of r l) m
end_append r [] m = refl
end_append r (n ∷ l) m = end_append (leaf_ref n) l m

end_ref : (r : ℕ) (l : List ℕ) → Ref r → Ref (end_of r l)
end_ref r [] h = h
end_ref r (n ∷ l) h = end_ref (leaf_ref n) l (leaf_is_ref n)

-- a list that does not have the reference before it does not end with it
end_other : (r : ℕ) (n : ℕ) (l : List ℕ) → Off r (n ∷ l) → r ≢ end_of (leaf_ref n) l
end_other r n l h e = go (end_in (leaf_ref n) l)
  where
    go : (end_of (leaf_ref n) l ≡ leaf_ref n) ⊎ ((x : ℕ) × In x l × (end_of (leaf_ref n) l ≡ leaf_ref x)) → ⊥
    go (inl i) = h n (inl refl) (e ∙ i)
    go (inr i) = h i.0 (inr i.1) (e ∙ i.2)

-- no leaf outside a list is its end
end_off : (l m : List ℕ) → ((x : ℕ) → In x l → ¬ In x m) → (y : ℕ) → In y m → leaf_ref y ≢ end_of 0 l
end_off l m h y i e = go (end_in 0 l)
  where
    go : (end_of 0 l ≡ 0) ⊎ ((x : ℕ) × In x l × (end_of 0 l ≡ leaf_ref x)) → ⊥
    go (inl j) = omega arith
    go (inr j) = let s : y ≡ j.0 = omega (arith, j.2) in h j.0 j.1 (rw s at i)

-- after a leaf stands its own next
pub after_next : (k : Links) (n : ℕ) → after_ref k (leaf_ref n) ≡ k.next n
after_next k n = if_neg (ℕ_discrete (leaf_ref n) 0) (omega arith) _ _ ∙ ap k.next (omega arith)

-- what is linked after a part of the list
pub linked_right : (k : Links) (r : ℕ) (l m : List ℕ) → Linked k r (l ++ m) → Linked k (end_of r l) m
linked_right k r [] m h = h
linked_right k r (n ∷ l) m h = linked_right k (leaf_ref n) l m h.2

-- the next after a part of the list is the first of the rest
pub linked_after : (k : Links) (l m : List ℕ) → Linked k 0 (l ++ m) → after_ref k (end_of 0 l) ≡ head_of m
linked_after k l m h = go m (linked_right k 0 l m h)
  where
    go : (m : List ℕ) → Linked k (end_of 0 l) m → after_ref k (end_of 0 l) ≡ head_of m
    go [] i = i.0
    go (n ∷ m) i = i.1

-- the last of a linked list is its end
pub linked_last : (k : Links) (r : ℕ) (l : List ℕ) → Linked k r l → k.last ≡ end_of r l
linked_last k r [] h = h.1
linked_last k r (n ∷ l) h = linked_last k (leaf_ref n) l h.2

-- the one before the rest of the list is the end of the part in front of it
pub linked_before : (k : Links) (l m : List ℕ) → Linked k 0 (l ++ m) → before_ref k (head_of m) ≡ end_of 0 l
linked_before k l m h = go m (linked_right k 0 l m h)
  where
    go : (m : List ℕ) → Linked k (end_of 0 l) m → before_ref k (head_of m) ≡ end_of 0 l
    go [] i = if_pos (ℕ_discrete 0 0) refl _ _ ∙ i.1
    go (n ∷ m) i = if_neg (ℕ_discrete (leaf_ref n) 0) (omega arith) _ _ ∙ ap k.prev (omega arith) ∙ i.0

-- a leaf of the list has the end of the part in front of it before it, and the first of the rest after it
pub linked_here : (k : Links) (l : List ℕ) (n : ℕ) (m : List ℕ) → Linked k 0 (l ++ n ∷ m) → (k.prev n ≡ end_of 0 l) × (k.next n ≡ head_of m)
linked_here k l n m h = go m (linked_right k 0 l (n ∷ m) h)
  where
    go : (m : List ℕ) → Linked k (end_of 0 l) (n ∷ m) → (k.prev n ≡ end_of 0 l) × (k.next n ≡ head_of m)
    go [] i = (i.0, sym (after_next k n) ∙ i.2.0)
    go (c ∷ m) i = (i.0, sym (after_next k n) ∙ i.2.1)

-- ── the laws of a change ──
module _ (k : Links) (n p q a x b y : ℕ) where
  abbrev k' : Links
  k' = set_links k n p q a x b y

  prev_kept : (m : ℕ) → m ≢ n → leaf_ref m ≢ b → k'.prev m ≡ k.prev m
  prev_kept m h i = if_neg (ℕ_discrete m n) h _ _ ∙ if_neg (ℕ_discrete (leaf_ref m) b) i _ _

  prev_set : (m : ℕ) → m ≢ n → leaf_ref m ≡ b → k'.prev m ≡ y
  prev_set m h i = if_neg (ℕ_discrete m n) h _ _ ∙ if_pos (ℕ_discrete (leaf_ref m) b) i _ _

  after_own : after_ref k' (leaf_ref n) ≡ q
  after_own = after_next k' n ∙ if_pos (ℕ_discrete n n) refl _ _

  after_kept : (r : ℕ) → Ref r → r ≢ leaf_ref n → r ≢ a → after_ref k' r ≡ after_ref k r
  after_kept r (inl e) h i = if_pos (ℕ_discrete r 0) e _ _ ∙ if_neg (ℕ_discrete a 0) (λ j. i (e ∙ sym j)) _ _ ∙ sym (if_pos (ℕ_discrete r 0) e _ _)
  after_kept r (inr m) h i =
      rw m.1 (after_next k' m.0 ∙ if_neg (ℕ_discrete m.0 n) (λ j. h (m.1 ∙ ap leaf_ref j)) _ _ ∙ if_neg (ℕ_discrete (leaf_ref m.0) a) (λ j. i (m.1 ∙ j)) _ _
      ∙ sym (after_next k m.0))

  after_set : Ref a → a ≢ leaf_ref n → after_ref k' a ≡ x
  after_set (inl e) h = if_pos (ℕ_discrete a 0) e _ _ ∙ if_pos (ℕ_discrete a 0) e _ _
  after_set (inr m) h =
      ap (after_ref k') m.1 ∙ after_next k' m.0 ∙ if_neg (ℕ_discrete m.0 n) (λ j. h (m.1 ∙ ap leaf_ref j)) _ _ ∙ if_pos (ℕ_discrete (leaf_ref m.0) a) (sym m.1) _ _

  -- the part of the list in front of the change, which ends with what a refers to
  kept_front : (r : ℕ) (l m m' : List ℕ) → Ref r → r ≢ leaf_ref n → Off r l → Different l → ¬ In n l → ((z : ℕ) → In z l → leaf_ref z ≢ b) → end_of r l ≡ a
      → Linked k r (l ++ m) → Linked k' a m' → Linked k' r (l ++ m')
  kept_front r [] m m' f o h d nn c e old new = rw e new
  kept_front r (z ∷ l) m m' f o h d nn c e old new = (
    prev_kept z (λ i. nn (inl (sym i))) (c z (inl refl)) ∙ old.0,
    after_kept r f o (λ i. end_other r z l h (i ∙ sym e)) ∙ old.1,
    kept_front (leaf_ref z) l m m' (leaf_is_ref z) (λ i. nn (inl (omega arith))) (off_leaf z l d.0) d.1 (λ i. nn (inr i)) (λ w i. c w (inr i)) e old.2 new,
  )

  -- the part behind it, after its first leaf
  kept_back : (r : ℕ) (m : List ℕ) → Ref r → r ≢ leaf_ref n → r ≢ a → ¬ In n m → ((z : ℕ) → In z m → leaf_ref z ≢ a) → ((z : ℕ) → In z m → leaf_ref z ≢ b) → b ≢ 0
      → Linked k r m → Linked k' r m
  kept_back r [] f o h nn ca cb e old = (after_kept r f o h ∙ old.0, if_neg (ℕ_discrete b 0) e _ _ ∙ old.1)
  kept_back r (z ∷ m) f o h nn ca cb e old = (
    prev_kept z (λ i. nn (inl (sym i))) (cb z (inl refl)) ∙ old.0,
    after_kept r f o h ∙ old.1,
    kept_back (leaf_ref z) m (leaf_is_ref z) (λ i. nn (inl (omega arith))) (ca z (inl refl)) (λ i. nn (inr i)) (λ w i. ca w (inr i)) (λ w i. cb w (inr i)) e old.2,
  )

  -- the part behind it, which begins with what b refers to
  kept_rest : (r : ℕ) (m : List ℕ) → ¬ In n m → Different m → ((z : ℕ) → In z m → leaf_ref z ≢ a) → b ≡ head_of m → after_ref k' y ≡ b → Linked k r m → Linked k' y m
  kept_rest r [] nn d ca e i old = (i ∙ e, if_pos (ℕ_discrete b 0) e _ _)
  kept_rest r (c ∷ m) nn d ca e i old = (
    prev_set c (λ j. nn (inl (sym j))) (sym e),
    i ∙ e,
    kept_back (leaf_ref c) m (leaf_is_ref c) (λ j. nn (inl (omega arith))) (ca c (inl refl)) (λ j. nn (inr j)) (λ w j. ca w (inr j)) (λ w j l. off_leaf c m d.0 w j (sym (l ∙ e))) (λ j. omega arith) old.2,
  )

-- no leaf of the list in front is the first of the rest
head_off : (l m : List ℕ) → ((z : ℕ) → In z l → ¬ In z m) → (z : ℕ) → In z l → leaf_ref z ≢ head_of m
head_off l [] h z i e = omega arith
head_off l (c ∷ m) h z i e = h z i (inl (omega arith))

-- ── one leaf more, and one less ──
-- a leaf that is none of a linked list's, linked in between two parts of it, makes a linked list
pub linked_in : (k : Links) (n : ℕ) (l m : List ℕ) → Different (l ++ m) → ¬ In n (l ++ m) → Linked k 0 (l ++ m) → Linked (link_in k n (end_of 0 l) (head_of m)) 0 (l ++ n ∷ m)
linked_in k n l m d nn h =
    let a : ℕ = end_of 0 l in
    let b : ℕ = head_of m in
    let w = different_apart l m d in
    let own : a ≢ leaf_ref n = λ e. end_off l (n ∷ []) (λ z i j. elim j [ inl u ↦ nn (subst (λ (v : ℕ). In v (l ++ m)) u (in_left z l m i)) | inr u ↦ u ]) n (inl refl) (sym e) in
    kept_front k n a b a (leaf_ref n) b (leaf_ref n) 0 l m (n ∷ m) (inl refl) (λ e. omega arith) (off_zero l) (different_left l m d) (λ i. nn (in_left n l m i)) (head_off l m w) refl h (
      if_pos (ℕ_discrete n n) refl _ _,
      after_set k n a b a (leaf_ref n) b (leaf_ref n) (end_ref 0 l (inl refl)) own,
      kept_rest k n a b a (leaf_ref n) b (leaf_ref n) a m (λ i. nn (in_right n l m i)) (different_right l m d) (end_off l m w) refl (after_own k n a b a (leaf_ref n) b (leaf_ref n)) (linked_right k 0 l m h),
    )

-- a leaf of a linked list, taken out, leaves a linked list
pub linked_out : (k : Links) (n : ℕ) (l m : List ℕ) → Different (l ++ n ∷ m) → Linked k 0 (l ++ n ∷ m) → Linked (link_out k n) 0 (l ++ m)
linked_out k n l m d h =
    let e = linked_here k l n m h in
    let a : ℕ = k.prev n in
    let b : ℕ = k.next n in
    let w = different_apart l (n ∷ m) d in
    let r = different_right l (n ∷ m) d in
    let own : a ≢ leaf_ref n = λ i. end_off l (n ∷ m) w n (inl refl) (sym i ∙ e.0) in
    kept_front k n 0 0 a b b a 0 l (n ∷ m) m (inl refl) (λ i. omega arith) (off_zero l) (different_left l (n ∷ m) d) (λ i. w n i (inl refl)) (λ z i j. head_off l m (λ u v t. w u v (inr t)) z i (j ∙ e.1)) (sym e.0) h
    (kept_rest k n 0 0 a b b a (leaf_ref n) m r.0 r.1 (λ z i j. end_off l (n ∷ m) w z (inr i) (j ∙ e.0)) e.1 (after_set k n 0 0 a b b a (rw e.0 (end_ref 0 l (inl refl))) own) (linked_right k 0 l (n ∷ m) h).2)

-- ── the same said otherwise ──
both : (a b : Bool) → a && b ≡ true → (a ≡ true) × (b ≡ true)
both true b h = (refl, h)
both false b h = (h, absurd (let z : ◌≡◌ {A = ℕ} 0 1 = cc in omega arith))

-- leaves that follow each other, with 0 after the end and the end as the last, are linked
pub turn_linked : (k : Links) (r : ℕ) (l : List ℕ) → InTurn (follows k) r l → after_ref k (end_of r l) ≡ 0 → k.last ≡ end_of r l → Linked k r l
turn_linked k r [] c h i = (h, i)
turn_linked k r (n ∷ l) c h i =
    let p = both (eqb (k.prev n) r) (eqb (after_ref k r) (leaf_ref n)) c.0 in
    (eqb-true _ _ p.0, eqb-true _ _ p.1, turn_linked k (leaf_ref n) l c.1 h i)

-- linked leaves follow each other
pub linked_turn : (k : Links) (r : ℕ) (l : List ℕ) → Linked k r l → InTurn (follows k) r l
linked_turn k r [] h = tt
linked_turn k r (n ∷ l) h = (ap₂ ◌&&◌ (eq-eqb _ _ h.0) (eq-eqb _ _ h.1), linked_turn k (leaf_ref n) l h.2)

-- and 0 stands after the end
pub linked_end : (k : Links) (r : ℕ) (l : List ℕ) → Linked k r l → after_ref k (end_of r l) ≡ 0
linked_end k r [] h = h.0
linked_end k r (n ∷ l) h = linked_end k (leaf_ref n) l h.2
