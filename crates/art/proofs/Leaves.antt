-- What insert and delete do to the leaves in order, and to the links between them.
use mathlib.Core.Path.{◌≡◌, refl, sym, ap, ap₂, subst, ◌∙◌}
use mathlib.Core.Logic.{◌⊎◌, inl, inr, ◌≢◌, ite, if_pos, if_neg}
use mathlib.Core.Bool.{Bool, true, false}
use mathlib.Core.Option.{Option, none, some}
use mathlib.Core.List.{List, [], ◌∷◌, ◌++◌, append-nil}
use Prim.Native.Nat.{ℕ}
use native.Mathlib.Decide.{ℕ_discrete}
use native.Mathlib.Omega.{arith}
use Rattle.art.specs.Tags.{Tag, Listing, Before, Order, order, below, equal, above, tag_dec}
use Rattle.art.specs.Listings.{Every, Sorted, under, lookup}
use Rattle.art.proofs.Listings.{every_imp}
use Rattle.art.specs.Trees.{Tree, leaf, inner, Row, end, child, contents, row_contents, Good}
use Rattle.art.proofs.Trees.{sorted}
use Rattle.art.specs.Puts.{Apart, less_dec, alter}
use Rattle.art.proofs.Tags.{before_less, before_not_begins}
use Rattle.art.proofs.Puts.{before_not_less, alter_none}
use Rattle.art.specs.Changes.{Plan, Meet, same, short, long, part, meet, Has, has, pair_by, pair, add_by, add_child, grow_leaf, grow_child, grow_inner, grow, grow_row}
use Rattle.art.proofs.Changes.{grow_contents}
use Rattle.art.specs.Deletes.{Home, lost, lost_row, cut_row, graft, settle, re_leaf, prune_child, prune_inner, prune, prune_row, drop_whole, change, held}
use Rattle.art.proofs.Deletes.{change_held}
use Rattle.art.specs.Orders.{first_of, after}
use Rattle.art.specs.Walks.{Shows, ShowsRow}
use Rattle.art.specs.Stores.{leaf_place, unused, leaf_cell, Store, store, store_row, Once, OnceRow}
use Rattle.art.proofs.Stores.{used_not}
use Rattle.art.proofs.ReadBack.{some_inj}
use Rattle.art.specs.Members.{In, Different}
use Rattle.art.proofs.Members.{in_left, in_right, in_append, different_append}
use Rattle.art.specs.Chain.{Links, before_ref, head_of, Linked, link_in, link_out, leaves, row_leaves, leaves_of, PutParts, LeaveParts, numbers, option_ref, Numbered, NumberedRow, KeepsNumber}
use Rattle.art.proofs.Chains.{linked_in, linked_out, linked_before}
use Rattle.art.specs.Visit.{spots, row_spots}
use Rattle.art.proofs.Passes.{store_on, row_store_on}

module _ {A : Type 0} where
  -- ── all different ──
  child_spot : (n : ℕ) (t : Tree A) (r : Row A) → (In n (leaves t) → In (leaf_place n) (spots t)) → (In n (row_leaves r) → In (leaf_place n) (row_spots r))
      → In n (leaves t) ⊎ In n (row_leaves r) → In (leaf_place n) (spots t ++ row_spots r)
  child_spot n t r f g (inl h) = in_left (leaf_place n) (spots t) (row_spots r) (f h)
  child_spot n t r f g (inr h) = in_right (leaf_place n) (spots t) (row_spots r) (g h)

  mutual
    -- the place of a tree's leaf is one of the tree's places
    pub leaf_spot : (t : Tree A) (n : ℕ) → In n (leaves t) → In (leaf_place n) (spots t)
    leaf_spot (leaf m s a) n (inr x3) = elim x3 [ ]
    leaf_spot (leaf m s a) n (inl e) = inl (ap leaf_place e)
    leaf_spot (inner k m run r) n h = inr (row_leaf_spot r n h)

    -- and so for a row
    pub row_leaf_spot : (r : Row A) (n : ℕ) → In n (row_leaves r) → In (leaf_place n) (row_spots r)
    row_leaf_spot end n h = h
    row_leaf_spot (child b t r) n h = child_spot n t r (λ i. leaf_spot t n i) (λ i. row_leaf_spot r n i) (in_append n (leaves t) (row_leaves r) h)

  -- a leaf whose place is unused is none of the tree's
  pub leaf_new : (t : Tree A) (p : Tag) (n : ℕ) → store t p (leaf_place n) ≡ unused → ¬ In n (leaves t)
  leaf_new t p n e h = used_not (store t p (leaf_place n)) (store_on t p (leaf_place n) (leaf_spot t n h)) e

  row_leaf_new : (r : Row A) (q : Tag) (n : ℕ) → store_row r q (leaf_place n) ≡ unused → ¬ In n (row_leaves r)
  row_leaf_new r q n e h = used_not (store_row r q (leaf_place n)) (row_store_on r q (leaf_place n) (row_leaf_spot r n h)) e

  mutual
    -- the leaves of a tree that has no place twice are all different
    pub leaves_different : (t : Tree A) (p : Tag) → Once t p → Different (leaves t)
    leaves_different (leaf n s a) p o = ((λ h. h), tt)
    leaves_different (inner k n run r) p o = row_leaves_different r (p ++ run) o.1

    -- and so for a row
    pub row_leaves_different : (r : Row A) (q : Tag) → OnceRow r q → Different (row_leaves r)
    row_leaves_different end q o = tt
    row_leaves_different (child b t r) q o =
        different_append (leaves t) (row_leaves r) (leaves_different t (q ++ b ∷ []) o.0) (row_leaves_different r q o.2) (λ n i j. go n i j (o.1 (leaf_place n)))
      where
        go : (n : ℕ) → In n (leaves t) → In n (row_leaves r) → (store t (q ++ b ∷ []) (leaf_place n) ≡ unused) ⊎ (store_row r q (leaf_place n) ≡ unused) → ⊥
        go n i j (inl e) = leaf_new t (q ++ b ∷ []) n e i
        go n i j (inr e) = row_leaf_new r q n e j

  -- ── where a tag goes into a listing, and where it leaves one ──
  -- a new tag parts the listing in two, and the first at or after it is the first of the rest
  pub put_parts : (s : Tag) (a : A) (l : Listing A) → Every (Apart s) l → PutParts s a l
  put_parts s a [] h = ([], [], refl, refl, refl)
  put_parts s a (e ∷ l) h = go h.0 (put_parts s a l h.1)
    where
      go : Apart s e.0 → PutParts s a l → PutParts s a (e ∷ l)
      go (inl b) ih = ([], e ∷ l, refl, if_pos (less_dec s e.0) (before_less s e.0 b) _ _, if_neg (less_dec e.0 s) (before_not_less s e.0 b) _ _)
      go (inr b) ih = (
        e ∷ ih.0,
        ih.1,
        ap (λ (m : Listing A). e ∷ m) ih.2,
        if_neg (less_dec s e.0) (before_not_less e.0 s b) _ _ ∙ ap (λ (m : Listing A). e ∷ m) ih.3,
        if_pos (less_dec e.0 s) (before_less e.0 s b) _ _ ∙ ih.4,
      )

  -- a held tag stands between two parts of a sorted listing, which are what is left without it
  pub leave_parts : (s : Tag) (a : A) (l : Listing A) → Sorted l → lookup s l ≡ some a → LeaveParts s a l
  leave_parts s a [] h e = let z : ◌≡◌ {A = ℕ} 0 1 = cc in absurd (omega arith)
  leave_parts s a (e ∷ l) h i = go (tag_dec s e.0) i (λ k. leave_parts s a l h.1 k)
    where
      other : (t : Tag) → Before e.0 t → s ≡ e.0 → s ≢ t
      other t b j k = before_not_begins e.0 t b ([], sym k ∙ j ∙ sym (append-nil e.0))

      go : (d : Dec (s ≡ e.0)) → ite d (some e.1) (lookup s l) ≡ some a → (lookup s l ≡ some a → LeaveParts s a l) → LeaveParts s a (e ∷ l)
      go (yes j) k ih = ([], l, (λ z. (sym j z, some_inj k z) ∷ l), if_pos (tag_dec s e.0) j _ _ ∙ alter_none (λ x. none) s l (every_imp _ _ (λ t b. other t b j) l h.0))
      go (no n) k ih =
          let p = ih k in
          (e ∷ p.0, p.1, ap (λ (m : Listing A). e ∷ m) p.2, if_neg (tag_dec s e.0) n _ _ ∙ ap (λ (m : Listing A). e ∷ m) p.3)

module _ {A : Type 0} (number : A → ℕ) where
  -- ── the numbers in the listing are the leaves' ──
  numbers_under : (p : Tag) (l : Listing A) → numbers number (under p l) ≡ numbers number l
  numbers_under p [] = refl
  numbers_under p (e ∷ l) = ap (λ (r : List ℕ). number e.1 ∷ r) (numbers_under p l)

  pub numbers_append : (l m : Listing A) → numbers number (l ++ m) ≡ numbers number l ++ numbers number m
  numbers_append [] m = refl
  numbers_append (e ∷ l) m = ap (λ (r : List ℕ). number e.1 ∷ r) (numbers_append l m)

  mutual
    -- where each leaf holds its own number, the numbers in the listing are the leaves in order
    pub numbers_are : (t : Tree A) → Numbered number t → numbers number (contents t) ≡ leaves t
    numbers_are (leaf n s a) h = ap (λ (m : ℕ). m ∷ []) h
    numbers_are (inner k n run r) h = numbers_under run (row_contents r) ∙ row_numbers_are r h

    -- and so for a row
    pub row_numbers_are : (r : Row A) → NumberedRow number r → numbers number (row_contents r) ≡ row_leaves r
    row_numbers_are end h = refl
    row_numbers_are (child b t r) h =
        numbers_append (under (b ∷ []) (contents t)) (row_contents r) ∙ ap₂ (λ (l m : List ℕ). l ++ m) (numbers_under (b ∷ []) (contents t) ∙ numbers_are t h.0) (row_numbers_are r h.1)

  mutual
    -- a store whose leaves hold their own numbers shows only trees whose leaves do
    pub shows_numbered : (σ : Store A) → ((n : ℕ) (s : Tag) (a : A) → σ (leaf_place n) ≡ leaf_cell s a → number a ≡ n) → (t : Tree A) (p : Tag) → Shows t p σ → Numbered number t
    shows_numbered σ f (leaf n s a) p h = f n (p ++ s) a h
    shows_numbered σ f (inner k n run r) p h = shows_row_numbered σ f r (p ++ run) h.1

    -- and so for a row
    pub shows_row_numbered : (σ : Store A) → ((n : ℕ) (s : Tag) (a : A) → σ (leaf_place n) ≡ leaf_cell s a → number a ≡ n) → (r : Row A) (q : Tag) → ShowsRow r q σ → NumberedRow number r
    shows_row_numbered σ f end q h = tt
    shows_row_numbered σ f (child b t r) q h = (shows_numbered σ f t (q ++ b ∷ []) h.0, shows_row_numbered σ f r q h.1)

  head_first : (l : Listing A) → head_of (numbers number l) ≡ option_ref number (first_of l)
  head_first [] = refl
  head_first (e ∷ l) = refl

  -- ── insert keeps each leaf's number ──
  pair_numbered : (x y : ℕ) (t u : Tree A) → Numbered number t → Numbered number u → NumberedRow number (pair x t y u)
  pair_numbered x y t u g h = go (order x y)
    where
      go : (o : Order x y) → NumberedRow number (pair_by x y o t u)
      go (below k) = (g, (h, tt))
      go (equal e) = (g, tt)
      go (above k) = (h, (g, tt))

  add_numbered : (b : ℕ) (t : Tree A) (r : Row A) → Numbered number t → NumberedRow number r → NumberedRow number (add_child b t r)
  add_numbered b t end g h = (g, tt)
  add_numbered b t (child c u r) g h = go (order b c) (add_numbered b t r g h.1)
    where
      go : (o : Order b c) → NumberedRow number (add_child b t r) → NumberedRow number (add_by b c o t u r (add_child b t r))
      go (below k) ih = (g, h)
      go (equal e) ih = h
      go (above k) ih = (h.0, ih)

  grow_leaf_numbered : (pl : Plan) (s : Tag) (a : A) (n : ℕ) (rest : Tag) (v : A) (m : Meet s rest) → number v ≡ n → number a ≡ pl.leaf_number
      → Numbered number (grow_leaf pl s a n rest v m)
  grow_leaf_numbered pl s a n rest v (same e) h i = h
  grow_leaf_numbered pl s a n rest v (short y w e) h i = h
  grow_leaf_numbered pl s a n rest v (long x u e) h i = h
  grow_leaf_numbered pl s a n rest v (part c x u y w j k ne) h i = pair_numbered x y (leaf pl.leaf_number u a) (leaf n w v) i h

  grow_inner_numbered : (pl : Plan) (s : Tag) (a : A) (k n : ℕ) (run : Tag) (r : Row A) (m : Meet s run) (rec : ℕ → Tag → Row A) → NumberedRow number r → number a ≡ pl.leaf_number
      → ((x : ℕ) (u : Tag) → NumberedRow number (rec x u)) → Numbered number (grow_inner pl s a k n run r m rec)
  grow_inner_numbered pl s a k n run r (same e) rec h i ih = h
  grow_inner_numbered pl s a k n run r (short y v e) rec h i ih = h
  grow_inner_numbered pl s a k n run r (long x u e) rec h i ih = go (has x r)
    where
      go : (d : Dec (Has x r)) → Numbered number (grow_child pl k n run r x u a d (rec x u))
      go (yes j) = ih x u
      go (no j) = add_numbered x (leaf pl.leaf_number u a) r i h
  grow_inner_numbered pl s a k n run r (part c x u y v j l ne) rec h i ih = pair_numbered x y (leaf pl.leaf_number u a) (inner k n v r) i h

  one_numbered : {P : Type 0} (d : Dec P) (c : ℕ) (t t' : Tree A) (r r' : Row A) → NumberedRow number (child c t r) → Numbered number t' → NumberedRow number r'
      → NumberedRow number (ite d (child c t' r) (child c t r'))
  one_numbered (yes e) c t t' r r' h g i = (g, h.1)
  one_numbered (no e) c t t' r r' h g i = (h.0, i)

  mutual
    -- where the new leaf holds its own number too, so does each leaf of the grown tree
    pub grow_numbered : (t : Tree A) → Numbered number t → (pl : Plan) (s : Tag) (a : A) → number a ≡ pl.leaf_number → Numbered number (grow t pl s a)
    grow_numbered (leaf n rest v) h pl s a i = grow_leaf_numbered pl s a n rest v (meet s rest) h i
    grow_numbered (inner k n run r) h pl s a i = grow_inner_numbered pl s a k n run r (meet s run) (λ x u. grow_row r pl x u a) h i (λ x u. grow_row_numbered r h pl x u a i)

    -- and so for a row
    pub grow_row_numbered : (r : Row A) → NumberedRow number r → (pl : Plan) (x : ℕ) (u : Tag) (a : A) → number a ≡ pl.leaf_number → NumberedRow number (grow_row r pl x u a)
    grow_row_numbered end h pl x u a i = tt
    grow_row_numbered (child c t r) h pl x u a i = one_numbered (ℕ_discrete x c) c t (grow t pl u a) r (grow_row r pl x u a) h (grow_numbered t h.0 pl u a i) (grow_row_numbered r h.1 pl x u a i)

  -- ── and so does delete, and a change to what is held ──
  graft_numbered : (p : Tag) (t : Tree A) → Numbered number t → Numbered number (graft p t)
  graft_numbered p (leaf n s a) h = h
  graft_numbered p (inner k n run r) h = h

  settle_numbered : (hm : Home) (k n : ℕ) (run : Tag) (r : Row A) → NumberedRow number r → Numbered number (settle hm k n run r)
  settle_numbered hm k n run end h = tt
  settle_numbered hm k n run (child b t end) h = graft_numbered (run ++ b ∷ []) t h.0
  settle_numbered hm k n run (child b t (child c u r)) h = h

  cut_numbered : (x : ℕ) (r : Row A) → NumberedRow number r → NumberedRow number (cut_row x r)
  cut_numbered x end h = tt
  cut_numbered x (child c t r) h = go (ℕ_discrete x c) (cut_numbered x r h.1)
    where
      go : (d : Dec (x ≡ c)) → NumberedRow number (cut_row x r) → NumberedRow number (ite d r (child c t (cut_row x r)))
      go (yes e) ih = h.1
      go (no e) ih = (h.0, ih)

  leaf_numbered : {P : Type 0} (d : Dec P) (n : ℕ) (rest : Tag) (a : A) (o : Option A) → number a ≡ n → ((b : A) → o ≡ some b → number b ≡ number a)
      → Numbered number (ite d (re_leaf n rest a o) (leaf n rest a))
  leaf_numbered (yes e) n rest a none h f = h
  leaf_numbered (yes e) n rest a (some b) h f = f b refl ∙ h
  leaf_numbered (no e) n rest a o h f = h

  prune_inner_numbered : (f : A → Option A) (hm : Home) (s : Tag) (k n : ℕ) (run : Tag) (r : Row A) (m : Meet s run) (rec : ℕ → Tag → Row A) → NumberedRow number r
      → ((x : ℕ) (u : Tag) → NumberedRow number (rec x u)) → Numbered number (prune_inner f hm s k n run r m rec)
  prune_inner_numbered f hm s k n run r (same e) rec h ih = h
  prune_inner_numbered f hm s k n run r (short y v e) rec h ih = h
  prune_inner_numbered f hm s k n run r (long x u e) rec h ih = go (lost_row f r x u)
    where
      go : (b : Bool) → Numbered number (prune_child hm k n run r x b (rec x u))
      go true = settle_numbered hm k n run (cut_row x r) (cut_numbered x r h)
      go false = ih x u
  prune_inner_numbered f hm s k n run r (part c x u y v i j ne) rec h ih = h

  mutual
    -- where a change keeps the number that is held, each leaf of the changed tree holds its own
    pub prune_numbered : (t : Tree A) → Numbered number t → (f : A → Option A) (hm : Home) (s : Tag) → KeepsNumber number f → Numbered number (prune t f hm s)
    prune_numbered (leaf n rest a) h f hm s i = leaf_numbered (tag_dec s rest) n rest a (f a) h (i a)
    prune_numbered (inner k n run r) h f hm s i = prune_inner_numbered f hm s k n run r (meet s run) (λ x u. prune_row r f hm x u) h (λ x u. prune_row_numbered r h f hm x u i)

    -- and so for a row
    pub prune_row_numbered : (r : Row A) → NumberedRow number r → (f : A → Option A) (hm : Home) (x : ℕ) (u : Tag) → KeepsNumber number f → NumberedRow number (prune_row r f hm x u)
    prune_row_numbered end h f hm x u i = tt
    prune_row_numbered (child c t r) h f hm x u i = one_numbered (ℕ_discrete x c) c t (prune t f hm u) r (prune_row r f hm x u) h (prune_numbered t h.0 f hm u i) (prune_row_numbered r h.1 f hm x u i)

  -- the leaves of a changed directory are the numbers of what it holds
  change_numbers : (t : Tree A) → Numbered number t → (f : A → Option A) (hm : Home) (s : Tag) → KeepsNumber number f → leaves_of (change t f hm s) ≡ numbers number (held (change t f hm s))
  change_numbers t h f hm s i = go (lost f t s)
    where
      go : (b : Bool) → leaves_of (drop_whole b (prune t f hm s)) ≡ numbers number (held (drop_whole b (prune t f hm s)))
      go true = refl
      go false = sym (numbers_are (prune t f hm s) (prune_numbered t h f hm s i))

  -- ── the leaves after an insert ──
  -- the new leaf stands between two parts of the leaves, the second of which begins with the first at or after its tag
  pub grow_leaves : (t : Tree A) → Good t → Numbered number t → (pl : Plan) (s : Tag) (a : A) → number a ≡ pl.leaf_number → Every (Apart s) (contents t)
      → (l : List ℕ) × (m : List ℕ) × (leaves t ≡ l ++ m) × (leaves (grow t pl s a) ≡ l ++ pl.leaf_number ∷ m) × (head_of m ≡ option_ref number (after s (contents t)))
  grow_leaves t g h pl s a i free =
      let p = put_parts s a (contents t) free in (
        numbers number p.0,
        numbers number p.1,
        sym (numbers_are t h) ∙ ap (numbers number) p.2 ∙ numbers_append p.0 p.1,
        sym (numbers_are (grow t pl s a) (grow_numbered t h pl s a i)) ∙ ap (numbers number) (grow_contents t g pl s a free ∙ p.3) ∙ numbers_append p.0 ((s, a) ∷ p.1)
            ∙ ap (λ (n : ℕ). numbers number p.0 ++ n ∷ numbers number p.1) i,
        head_first p.1 ∙ ap (option_ref number) (sym p.4),
      )

  -- linked in before the first at or after its tag, and after the one before that, the new leaf makes the grown tree's list
  pub grow_linked : (k : Links) (t : Tree A) → Good t → Once t [] → Numbered number t → (pl : Plan) (s : Tag) (a : A) → number a ≡ pl.leaf_number → Every (Apart s) (contents t)
      → store t [] (leaf_place pl.leaf_number) ≡ unused → Linked k 0 (leaves t)
      → Linked (link_in k pl.leaf_number (before_ref k (option_ref number (after s (contents t)))) (option_ref number (after s (contents t)))) 0 (leaves (grow t pl s a))
  grow_linked k t g o h pl s a i free new old =
      let p = grow_leaves t g h pl s a i free in
      let l : List ℕ = p.0 in
      let m : List ℕ = p.1 in
      let was : Linked k 0 (l ++ m) = subst (Linked k 0) p.2 old in
      let is = linked_in k pl.leaf_number l m (subst Different p.2 (leaves_different t [] o)) (subst (λ (q : List ℕ). ¬ In pl.leaf_number q) p.2 (leaf_new t [] pl.leaf_number new)) was in
      subst (λ (q : List ℕ). Linked (link_in k pl.leaf_number (before_ref k (option_ref number (after s (contents t)))) (option_ref number (after s (contents t)))) 0 q) (sym p.3)
      (subst (λ (b : ℕ). Linked (link_in k pl.leaf_number (before_ref k b) b) 0 (l ++ pl.leaf_number ∷ m)) p.4
      (subst (λ (c : ℕ). Linked (link_in k pl.leaf_number c (head_of m)) 0 (l ++ pl.leaf_number ∷ m)) (sym (linked_before k l m was)) is))

  -- ── the leaves after a delete, and after a change to what is held ──
  -- the leaf of a deleted tag stood between two parts of the leaves, which are left
  pub cut_leaves : (t : Tree A) → Good t → Numbered number t → (hm : Home) (s : Tag) (a : A) → lookup s (contents t) ≡ some a
      → (l : List ℕ) × (m : List ℕ) × (leaves t ≡ l ++ number a ∷ m) × (leaves_of (change t (λ x. none) hm s) ≡ l ++ m)
  cut_leaves t g h hm s a e =
      let p = leave_parts s a (contents t) (sorted t g) e in (
        numbers number p.0,
        numbers number p.1,
        sym (numbers_are t h) ∙ ap (numbers number) p.2 ∙ numbers_append p.0 ((s, a) ∷ p.1),
        change_numbers t h (λ x. none) hm s (λ x y i. absurd (let z : ◌≡◌ {A = ℕ} 0 1 = cc in omega arith)) ∙ ap (numbers number) (change_held t g (λ x. none) hm s ∙ p.3) ∙ numbers_append p.0 p.1,
      )

  -- and the leaf taken out of the links leaves the list of the tree without the tag
  pub cut_linked : (k : Links) (t : Tree A) → Good t → Once t [] → Numbered number t → (hm : Home) (s : Tag) (a : A) → lookup s (contents t) ≡ some a
      → Linked k 0 (leaves t) → Linked (link_out k (number a)) 0 (leaves_of (change t (λ x. none) hm s))
  cut_linked k t g o h hm s a e old =
      let p = cut_leaves t g h hm s a e in
      subst (Linked (link_out k (number a)) 0) (sym p.3) (linked_out k (number a) p.0 p.1 (subst Different p.2 (leaves_different t [] o)) (subst (Linked k 0) p.2 old))

  numbers_alter : (f : A → A) → ((a : A) → number (f a) ≡ number a) → (s : Tag) (l : Listing A) → numbers number (alter (λ x. some (f x)) s l) ≡ numbers number l
  numbers_alter f h s [] = refl
  numbers_alter f h s (e ∷ l) = go (tag_dec s e.0) (numbers_alter f h s l)
    where
      go : (d : Dec (s ≡ e.0)) → numbers number (alter (λ x. some (f x)) s l) ≡ numbers number l
          → numbers number (ite {C = Listing A} d ((e.0, f e.1) ∷ alter (λ x. some (f x)) s l) (e ∷ alter (λ x. some (f x)) s l)) ≡ number e.1 ∷ numbers number l
      go (yes i) ih = ap₂ (λ (n : ℕ) (m : List ℕ). n ∷ m) (h e.1) ih
      go (no i) ih = ap (λ (m : List ℕ). number e.1 ∷ m) ih

  -- a change to what is held that keeps its number keeps the leaves
  pub change_leaves : (t : Tree A) → Good t → Numbered number t → (f : A → A) → ((a : A) → number (f a) ≡ number a) → (hm : Home) (s : Tag)
      → leaves_of (change t (λ x. some (f x)) hm s) ≡ leaves t
  change_leaves t g h f i hm s =
      change_numbers t h (λ x. some (f x)) hm s (λ x y e. ap number (sym (some_inj e)) ∙ i x)
      ∙ ap (numbers number) (change_held t g (λ x. some (f x)) hm s) ∙ numbers_alter f i s (contents t) ∙ numbers_are t h
