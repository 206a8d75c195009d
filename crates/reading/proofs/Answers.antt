-- The searches in words: what is found is held and fits, what is held and fits is found, and nothing else is answered.
use Prim.Native.Nat.{ℕ}
use mathlib.Core.Path.{◌≡◌, refl, sym, ap, subst, ◌∙◌}
use mathlib.Core.Logic.{inl, inr, ◌≢◌, ite, if_pos, if_neg}
use mathlib.Core.List.{List, [], ◌∷◌, ◌++◌}
use mathlib.Core.Option.{Option, none, some}
use native.Mathlib.Omega.{arith}
use Rattle.std.specs.Prelude.{Ok, Err}
use Rattle.refusals.specs.declared.Refusal.TheVariants.{Damaged, Missing}
use Rattle.tree.specs.Answer.{Found}
use Rattle.tree.specs.declared.answer.Leaf.{Leaf}
use Rattle.frames.specs.declared.frame.Frame.{Frame}
use Rattle.records.specs.View.{Held}
use Rattle.tree.specs.Walk.{find_of, search_of, prefix_search_of}
use Rattle.tree.specs.declared.lookup.Aim.{Aim}
use Rattle.tree.specs.declared.lookup.Aim.TheVariants.{Exact, Begin}
use Rattle.art.specs.Tags as art
use Rattle.art.specs.Tags.{Tag, Listing, Before, Begins, Fits, fits_dec}
use Rattle.art.specs.Listings.{Every, Sorted, find}
use Rattle.art.specs.Trees.{Tree}
use Rattle.art.specs.Deletes.{held}
use Rattle.art.specs.Members.{In}
use Rattle.art.proofs.Tags.{fits_begins}
use Rattle.art.proofs.ReadBack.{some_inj}
use Rattle.reading.specs.Shown.{Shown}
use Rattle.reading.specs.Answers.{Bytes, answer_of, asked}
use Rattle.reading.proofs.Entries.{held_sorted}
use Rattle.reading.proofs.Walks.{find_shown}

-- ── what a sorted listing finds ──
-- of two tags, one before the other, not both begin the same bytes
not_both : (a b t : Tag) → Before a b → Begins a t → ¬ Begins b t
not_both (x ∷ a) [] t h i j = elim h [ ]
not_both [] b t h i j = elim h [ ]
not_both (x ∷ a) (y ∷ b) [] h i j = let e = i.1 in let z : ◌≡◌ {A = ℕ} 0 1 = cc in omega arith
not_both (x ∷ a) (y ∷ b) (z ∷ t) (inl l) i j =
    let e = i.1 in
    let g = j.1 in
    let p : z ≡ x = cc in
    let q : z ≡ y = cc in
    omega arith
not_both (x ∷ a) (y ∷ b) (z ∷ t) (inr k) i j =
    let e = i.1 in
    let g = j.1 in
    let p : t ≡ a ++ i.0 = cc in
    let q : t ≡ b ++ j.0 = cc in
    not_both a b t k.1 (i.0, p) (j.0, q)

module _ {A : Type 0} where
  every_in : (P : Tag → Type 0) (e : Tag × A) (l : Listing A) → Every P l → In e l → P e.0
  every_in P e [] h x'' = elim x'' [ ]
  every_in P e (x ∷ l) h (inl i) = subst (λ (y : Tag × A). P y.0) (sym i) h.0
  every_in P e (x ∷ l) h (inr i) = every_in P e l h.1 i

  -- what is found is held for a tag that fits
  found_in : (m : art.Aim) (s : Tag) (a : A) (l : Listing A) → find m s l ≡ some a → (t : Tag) × Fits m s t × In (t, a) l
  found_in m s a [] h = let z : ◌≡◌ {A = ℕ} 0 1 = cc in absurd (omega arith)
  found_in m s a (e ∷ l) h = go (fits_dec m s e.0) h (λ q. found_in m s a l q)
    where
      go : (d : Dec (Fits m s e.0)) → ite d (some e.1) (find m s l) ≡ some a → (find m s l ≡ some a → (t : Tag) × Fits m s t × In (t, a) l)
          → (t : Tag) × Fits m s t × In (t, a) (e ∷ l)
      go (yes i) q k = (e.0, i, inl (λ z. (e.0, sym (some_inj q) z)))
      go (no n) q k = let r = k q in (r.0, r.1, inr r.2)

  -- and what is held for a tag that fits is found: only one does
  in_found : (m : art.Aim) (s t : Tag) (a : A) (l : Listing A) → Sorted l → Fits m s t → In (t, a) l → find m s l ≡ some a
  in_found m s t a [] h k x3 = elim x3 [ ]
  in_found m s t a (e ∷ l) h k (inl i) =
      if_pos (fits_dec m s e.0) (subst (λ (y : Tag × A). Fits m s y.0) i k) (some e.1) (find m s l) ∙ ap (λ (y : Tag × A). some y.1) (sym i)
  in_found m s t a (e ∷ l) h k (inr i) =
      if_neg (fits_dec m s e.0) (λ q. not_both e.0 t s (every_in (Before e.0) (t, a) l h.0 i) (fits_begins m s e.0 q) (fits_begins m s t k)) (some e.1) (find m s l)
      ∙ in_found m s t a l h.1 k i

-- a call that answers by the list never finds the block damaged
pub never_damaged : {a : Found} (o : Option Held) → a ≡ answer_of o → a ≢ Err Damaged
never_damaged none e q = let z : ◌≡◌ {A = ℕ} 0 1 = cc in omega arith
never_damaged (some h) e q = let z : ◌≡◌ {A = ℕ} 0 1 = cc in omega arith

module _ {f : Frame} {words keys : List ℕ} {d : Option (Tree Held)} (s : Shown f words keys d) (tag : List ℕ) (bytes : Bytes tag) where
  module _ (aim : Aim) where
    -- what a search finds is held, with that number and that total, for a tag that fits
    pub found_held : (n v : ℕ) → find_of words keys tag aim ≡ Ok (record { number = n; total = v }) → (t : Tag) × Fits (asked aim) tag t × In (t, record { number = n; total = v }) (held d)
    found_held n v e = go (find (asked aim) tag (held d)) refl (sym (find_shown s tag bytes aim) ∙ e)
      where
        go : (o : Option Held) → find (asked aim) tag (held d) ≡ o → answer_of o ≡ Ok (record { number = n; total = v }) → (t : Tag) × Fits (asked aim) tag t × In (t, record { number = n; total = v }) (held d)
        go none i q = let z : ◌≡◌ {A = ℕ} 0 1 = cc in absurd (omega arith)
        go (some h) i q =
            let leaf : ◌≡◌ {A = Leaf} (record { number = h.number; total = h.total }) (record { number = n; total = v }) = cc in
            let a : h.number ≡ n = ap (λ (l : Leaf). l.number) leaf in
            let b : h.total ≡ v = ap (λ (l : Leaf). l.total) leaf in
            found_in (asked aim) tag _ (held d) (i ∙ (λ j. some (record { number = a j; total = b j })))

    -- what is held for a tag that fits, a search finds
    pub held_found : (t : Tag) (h : Held) → Fits (asked aim) tag t → In (t, h) (held d) → find_of words keys tag aim ≡ Ok (record { number = h.number; total = h.total })
    held_found t h k i = find_shown s tag bytes aim ∙ ap answer_of (in_found (asked aim) tag t h (held d) (held_sorted s) k i)

    -- where no held tag fits, there is no such tag
    pub none_missing : ((t : Tag) (h : Held) → In (t, h) (held d) → ¬ Fits (asked aim) tag t) → find_of words keys tag aim ≡ Err Missing
    none_missing out = go (find (asked aim) tag (held d)) refl
      where
        go : (o : Option Held) → find (asked aim) tag (held d) ≡ o → find_of words keys tag aim ≡ Err Missing
        go none i = find_shown s tag bytes aim ∙ ap answer_of i
        go (some h) i = let r = found_in (asked aim) tag h (held d) i in absurd (out r.0 h r.2 r.1)

    -- a search never finds the block damaged
    pub not_damaged : find_of words keys tag aim ≢ Err Damaged
    not_damaged = never_damaged (find (asked aim) tag (held d)) (find_shown s tag bytes aim)

  -- Search finds a tag, with its leaf and its last total, exactly when it is held with them.
  pub search_found : (n v : ℕ) → search_of words keys tag ≡ Ok (record { number = n; total = v }) → In (tag, record { number = n; total = v }) (held d)
  search_found n v e = let r = found_held Exact n v e in subst (λ (t : Tag). In (t, record { number = n; total = v }) (held d)) (sym r.1) r.2

  pub search_held : (h : Held) → In (tag, h) (held d) → search_of words keys tag ≡ Ok (record { number = h.number; total = h.total })
  search_held h i = held_found Exact tag h refl i

  pub search_missing : ((h : Held) → ¬ In (tag, h) (held d)) → search_of words keys tag ≡ Err Missing
  search_missing out = none_missing Exact (λ t h i e. out h (subst (λ (t : Tag). In (t, h) (held d)) (sym e) i))

  -- Of the held tags, prefix search finds the one that the given bytes begin with, and gives its leaf and its last total.
  pub prefix_found : (n v : ℕ) → prefix_search_of words keys tag ≡ Ok (record { number = n; total = v }) → (t : Tag) × Begins t tag × In (t, record { number = n; total = v }) (held d)
  prefix_found n v e = found_held Begin n v e

  pub prefix_held : (t : Tag) (h : Held) → Begins t tag → In (t, h) (held d) → prefix_search_of words keys tag ≡ Ok (record { number = h.number; total = h.total })
  prefix_held t h b i = held_found Begin t h b i

  pub prefix_missing : ((t : Tag) (h : Held) → In (t, h) (held d) → ¬ Begins t tag) → prefix_search_of words keys tag ≡ Err Missing
  prefix_missing out = none_missing Begin out
