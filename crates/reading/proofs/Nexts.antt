-- A leaf of the sorted list is in use and obeys its rule, and its next is the one after it in the list; so the calls on leaf numbers read the list.
use Prim.Native.Nat.{ℕ, zero, suc, ◌≤◌}
use mathlib.Core.Path.{◌≡◌, refl, sym, ap, ap₂, subst, ◌∙◌}
use mathlib.Core.Logic.{inl, inr, if_pos}
use mathlib.Core.List.{List, [], ◌∷◌, ◌++◌, append_assoc}
use mathlib.Core.Option.{Option}
use native.Mathlib.Decide.{ℕ_discrete}
use native.Mathlib.Omega.{arith}
use borrow.Author.Tests.{ne_eqb}
use Rattle.std.specs.Prelude.{Ok}
use lib.ListN.{length, get_or}
use Rattle.art.proofs.Leaves.{numbers_append}
use Rattle.frames.specs.Frame.{first_word}
use Rattle.frames.specs.Place.{place_at, in_pool, start_at, record_at}
use Rattle.frames.specs.declared.frame.Frame.{Frame}
use Rattle.frames.proofs.Places.{place_leaf}
use Rattle.records.specs.View.{Held}
use Rattle.leaves.specs.Leaf.{leaf_state, next_of, next_leaf_of, facts_of, tag_of}
use Rattle.leaves.proofs.Leaves.{next_none, next_found, next_by, facts_by, len_by, tag_by}
use Rattle.art.specs.Tags.{Tag, Listing}
use Rattle.art.specs.Trees.{Tree}
use Rattle.art.specs.Deletes.{held}
use Rattle.art.specs.Members.{In}
use Rattle.art.specs.Orders.{first_of}
use Rattle.art.specs.Chain.{Linked, leaf_ref, head_of, numbers, leaves_of}
use Rattle.art.specs.Stores.{leaf_place}
use Rattle.art.proofs.Members.{in_right}
use Rattle.art.proofs.Chains.{linked_after, linked_here}
use Rattle.view.specs.Links.{links_of}
use Rattle.view.proofs.Chains.{link_in_pool}
use Rattle.reading.specs.Shown.{Shown}
use Rattle.reading.specs.Answers.{answer_of}
use Rattle.reading.specs.Listing.{list_from, list_of}
use Rattle.reading.proofs.Entries.{numbers_held, entry_seen, entry_rule, entry_obeys}
use Rattle.reading.proofs.Edges.{minimum_shown}

abbrev pub numbers_of : Listing Held → List ℕ
numbers_of l = numbers (λ (h : Held). h.number) l

module _ {f : Frame} {words keys : List ℕ} {d : Option (Tree Held)} (s : Shown f words keys d) where
  -- ── the calls on the number of an entry ──
  module _ (e : Tag × Held) (i : In e (held d)) where
    abbrev n : ℕ
    n = e.1.number

    state : leaf_state f words keys n ≡ Ok (start_at f (leaf_place n))
    unfolding leaf_state
    state = let l = entry_seen s e i in simp (l.pool, ne_eqb _ _ l.used, entry_rule s e i)

    -- (Ok (record { number = facts; total = answer })) its tag's length and its total.
    pub facts_shown : facts_of words keys e.1.number ≡ Ok (record { length = length e.0; total = e.1.total })
    facts_shown = sym (facts_by s.frame n _ state) ∙ (λ j. Ok (record { length = (entry_obeys s e i).len_is j; total = sym (entry_seen s e i).total_is j }))

    -- (Ok (record { number = tag; total = answers })) its tag.
    pub tag_shown : tag_of words keys e.1.number ≡ e.0
    tag_shown = sym (tag_by s.frame n (get_or (record_at f words (leaf_place n)) 1 0) (len_by s.frame n _ state)) ∙ sym (entry_seen s e i).tag_is

    -- a reference to its leaf is answered with its number and its total
    next_here : (ref : ℕ) → ref ≡ leaf_ref n → next_of f words ref ≡ Ok (record { number = n; total = e.1.total })
    next_here ref q =
        let l = entry_seen s e i in
        let at : place_at ref ≡ leaf_place n = ap place_at q ∙ place_leaf n in
        let start = start_at f (leaf_place n) in
        sym (next_found f words ref (λ z. omega arith) n at (ap (in_pool f) at ∙ l.pool) start (ap (start_at f) (sym at)) refl (entry_obeys s e i).in_use)
        ∙ (λ j. Ok (record { number = n; total = sym l.total_is j }))

  -- ── the next leaf ──
  next_first : (rest : Listing Held) → ((e : Tag × Held) → In e rest → In e (held d)) → (ref : ℕ) → ref ≡ head_of (numbers_of rest) → next_of f words ref ≡ answer_of (first_of rest)
  next_first [] h ref q = sym (next_none f words ref q)
  next_first (e ∷ rest) h ref q = next_here e (h e (inl refl)) ref q

  -- the list's first is the first entry's leaf
  pub first_word_lem : first_word words ≡ head_of (numbers_of (held d))
  unfolding links_of
  first_word_lem = sym (if_pos (ℕ_discrete 0 0) refl (first_word words) ((links_of f words).next 0)) ∙ linked_after (links_of f words) [] (leaves_of d) s.linked ∙ ap head_of (sym (numbers_held s))

  -- the reference after an entry's leaf is that of the next entry
  pub next_word : (front : Listing Held) (e : Tag × Held) (rest : Listing Held) → held d ≡ front ++ e ∷ rest → In e (held d)
      → get_or (record_at f words (leaf_place e.1.number)) 3 0 ≡ head_of (numbers_of rest)
  unfolding links_of
  next_word front e rest q i =
      let n = e.1.number in
      let order : leaves_of d ≡ numbers_of front ++ n ∷ numbers_of rest = sym (numbers_held s) ∙ ap numbers_of q ∙ numbers_append (λ (h : Held). h.number) front (e ∷ rest) in
      sym (link_in_pool f words 3 n (entry_seen s e i).pool) ∙ (linked_here (links_of f words) (numbers_of front) n (numbers_of rest) (subst (Linked (links_of f words) 0) order s.linked)).1

  -- Next leaf, for a leaf of the sorted list, answers with the one after it in the list, and that there is none at its end.
  pub next_shown : (front : Listing Held) (e : Tag × Held) (rest : Listing Held) → held d ≡ front ++ e ∷ rest → next_leaf_of words keys e.1.number ≡ answer_of (first_of rest)
  next_shown front e rest q =
      let n = e.1.number in
      let within : (x : Tag × Held) → In x (e ∷ rest) → In x (held d) = λ x i. subst (In x) (sym q) (in_right x front (e ∷ rest) i) in
      let i = within e (inl refl) in
      sym (next_by s.frame n _ (state e i))
      ∙ next_first rest (λ x j. within x (inr j)) (get_or (record_at f words (leaf_place n)) 3 0) (next_word front e rest q i)

  -- ── walking by next leaf ──
  list_from_lem : (most : ℕ) (front rest : Listing Held) → held d ≡ front ++ rest → length rest ≤ most → list_from words keys most (answer_of (first_of rest)) ≡ rest
  list_from_lem zero front [] q l = refl
  list_from_lem zero front (e ∷ rest) q l = absurd (omega arith)
  list_from_lem (suc most) front [] q l = refl
  list_from_lem (suc most) front (e ∷ rest) q l =
      let i : In e (held d) = subst (In e) (sym q) (in_right e front (e ∷ rest) (inl refl)) in
      ap₂ (λ (t : Tag) (m : Listing Held). (t, e.1) ∷ m) (tag_shown e i)
      (ap (list_from words keys most) (next_shown front e rest q) ∙ list_from_lem most (front ++ e ∷ []) rest (q ∙ sym (append_assoc front (e ∷ []) rest)) (omega arith))

  -- Walking by next leaf from the minimum lists every tag once, in order, with its leaf and its total, and then ends.
  pub list_shown : (most : ℕ) → length (held d) ≤ most → list_of words keys most ≡ held d
  list_shown most l = ap (list_from words keys most) (minimum_shown s) ∙ list_from_lem most [] (held d) refl l
