-- The walk along the leaf list of a block that shows a directory ends at the first held tag that is not below, since the list has the leaves in order and each step passes over one.
use Prim.Native.Nat.{ℕ, suc, ◌+◌, ◌-◌, ◌/◌, ◌≤◌, ◌<◌}
use mathlib.Core.Path.{◌≡◌, refl, sym, ap, ap₂, subst, ◌∙◌}
use mathlib.Core.Logic.{inl, inr, ite}
use mathlib.Core.List.{List, [], ◌∷◌, ◌++◌, append_assoc}
use mathlib.Core.Option.{Option, none, some}
use mathlib.Core.Bool.{Bool, true, false, ◌&&◌, ◌||◌}
use native.Mathlib.Decide.{ℕ_discrete}
use native.Mathlib.Omega.{arith}
use lib.ListN.{length, get_or, take}
use lib.Dec.{eqb, ltb}
use borrow.Author.Tests.{lt-ltb, le-ltb, eq-eqb, ne_eqb, ltb-true}
use Rattle.std.specs.Prelude.{Ok}
use Rattle.std.specs.declared.ops.ControlFlow.TheVariants.{Continue, Break}
use Rattle.range.specs.Range.{Step, below, leaf_step, step_of, after_from, after_first, after_is}
use Rattle.lists.specs.Compare.{less}
use Rattle.frames.specs.Frame.{first_word}
use Rattle.frames.specs.Place.{place_at, in_pool, start_at, record_at, key_at}
use Rattle.frames.specs.declared.frame.Frame.{Frame}
use Rattle.frames.proofs.Places.{place_leaf, key_length}
use Rattle.records.specs.Own.{total_of}
use Rattle.records.specs.View.{Held}
use Rattle.art.specs.Tags.{Tag, Listing, Less}
use Rattle.art.specs.Trees.{Tree}
use Rattle.art.specs.Deletes.{held}
use Rattle.art.specs.Puts.{less_dec}
use Rattle.art.specs.Orders.{after}
use Rattle.art.specs.Members.{In, Different}
use Rattle.art.specs.Chain.{leaf_ref, head_of, leaves_of}
use Rattle.art.specs.Stores.{leaf_place}
use Rattle.art.proofs.Members.{in_right}
use Rattle.art.proofs.Leaves.{leaves_different}
use Rattle.view.proofs.Views.{used_place}
use Rattle.reading.specs.Shown.{Shown}
use Rattle.reading.proofs.Entries.{numbers_held, entry_seen, entry_obeys}
use Rattle.reading.proofs.Nexts.{numbers_of, first_word_lem, next_word}
use Rattle.pointed.proofs.Neighbours.{leaf_used}
use Rattle.range.proofs.Steps.{step_end, step_leaf, after_next, after_end}
use Rattle.insert.proofs.Few.{few}

-- ── the test on bytes is the order of tags ──
or_true : (b : Bool) → b || true ≡ true
or_true true = refl
or_true false = refl

less_yes : (s t : Tag) → Less s t → less s t ≡ true
less_yes [] [] h = absurd h
less_yes [] (y ∷ t) h = refl
less_yes (x ∷ s) [] h = absurd h
less_yes (x ∷ s) (y ∷ t) (inl h) = ap (λ (b : Bool). b || (eqb x y && less s t)) (lt-ltb x y h)
less_yes (x ∷ s) (y ∷ t) (inr h) = ap₂ (λ (b c : Bool). ltb x y || (b && c)) (eq-eqb x y h.0) (less_yes s t h.1) ∙ or_true (ltb x y)

less_no : (s t : Tag) → ¬ Less s t → less s t ≡ false
less_no [] [] h = refl
less_no [] (y ∷ t) h = absurd (h tt)
less_no (x ∷ s) [] h = refl
less_no (x ∷ s) (y ∷ t) h =
    ap (λ (b : Bool). b || (eqb x y && less s t)) (le-ltb x y (let k : ¬ (x < y) = λ l. h (inl l) in omega arith)) ∙ go (ℕ_discrete x y) (λ k. less_no s t k)
  where
    go : Dec (x ≡ y) → (¬ Less s t → less s t ≡ false) → eqb x y && less s t ≡ false
    go (yes e) rec = ap₂ (λ (b c : Bool). b && c) (eq-eqb x y e) (rec (λ l. h (inr (e, l))))
    go (no ne) rec = ap (λ (b : Bool). b && less s t) (ne_eqb x y ne)

numbers_length : (l : Listing Held) → length (numbers_of l) ≡ length l
numbers_length [] = refl
numbers_length (e ∷ l) = ap suc (numbers_length l)

-- ── at a leaf ──
module _ (rec key tag : List ℕ) (n : ℕ) (short : get_or rec 1 0 ≤ length key) where
  leaf_below : less (take (get_or rec 1 0) key) tag ≡ true → leaf_step rec key tag n ≡ Continue (get_or rec 3 0)
  unfolding leaf_step below
  leaf_below h = simp (le-ltb (length key) (get_or rec 1 0) short, h)

  leaf_not_below : less (take (get_or rec 1 0) key) tag ≡ false → leaf_step rec key tag n ≡ Break (Ok (record { number = n; total = total_of rec }))
  unfolding leaf_step below
  leaf_not_below h = simp (le-ltb (length key) (get_or rec 1 0) short, h)

module _ {f : Frame} {words keys : List ℕ} {d : Option (Tree Held)} (s : Shown f words keys d) where
  -- ── the leaves are different ones of the pool ──
  all_different : Different (leaves_of d)
  all_different = go d s
    where
      go : (d : Option (Tree Held)) → Shown f words keys d → Different (leaves_of d)
      go none s = tt
      go (some t) s = leaves_different t [] s.once

  -- so the pool has room for all held tags
  pub held_few : length (held d) ≤ get_or f.caps 5 0
  held_few =
      let low : (n : ℕ) → In n (leaves_of d) → n < get_or f.caps 5 0 = λ n i. ltb-true _ _ (used_place f words keys (leaf_place n) (leaf_used s n i)).0 in
      omega (arith, few (get_or f.caps 5 0) (leaves_of d) all_different low, ap length (numbers_held s), numbers_length (held d))

  -- ── the walk ──
  module _ (tag : List ℕ) where
    -- a step at an entry's leaf
    step_here : (e : Tag × Held) → In e (held d) → (ref : ℕ) → ref ≡ leaf_ref e.1.number → (st : Step)
        → leaf_step (record_at f words (leaf_place e.1.number)) (key_at f keys e.1.number) tag e.1.number ≡ st → step_of f words keys tag ref ≡ st
    step_here e i ref q st h =
        let n = e.1.number in
        let at : place_at ref ≡ leaf_place n = ap place_at q ∙ place_leaf n in
        let own : n ≡ ref / 8 = omega arith in
        sym (step_leaf f words keys tag ref (omega arith) {start = start_at f (leaf_place n)} {s = st} (ap (in_pool f) at ∙ (entry_seen s e i).pool) (ap (start_at f) (sym at))
        (sym h ∙ ap (λ (m : ℕ). leaf_step (record_at f words (leaf_place n)) (key_at f keys m) tag m) own))

    -- its length is within its key bytes, and what is compared is its tag
    entry_short : (e : Tag × Held) (i : In e (held d)) → get_or (record_at f words (leaf_place e.1.number)) 1 0 ≤ length (key_at f keys e.1.number)
    entry_short e i =
        let o = entry_obeys s e i in
        omega (arith, o.len_is, o.short, key_length s.frame e.1.number (entry_seen s e i).pool)

    tag_less : (e : Tag × Held) (i : In e (held d)) (b : Bool) → less e.0 tag ≡ b → less (take (get_or (record_at f words (leaf_place e.1.number)) 1 0) (key_at f keys e.1.number)) tag ≡ b
    tag_less e i b h = ap (λ (t : List ℕ). less t tag) (sym (entry_seen s e i).tag_is) ∙ h

    walk_from : (rest front : Listing Held) → held d ≡ front ++ rest → (left : ℕ) → length rest < left → (ref : ℕ) → ref ≡ head_of (numbers_of rest)
        → after_from f words keys tag left ref ≡ after_is (after tag rest)
    walk_from [] front q left l ref r = after_end f words keys tag left ref (omega arith) (sym (step_end f words keys tag ref r))
    walk_from (e ∷ rest) front q left l ref r =
        go (less_dec e.0 tag) (walk_from rest (front ++ e ∷ []) (q ∙ sym (append_assoc front (e ∷ []) rest)) (left - 1) (omega arith) (get_or (record_at f words (leaf_place e.1.number)) 3 0) (next_word s front e rest q here))
      where
        here : In e (held d)
        here = subst (In e) (sym q) (in_right e front (e ∷ rest) (inl refl))

        rec : List ℕ
        rec = record_at f words (leaf_place e.1.number)

        key : List ℕ
        key = key_at f keys e.1.number

        go : (c : Dec (Less e.0 tag)) → after_from f words keys tag (left - 1) (get_or rec 3 0) ≡ after_is (after tag rest) → after_from f words keys tag left ref ≡ after_is (ite c (after tag rest) (some e.1))
        go (yes h) ih =
            after_next f words keys tag {left = left - 1} ref (omega arith)
            (step_here e here ref r (Continue (get_or rec 3 0)) (leaf_below rec key tag e.1.number (entry_short e here) (tag_less e here true (less_yes e.0 tag h))))
            ∙ ih
        go (no h) ih =
            after_end f words keys tag left ref (omega arith)
            (step_here e here ref r (Break (Ok (record { number = e.1.number; total = total_of rec }))) (leaf_not_below rec key tag e.1.number (entry_short e here) (tag_less e here false (less_no e.0 tag h))))
            ∙ ap (λ (v : ℕ). Ok (record { number = e.1.number; total = v })) (sym (entry_seen s e here).total_is)

    -- first-at-or-after: the walk answers with what the first tag of the sorted list that is not below the given one holds
    pub after_shown : after_first f words keys tag ≡ after_is (after tag (held d))
    after_shown = walk_from (held d) [] refl (get_or f.caps 5 0 + 1) (omega (arith, held_few)) (first_word words) (first_word_lem s)
