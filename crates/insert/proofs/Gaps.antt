-- The place that a plan gives a new leaf in the list: before the first held tag that is not below, and after the one in front of it; both are leaves in use, or an end of the list.
use Prim.Native.Nat.{ℕ, ◌/◌}
use mathlib.Core.Path.{◌≡◌, refl, sym, ap, subst, ◌∙◌}
use mathlib.Core.Logic.{inl, if_pos, if_neg}
use mathlib.Core.List.{List, [], ◌∷◌, ◌++◌}
use mathlib.Core.Option.{Option, some}
use native.Mathlib.Decide.{ℕ_discrete}
use native.Mathlib.Omega.{arith}
use Rattle.art.proofs.Leaves.{numbers_append}
use Rattle.frames.specs.Frame.{last_word}
use Rattle.frames.specs.declared.frame.Frame.{Frame}
use Rattle.records.specs.View.{Held}
use Rattle.art.specs.Tags.{Tag, Listing}
use Rattle.art.specs.Trees.{Tree}
use Rattle.art.specs.Deletes.{held}
use Rattle.art.specs.Puts.{less_dec}
use Rattle.art.specs.Orders.{first_of, after}
use Rattle.art.specs.Members.{In}
use Rattle.art.specs.Chain.{Linked, leaf_ref, before_ref, head_of, numbers, option_ref, leaves_of}
use Rattle.art.specs.Stores.{leaf_place}
use Rattle.art.proofs.Members.{in_left, in_right}
use Rattle.art.proofs.Chains.{linked_before}
use Rattle.view.specs.Links.{UsedOrEnd, links_of}
use Rattle.view.proofs.Chains.{link_in_pool}
use Rattle.view.proofs.Views.{used_place}
use Rattle.reading.specs.Shown.{Shown}
use Rattle.reading.proofs.Entries.{numbers_held}
use Rattle.pointed.proofs.Neighbours.{number_of, leaf_used, head_used, last_used}
use Rattle.range.specs.Range.{after_first, after_is}
use Rattle.writes.specs.declared.leaf_node.Gap.{Gap}
use Rattle.insert.proofs.Plans.{Placed}
use Rattle.insert.proofs.Afters.{after_shown}

-- the listing parted before the first tag that is not below
record Parts (tag : Tag) (l : Listing Held) : Type 0 where
  front : Listing Held
  rest : Listing Held
  whole : l ≡ front ++ rest
  is : after tag l ≡ first_of rest

after_parts : (tag : Tag) (l : Listing Held) → Parts tag l
after_parts tag [] = record { front = []; rest = []; whole = refl; is = refl }
after_parts tag (e ∷ l) = go (less_dec e.0 tag) refl (after_parts tag l)
  where
    go : (d : Dec _) → less_dec e.0 tag ≡ d → Parts tag l → Parts tag (e ∷ l)
    go (yes h) q p = record {
      front = e ∷ p.front;
      rest = p.rest;
      whole = ap (λ (m : Listing Held). e ∷ m) p.whole;
      is = if_pos (less_dec e.0 tag) h (after tag l) (some e.1) ∙ p.is;
    }
    go (no h) q p = record { front = []; rest = e ∷ l; whole = refl; is = if_neg (less_dec e.0 tag) h (after tag l) (some e.1) }

head_is : (l : Listing Held) → option_ref number_of (first_of l) ≡ head_of (numbers number_of l)
head_is [] = refl
head_is (e ∷ l) = refl

module _ {f : Frame} {words keys : List ℕ} {d : Option (Tree Held)} (s : Shown f words keys d) (tag : List ℕ) (gap : Gap) (placed : Placed f words gap (after_first f words keys tag)) where
  abbrev parts : Parts tag (held d)
  parts = after_parts tag (held d)

  abbrev front : List ℕ
  front = numbers number_of parts.front

  abbrev rest : List ℕ
  rest = numbers number_of parts.rest

  all_leaves : leaves_of d ≡ front ++ rest
  all_leaves = sym (numbers_held s) ∙ ap (numbers number_of) parts.whole ∙ numbers_append number_of parts.front parts.rest

  front_in : (n : ℕ) → In n front → In n (leaves_of d)
  front_in n i = subst (In n) (sym all_leaves) (in_left n front rest i)

  rest_in : (n : ℕ) → In n rest → In n (leaves_of d)
  rest_in n i = subst (In n) (sym all_leaves) (in_right n front rest i)

  -- by what the first of the rest holds
  gap_by : (l : Listing Held) → ((n : ℕ) → In n (numbers number_of l) → In n (leaves_of d)) → Placed f words gap (after_is (first_of l))
      → (gap.next ≡ head_of (numbers number_of l)) × (gap.previous ≡ before_ref (links_of f words) (head_of (numbers number_of l)))
  unfolding links_of
  gap_by [] u e =
      (sym (ap (λ (g : Gap). g.next) e), sym (ap (λ (g : Gap). g.previous) e) ∙ sym (if_pos (ℕ_discrete 0 0) refl (last_word words) ((links_of f words).prev 0)))
  gap_by (h ∷ l) u e =
      let n = h.1.number in
      let back : n ≡ leaf_ref n / 8 = omega arith in (
        sym (ap (λ (g : Gap). g.next) e),
        sym (ap (λ (g : Gap). g.previous) e)
            ∙ sym (link_in_pool f words 2 n (used_place f words keys (leaf_place n) (leaf_used s n (u n (inl refl)))).0)
            ∙ ap (links_of f words).prev back
            ∙ sym (if_neg (ℕ_discrete (leaf_ref n) 0) (λ z. omega arith) (last_word words) ((links_of f words).prev (leaf_ref n / 8))),
      )

  gap_is : (gap.next ≡ head_of rest) × (gap.previous ≡ before_ref (links_of f words) (head_of rest))
  gap_is = gap_by parts.rest rest_in (subst (Placed f words gap) (after_shown s tag ∙ ap after_is parts.is) placed)

  pub gap_next : gap.next ≡ option_ref number_of (after tag (held d))
  gap_next = gap_is.0 ∙ sym (head_is parts.rest) ∙ ap (option_ref number_of) (sym parts.is)

  pub gap_previous : gap.previous ≡ before_ref (links_of f words) (option_ref number_of (after tag (held d)))
  gap_previous = gap_is.1 ∙ ap (before_ref (links_of f words)) (sym gap_is.0 ∙ gap_next)

  pub next_used : UsedOrEnd f words keys gap.next
  next_used = subst (UsedOrEnd f words keys) (sym gap_is.0) (head_used s rest rest_in)

  pub previous_used : UsedOrEnd f words keys gap.previous
  previous_used =
      subst (UsedOrEnd f words keys) (sym (gap_is.1 ∙ linked_before (links_of f words) front rest (subst (Linked (links_of f words) 0) all_leaves s.linked)))
      (last_used s front front_in)
