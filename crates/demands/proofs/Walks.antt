-- Walking by next leaf from the first tag at or after given bytes lists every later held tag once, in order: the list from there on is an end of the sorted list.
use Prim.Native.Nat.{ℕ, zero, suc, ◌≤◌}
use mathlib.Core.Path.{◌≡◌, refl, sym, ap, ap₂, subst, ◌∙◌}
use mathlib.Core.Logic.{inl, ite}
use mathlib.Core.List.{List, [], ◌∷◌, ◌++◌, append_assoc}
use mathlib.Core.Option.{Option}
use native.Mathlib.Omega.{arith}
use lib.ListN.{length}
use Rattle.records.specs.View.{Held}
use Rattle.art.specs.Tags.{Tag, Listing, Less}
use Rattle.art.specs.Puts.{less_dec}
use Rattle.art.specs.Orders.{first_of, after}
use Rattle.art.specs.Members.{In}
use Rattle.art.proofs.Members.{in_right}
use Rattle.reading.specs.Answers.{answer_of}
use Rattle.reading.specs.Listing.{list_from}
use Rattle.reading.specs.Calls.{Reads}
use Rattle.range.specs.Range.{after_is, after_of}
use Rattle.demands.specs.Calls.{Slices}
use Rattle.demands.specs.Tests.{Passed}
use Rattle.demands.specs.Listed.{holds}
use Rattle.demands.proofs.Reading.{reading_meets}
use Rattle.demands.proofs.Listed.{after_meets}
use Rattle.demands.specs.Later.{later}

module _ {A : Type 0} where
  -- it is an end of the list, and begins with the first at or after
  pub later_end : (s : Tag) (l : Listing A) → (front : Listing A) × (l ≡ front ++ later s l)
  later_end s [] = ([], refl)
  later_end s (e ∷ l) = go (less_dec e.0 s) (later_end s l)
    where
      go : (d : Dec (Less e.0 s)) → (front : Listing A) × (l ≡ front ++ later s l) → (front : Listing A) × (e ∷ l ≡ front ++ ite d (later s l) (e ∷ l))
      go (yes h) r = (e ∷ r.0, ap (λ (m : Listing A). e ∷ m) r.1)
      go (no h) r = ([], refl)

  pub later_first : (s : Tag) (l : Listing A) → after s l ≡ first_of (later s l)
  later_first s [] = refl
  later_first s (e ∷ l) = go (less_dec e.0 s) (later_first s l)
    where
      go : (d : Dec (Less e.0 s)) → after s l ≡ first_of (later s l) → ite d (after s l) (Option.some e.1) ≡ first_of (ite d (later s l) (e ∷ l))
      go (yes h) r = r
      go (no h) r = refl

-- from any end of the list on
pub list_from_lem : {words keys : List ℕ} {l : Listing Held} → Reads words keys l → (most : ℕ) (front rest : Listing Held) → l ≡ front ++ rest → length rest ≤ most → list_from words keys most (answer_of (first_of rest)) ≡ rest
list_from_lem r zero front [] q h = refl
list_from_lem r zero front (e ∷ rest) q h = absurd (omega arith)
list_from_lem r (suc most) front [] q h = refl
list_from_lem {words} {keys} {l} r (suc most) front (e ∷ rest) q h =
    let i : In e l = subst (In e) (sym q) (in_right e front (e ∷ rest) (inl refl)) in
    ap₂ (λ (t : Tag) (m : Listing Held). (t, e.1) ∷ m) (r.leaf_tag e i)
    (ap (list_from words keys most) (r.next_leaf front e rest q) ∙ list_from_lem r most (front ++ e ∷ []) rest (q ∙ sym (append_assoc front (e ∷ []) rest)) (omega arith))

-- first-at-or-after answers an entry as the other calls do
after_answer : (o : Option Held) → after_is o ≡ answer_of o
after_answer Option.none = refl
after_answer (Option.some h) = refl

pub walk_after : (s : Slices) (t : Tag) (p : Passed s) (most : ℕ) → length (later t (holds p.sound)) ≤ most
    → list_from s.words s.keys most (after_of s.words s.keys s.scratch t).result ≡ later t (holds p.sound)
walk_after s t p most h =
    let l = holds p.sound in
    let z = later_end t l in
    ap (list_from s.words s.keys most) (after_meets s t p ∙ after_answer (after t l) ∙ ap answer_of (later_first t l))
    ∙ list_from_lem (reading_meets p.sound) most z.0 (later t l) z.1 h
