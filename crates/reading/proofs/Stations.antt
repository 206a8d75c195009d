-- On a block that shows a directory the pass meets every entry once, in order, so the tally is that of the sorted list filtered by the beginning: adding one after the other loses nothing, since
-- what the low word loses is a carry.
use Prim.Native.Nat.{ℕ, suc, ◌+◌, ◌^◌, ◌/◌, ◌%◌, ◌<◌}
use mathlib.Core.Path.{◌≡◌, refl, sym, ap, subst, ◌∙◌}
use mathlib.Core.Logic.{inl, ite}
use mathlib.Core.List.{List, [], ◌∷◌, ◌++◌, append_assoc}
use mathlib.Core.Option.{Option}
use mathlib.Core.Bool.{Bool, true, false}
use native.Mathlib.Nat.{sub-zero}
use native.Mathlib.Omega.{arith}
use lib.ListN.{length, take}
use Rattle.lists.specs.Scan.{choose}
use Rattle.lists.specs.Compare.{begins}
use Rattle.lists.proofs.Compares.{begins_rest, rest_begins}
use Rattle.frames.specs.Frame.{count_word, first_word}
use Rattle.frames.specs.Place.{place_at, in_pool, start_at, record_at, key_at}
use Rattle.frames.specs.declared.frame.Frame.{Frame}
use Rattle.frames.proofs.Places.{place_leaf, key_length}
use Rattle.records.specs.Words.{tag_length, next_leaf_word}
use Rattle.records.specs.View.{Held}
use Rattle.art.specs.Tags.{Tag, Listing, Begins, begins_dec}
use Rattle.art.specs.Listings.{begun_with, added_up}
use Rattle.art.specs.Trees.{Tree}
use Rattle.art.specs.Deletes.{held}
use Rattle.art.specs.Members.{In}
use Rattle.art.specs.Chain.{leaf_ref, head_of}
use Rattle.art.specs.Stores.{leaf_place}
use Rattle.art.proofs.Members.{in_right}
use Rattle.reading.specs.Shown.{Shown}
use Rattle.reading.specs.Listing.{totals}
use Rattle.reading.proofs.Entries.{entry_seen, entry_obeys}
use Rattle.reading.proofs.Nexts.{numbers_of, first_word_lem, next_word}
use Rattle.tally.specs.declared.Tally.{Tally}
use Rattle.tally.specs.Tally.{added_of, nothing}
use Rattle.stations.specs.declared.Entry.{Entry}
use Rattle.stations.specs.Stations.{tally_is, starts_so, leaf_entry, entry_of, tally_one, tally_from, tally_list}
use Rattle.stations.proofs.Steps.{starts_by, entry_by, at_leaf, one_by, from_next}

-- ── the test on bytes is the one on tags ──
begins_yes : (s t : Tag) → Begins s t → begins s t ≡ true
begins_yes s t b = ap (begins s) b.1 ∙ rest_begins s b.0

begins_no : (s t : Tag) → ¬ Begins s t → begins s t ≡ false
begins_no s t n = go (begins s t) refl
  where
    go : (b : Bool) → begins s t ≡ b → b ≡ false
    go true e = absurd (n (begins_rest s t e))
    go false e = refl

-- ── adding one after the other ──
-- a tally and a listing more
abbrev plus : Tally → Listing ℕ → Tally
plus t l = record { count = t.count + length l; low = (t.low + added_up l) % 2 ^ 64; carries = t.carries + (t.low + added_up l) / 2 ^ 64 }

plus_none : (t : Tally) → t.low < 2 ^ 64 → t ≡ plus t []
plus_none t h = let c : t.count ≡ t.count + 0 = omega arith in let l : t.low ≡ (t.low + 0) % 2 ^ 64 = omega arith in let k : t.carries ≡ t.carries + (t.low + 0) / 2 ^ 64 = omega arith in
    λ i. record { count = c i; low = l i; carries = k i }

plus_one : (t : Tally) (e : Tag × ℕ) (l : Listing ℕ) → plus (added_of t e.1) l ≡ plus t (e ∷ l)
unfolding added_of
plus_one t e l =
    let x = e.1 in
    let y = added_up l in
    let c : t.count + 1 + length l ≡ t.count + suc (length l) = omega arith in
    let m : ((t.low + x) % 2 ^ 64 + y) % 2 ^ 64 ≡ (t.low + (x + y)) % 2 ^ 64 = omega arith in
    let k : t.carries + (t.low + x) / 2 ^ 64 + ((t.low + x) % 2 ^ 64 + y) / 2 ^ 64 ≡ t.carries + (t.low + (x + y)) / 2 ^ 64 = omega arith in
    λ i. record { count = c i; low = m i; carries = k i }

added_low : (t : Tally) (x : ℕ) → (added_of t x).low < 2 ^ 64
unfolding added_of
added_low t x = omega arith

-- each entry that begins so is added
abbrev folded : List ℕ → Tally → Listing ℕ → Tally
folded bytes t [] = t
folded bytes t (e ∷ l) = folded bytes (choose (begins bytes e.0) (added_of t e.1) t) l

folded_is : (bytes : List ℕ) (t : Tally) (l : Listing ℕ) → t.low < 2 ^ 64 → folded bytes t l ≡ plus t (begun_with bytes l)
folded_is bytes t [] h = plus_none t h
folded_is bytes t (e ∷ l) h = go (begins_dec bytes e.0) (λ u k. folded_is bytes u l k)
  where
    go : (d : Dec (Begins bytes e.0)) → ((u : Tally) → u.low < 2 ^ 64 → folded bytes u l ≡ plus u (begun_with bytes l))
        → folded bytes (choose (begins bytes e.0) (added_of t e.1) t) l ≡ plus t (ite {C = Listing ℕ} d (e ∷ begun_with bytes l) (begun_with bytes l))
    go (yes b) ih =
        ap (λ (x : Bool). folded bytes (choose x (added_of t e.1) t) l) (begins_yes bytes e.0 b)
        ∙ ih (added_of t e.1) (added_low t e.1) ∙ plus_one t e (begun_with bytes l)
    go (no n) ih = ap (λ (x : Bool). folded bytes (choose x (added_of t e.1) t) l) (begins_no bytes e.0 n) ∙ ih t h

nothing_plus : (l : Listing ℕ) → plus nothing l ≡ tally_is l
nothing_plus l = let c : 0 + length l ≡ length l = omega arith in let m : (0 + added_up l) % 2 ^ 64 ≡ added_up l % 2 ^ 64 = omega arith in let k : 0 + (0 + added_up l) / 2 ^ 64 ≡ added_up l / 2 ^ 64 = omega arith in
    λ i. record { count = c i; low = m i; carries = k i }

-- ── the pass ──
module _ {f : Frame} {words keys : List ℕ} {d : Option (Tree Held)} (s : Shown f words keys d) (bytes : List ℕ) where
  -- at an entry's leaf
  abbrev entry : Tag × Held → Entry
  entry e = record { counts = begins bytes e.0; total = e.1.total; next = next_leaf_word (record_at f words (leaf_place e.1.number)) }

  entry_here : (e : Tag × Held) → In e (held d) → (ref : ℕ) → ref ≡ leaf_ref e.1.number → entry e ≡ entry_of f words keys bytes ref
  entry_here e i ref q =
      let n = e.1.number in
      let rec = record_at f words (leaf_place n) in
      let key = key_at f keys n in
      let o = entry_obeys s e i in
      let v = entry_seen s e i in
      let at : place_at ref ≡ leaf_place n = ap place_at q ∙ place_leaf n in
      let own : n ≡ ref / 8 = omega arith in
      let tag : begins bytes e.0 ≡ starts_so rec key bytes = starts_by rec key bytes refl (omega (arith, o.len_is, o.short, key_length s.frame n v.pool)) (ap (begins bytes) v.tag_is ∙ ap (λ (k : ℕ). begins bytes (take k key)) (sym (sub-zero (tag_length rec)))) in
      at_leaf f words keys bytes ref (omega arith) (ap (in_pool f) at ∙ v.pool) (ap (start_at f) (sym at)) (entry_by rec key bytes tag v.total_is refl ∙ ap (λ (m : ℕ). leaf_entry rec (key_at f keys m) bytes) own)

  one_here : (t : Tally) (e : Tag × Held) → choose (begins bytes e.0) (added_of t e.1.total) t ≡ tally_one t (entry e)
  one_here t e = one_by t (entry e) refl

  pass_from : (rest front : Listing Held) → held d ≡ front ++ rest → (t : Tally) (ref : ℕ) → ref ≡ head_of (numbers_of rest)
      → tally_from f words keys bytes (length rest) t ref ≡ folded bytes t (totals rest)
  unfolding tally_from
  pass_from [] front q t ref r = refl
  pass_from (e ∷ rest) front q t ref r =
      let here : In e (held d) = subst (In e) (sym q) (in_right e front (e ∷ rest) (inl refl)) in
      let u = choose (begins bytes e.0) (added_of t e.1.total) t in
      from_next f words keys bytes {left = length rest} t ref (entry e) refl (entry_here e here ref r) (one_here t e)
      ∙ pass_from rest (front ++ e ∷ []) (q ∙ sym (append_assoc front (e ∷ []) rest)) u (entry e).next (next_word s front e rest q here)

  -- where the trailer counts the entries, the tally is that of those that begin so
  pub tally_shown : count_word words ≡ length (held d) → tally_list f words keys bytes ≡ tally_is (begun_with bytes (totals (held d)))
  tally_shown c =
      ap (λ (n : ℕ). tally_from f words keys bytes n nothing (first_word words)) c
      ∙ pass_from (held d) [] refl nothing (first_word words) (first_word_lem s)
      ∙ folded_is bytes nothing (totals (held d)) (omega arith) ∙ nothing_plus (begun_with bytes (totals (held d)))
