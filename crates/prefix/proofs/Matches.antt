-- Matching a prefix with a tag: the cases of the definition, what an answer says, and what it says of the run that the prefix stands for.
use Prim.Native.Nat.{ℕ, ◌+◌, ◌-◌, ◌≤◌, ◌<◌}
use mathlib.Core.Path.{◌≡◌, refl, sym, ap, ◌∙◌}
use mathlib.Core.List.{List}
use mathlib.Core.Bool.{Bool, true, false, ◌&&◌, and-false}
use native.Mathlib.Omega.{arith}
use borrow.Author.Tests.{lt-ltb, le-ltb, le-leb, lt-leb, leb-true, ltb-true}
use lib.ListN.{length, take, drop, length-take, length-drop}
use lib.Seq.{take_all, take-take}
use lib.Dec.{leb}
use Rattle.lists.specs.Scan.{choose}
use Rattle.lists.specs.Compare.{shared}
use Rattle.lists.specs.Part.{between}
use Rattle.lists.proofs.Tests.{both, and_both}
use Rattle.lists.proofs.Compares.{shared_le, shared_front, shared_more}
use Rattle.prefix.specs.Run.{capped, held, prefix_of}
use Rattle.prefix.specs.Match.{room_for, stored_shared, afterwards, length_match, match_of}
use Rattle.prefix.specs.declared.Prefix.{Prefix}
use Rattle.prefix.specs.declared.lookup.PrefixMatchBehavior.{PrefixMatchBehavior}
use Rattle.prefix.specs.declared.lookup.PrefixMatchBehavior.TheVariants.{Pessimistic, Optimistic}
use Rattle.prefix.specs.declared.lookup.PrefixMatch.TheVariants.{On, Off}
use Rattle.prefix.proofs.Runs.{held_run}
use Rattle.prefix.proofs.Eights.{capped_take}

-- ── the cases ──
pub length_off : (full len depth : ℕ) → len ≤ depth + full → Off 0 ≡ length_match full len depth
unfolding length_match
length_off full len depth h = simp (le-ltb (depth + full) len h)

pub length_on : (full len depth : ℕ) → depth + full < len → On (depth + full) Optimistic ≡ length_match full len depth
unfolding length_match
length_on full len depth h = simp (lt-ltb (depth + full) len h)

pub skipped_on : (full : ℕ) → 8 < full → Optimistic ≡ afterwards full
skipped_on full h = simp (lt-ltb 8 full h)

pub stored_on : (full : ℕ) → full ≤ 8 → Pessimistic ≡ afterwards full
stored_on full h = simp (le-ltb 8 full h)

on_true : (t : Bool) (d : ℕ) (a : PrefixMatchBehavior) (j : ℕ) {e : ℕ} {b : PrefixMatchBehavior} → choose t (On d a) (Off j) ≡ On e b
    → (t ≡ true) × ((e ≡ d) × (b ≡ a))
on_true true d a j e = (refl, (cc, cc))
on_true false d a j e = absurd (let z : ◌≡◌ {A = ℕ} 0 1 = cc in omega arith)

off_false : (t : Bool) (d : ℕ) (a : PrefixMatchBehavior) (i : ℕ) {j : ℕ} → choose t (On d a) (Off i) ≡ Off j → j ≡ i
off_false true d a i e = absurd (let z : ◌≡◌ {A = ℕ} 0 1 = cc in omega arith)
off_false false d a i e = cc

module _ (p : Prefix) (tag : List ℕ) (depth : ℕ) where
  -- the tag has the stored bytes
  abbrev agrees : Bool
  agrees = leb (capped p.full.0) (stored_shared p tag depth)

  -- and is long enough
  abbrev room : Bool
  room = room_for p.full.0 (length tag) depth

  match_by : {t : Bool} → agrees && room ≡ t → choose t (On (depth + p.full.0) (afterwards p.full.0)) (Off (stored_shared p tag depth)) ≡ match_of p tag depth Pessimistic
  unfolding match_of
  match_by e = ap (λ (t : Bool). choose t (On (depth + p.full.0) (afterwards p.full.0)) (Off (stored_shared p tag depth))) (sym e)

  module _ {behavior : PrefixMatchBehavior} where
    pub match_lengths : behavior ≡ Optimistic → length_match p.full.0 (length tag) depth ≡ match_of p tag depth behavior
    unfolding match_of
    match_lengths e = ap (match_of p tag depth) (sym e)

    -- j of the stored bytes, up to k, agreed with the tag's
    module _ {k j : ℕ} (e : behavior ≡ Pessimistic) (found : j ≡ shared (between p.stored 0 k) (between tag depth (length tag)))
        (cap : k ≡ capped p.full.0) where
      counted : j ≡ stored_shared p tag depth
      counted =
          let q : k - 0 ≡ capped p.full.0 = omega arith in
          found
          ∙ ap (λ (m : ℕ). shared (take m p.stored) (between tag depth (length tag))) q
          ∙ ap (shared (held p)) (take_all (length tag - depth) (drop depth tag) (omega (arith, length-drop depth tag)))

      pub match_differs : j < k → Off j ≡ match_of p tag depth behavior
      match_differs h =
          let off : agrees ≡ false = lt-leb (capped p.full.0) (stored_shared p tag depth) (omega (arith, counted)) in
          ap Off counted ∙ match_by (ap (λ (b : Bool). b && room) off) ∙ ap (match_of p tag depth) (sym e)

      pub match_short : length tag - depth ≤ p.full.0 → Off j ≡ match_of p tag depth behavior
      match_short h =
          let off : room ≡ false = le-ltb (depth + p.full.0) (length tag) (omega arith) in
          ap Off counted ∙ match_by (ap (λ (b : Bool). agrees && b) off ∙ and-false agrees) ∙ ap (match_of p tag depth) (sym e)

      pub match_on : {after : PrefixMatchBehavior} → k ≤ j → p.full.0 < length tag - depth → after ≡ afterwards p.full.0
          → On (depth + p.full.0) after ≡ match_of p tag depth behavior
      match_on h r a =
          let on : agrees ≡ true = le-leb (capped p.full.0) (stored_shared p tag depth) (omega (arith, counted)) in
          ap (On (depth + p.full.0)) a ∙ match_by (and_both on (lt-ltb (depth + p.full.0) (length tag) (omega arith))) ∙ ap (match_of p tag depth) (sym e)

  -- ── what an answer says ──
  -- past a prefix the tag has one byte more
  pub match_within : (behavior : PrefixMatchBehavior) {d : ℕ} {after : PrefixMatchBehavior} → match_of p tag depth behavior ≡ On d after
      → (d ≡ depth + p.full.0) × (d < length tag)
  unfolding match_of length_match
  match_within Optimistic e = let b = on_true room (depth + p.full.0) Optimistic 0 e in (b.1.0, omega (arith, b.1.0, ltb-true (depth + p.full.0) (length tag) b.0))
  match_within Pessimistic e =
      let b = on_true (agrees && room) (depth + p.full.0) (afterwards p.full.0) (stored_shared p tag depth) e in
      (b.1.0, omega (arith, b.1.0, ltb-true (depth + p.full.0) (length tag) (both agrees room b.0).1))

  -- and while none was skipped it has the stored bytes
  match_agrees : {d : ℕ} {after : PrefixMatchBehavior} → match_of p tag depth Pessimistic ≡ On d after
      → (capped p.full.0 ≤ stored_shared p tag depth) × (after ≡ afterwards p.full.0)
  unfolding match_of
  match_agrees e =
      let b = on_true (agrees && room) (depth + p.full.0) (afterwards p.full.0) (stored_shared p tag depth) e in
      (leb-true (capped p.full.0) (stored_shared p tag depth) (both agrees room b.0).0, b.1.1)

  match_off : {j : ℕ} → match_of p tag depth Pessimistic ≡ Off j → j ≡ stored_shared p tag depth
  unfolding match_of
  match_off e = off_false (agrees && room) (depth + p.full.0) (afterwards p.full.0) (stored_shared p tag depth) e

-- ── a run's prefix ──
-- a list of n elements stands in front of another exactly if all of it is shared
module _ (s t : List ℕ) (n : ℕ) (long : length s ≡ n) where
  begins_shared : take n t ≡ s → n ≤ shared s t
  begins_shared e = shared_more s t n (omega arith) (omega (arith, ap length e, length-take n t)) (take_all n s (omega arith) ∙ sym e)

  shared_begins : n ≤ shared s t → take n t ≡ s
  shared_begins h =
      let q : shared s t ≡ n = omega (arith, shared_le s t) in
      ap (λ (m : ℕ). take m t) (sym q) ∙ sym (shared_front s t) ∙ take_all (shared s t) s (omega arith)

module _ (run tag : List ℕ) (depth : ℕ) where
  stored_long : length (take 8 run) ≡ capped (length run)
  stored_long = length-take 8 run ∙ omega arith

  run_shared : stored_shared (prefix_of run) tag depth ≡ shared (take 8 run) (drop depth tag)
  run_shared = ap (λ (l : List ℕ). shared l (drop depth tag)) (held_run run)

  -- the walk goes on exactly if the tag has the stored bytes at this depth, and bytes enough
  pub run_on : take (capped (length run)) (drop depth tag) ≡ take 8 run → depth + length run < length tag
      → match_of (prefix_of run) tag depth Pessimistic ≡ On (depth + length run) (afterwards (length run))
  unfolding prefix_of
  run_on has r =
      let n = length run in
      let q : capped n ≤ shared (take 8 run) (drop depth tag) = begins_shared (take 8 run) (drop depth tag) (capped n) stored_long has in
      sym (match_by (prefix_of run) tag depth
      (and_both (le-leb (capped n) (stored_shared (prefix_of run) tag depth) (omega (arith, run_shared))) (lt-ltb (depth + n) (length tag) r)))

  pub run_back : {d : ℕ} {after : PrefixMatchBehavior} → match_of (prefix_of run) tag depth Pessimistic ≡ On d after
      → (take (capped (length run)) (drop depth tag) ≡ take 8 run) × (after ≡ afterwards (length run))
  unfolding prefix_of
  run_back e =
      let b = match_agrees (prefix_of run) tag depth e in
      (shared_begins (take 8 run) (drop depth tag) (capped (length run)) stored_long (omega (arith, b.0, run_shared)), b.1)

  -- so it does wherever the tag has the whole run
  pub run_has : take (length run) (drop depth tag) ≡ run → depth + length run < length tag
      → match_of (prefix_of run) tag depth Pessimistic ≡ On (depth + length run) (afterwards (length run))
  run_has has r =
      run_on
      (sym (take-take (capped (length run)) (length run) (drop depth tag) (omega arith))
      ∙ ap (take (capped (length run))) has
      ∙ capped_take run)
      r

  -- and, where all of it is stored, only there
  pub run_whole : {d : ℕ} {after : PrefixMatchBehavior} → length run ≤ 8 → match_of (prefix_of run) tag depth Pessimistic ≡ On d after
      → (take (length run) (drop depth tag) ≡ run) × (after ≡ Pessimistic)
  run_whole h e =
      let b = run_back e in
      let q : length run ≡ capped (length run) = omega arith in
      (ap (λ (m : ℕ). take m (drop depth tag)) q ∙ b.0 ∙ take_all 8 run h, b.1 ∙ sym (stored_on (length run) h))

  -- off the prefix, the number is how many of the run's stored bytes are the tag's
  pub run_off : {j : ℕ} → match_of (prefix_of run) tag depth Pessimistic ≡ Off j → j ≡ shared (take 8 run) (drop depth tag)
  run_off e = match_off (prefix_of run) tag depth e ∙ run_shared
