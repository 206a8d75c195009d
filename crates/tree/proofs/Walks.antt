-- The cases of `leaf_answer`, `inner_step`, `step_of` and `walk_of`.
use Prim.Native.Nat.{ℕ, zero, suc, ◌+◌, ◌-◌, ◌≤◌, ◌<◌}
use mathlib.Core.Path.{◌≡◌, refl, sym, ap, ◌∙◌}
use mathlib.Core.List.{List}
use mathlib.Core.Bool.{Bool, true, false}
use native.Mathlib.Omega.{arith}
use borrow.Author.Tests.{eq-eqb, ne_eqb}
use Rattle.std.specs.Prelude.{Err}
use Rattle.std.specs.declared.ops.ControlFlow.TheVariants.{Continue, Break}
use Rattle.refusals.specs.declared.Refusal.TheVariants.{Damaged, Missing}
use Rattle.tree.specs.Answer.{Found, leaf_found}
use Rattle.tree.specs.Walk.{Step, compare_from, fits, leaf_answer, child_step, after_match, inner_step, step_from, step_of, ended_of, walk_of}
use lib.ListN.{length, get_or}
use lib.Dec.{eqb}
use Rattle.lists.specs.Scan.{choose}
use Rattle.lists.specs.Part.{between}
use Rattle.prefix.specs.Match.{match_of}
use Rattle.prefix.specs.declared.Prefix.{Prefix}
use Rattle.prefix.specs.declared.lookup.PrefixMatchBehavior.{PrefixMatchBehavior}
use Rattle.prefix.specs.declared.lookup.PrefixMatchBehavior.TheVariants.{Pessimistic}
use Rattle.prefix.specs.declared.lookup.PrefixMatch.{PrefixMatch}
use Rattle.prefix.specs.declared.lookup.PrefixMatch.TheVariants.{On, Off}
use Rattle.prefix.proofs.Matches.{match_within}
use Rattle.frames.specs.Form.{record_words}
use Rattle.records.specs.Own.{prefix_at, child_at}
use Rattle.frames.specs.Place.{place_at}
use Rattle.frames.specs.declared.form.Form.{Form}
use Rattle.frames.specs.declared.frame.Frame.{Frame}
use Rattle.tree.specs.Arrive.{arrival_at}
use Rattle.tree.specs.declared.arrive.Arrival.{Arrival}
use Rattle.tree.specs.declared.arrive.Arrival.TheVariants.{Leaf, Inner, Broken}
use Rattle.tree.specs.declared.lookup.Aim.{Aim}

-- ── at a leaf ──
module _ (rec key tag : List ℕ) (aim : Aim) (n depth : ℕ) (behavior : PrefixMatchBehavior) where
  module _ (len from : ℕ) (el : len ≡ get_or rec 1 0) (ef : from ≡ compare_from (length tag) len depth behavior) where
    abbrev compared : ℕ → ℕ → Bool
    compared from len = fits aim (between tag from (length tag)) (between key from len)

    bytes : compared from len ≡ compared (compare_from (length tag) (get_or rec 1 0) depth behavior) (get_or rec 1 0)
    bytes =
        ap (λ (l : ℕ). compared from l) el
        ∙ ap (λ (a : ℕ). compared a (get_or rec 1 0)) (ef ∙ ap (λ (l : ℕ). compare_from (length tag) l depth behavior) el)

    pub leaf_fits : compared from len ≡ true → leaf_found n rec ≡ leaf_answer rec key tag aim n depth behavior
    unfolding leaf_answer
    leaf_fits e = simp (sym bytes ∙ e)

    pub leaf_other : compared from len ≡ false → Err Missing ≡ leaf_answer rec key tag aim n depth behavior
    unfolding leaf_answer
    leaf_other e = simp (sym bytes ∙ e)

-- ── at an inner record, whose prefix was read as p ──
module _ (form : Form) (kind : ℕ) (rec tag : List ℕ) (depth : ℕ) (behavior : PrefixMatchBehavior) (p : Prefix) (ep : p ≡ prefix_at form rec) where
  stepped : (m : PrefixMatch) → match_of p tag depth behavior ≡ m → after_match form kind rec tag m ≡ inner_step form kind rec tag depth behavior
  unfolding inner_step
  stepped m e = ap (after_match form kind rec tag) (sym e ∙ ap (λ (q : Prefix). match_of q tag depth behavior) ep)

  pub inner_off : (j : ℕ) → match_of p tag depth behavior ≡ Off j → Break (Err Missing) ≡ inner_step form kind rec tag depth behavior
  inner_off j e = stepped (Off j) e

  module _ (d : ℕ) (after : PrefixMatchBehavior) (e : match_of p tag depth behavior ≡ On d after) (child : ℕ) (ec : child ≡ child_at form kind rec (get_or tag d 0)) where
    next : child_step child (d + 1) after ≡ inner_step form kind rec tag depth behavior
    next = ap (λ (c : ℕ). child_step c (d + 1) after) ec ∙ stepped (On d after) e

    pub inner_none : child ≡ 0 → Break (Err Missing) ≡ inner_step form kind rec tag depth behavior
    inner_none z = simp (eq-eqb child 0 z) at next

    pub inner_next : (child ≡ 0 → ⊥) → Continue (child, d + 1, after) ≡ inner_step form kind rec tag depth behavior
    inner_next z = simp (ne_eqb child 0 z) at next

module _ (f : Frame) (words keys tag : List ℕ) (aim : Aim) where
  -- ── a step, by what the walk arrives at ──
  module _ (left ref depth : ℕ) (behavior : PrefixMatchBehavior) where
    pub step_by : (a : Arrival) → arrival_at f words keys left (place_at ref) ≡ a
        → step_from f words keys tag aim depth behavior a ≡ step_of f words keys tag aim left ref depth behavior
    unfolding step_of
    step_by a e = ap (step_from f words keys tag aim depth behavior) (sym e)

  -- a step goes no deeper than the tag is long
  match_depth : (form : Form) (kind : ℕ) (rec : List ℕ) (m : PrefixMatch) → ((d : ℕ) (s : PrefixMatchBehavior) → m ≡ On d s → d < length tag)
      → (r d : ℕ) (s : PrefixMatchBehavior) → after_match form kind rec tag m ≡ Continue (r, d, s) → d ≤ length tag
  match_depth form kind rec (On e t) h r d s q = go (eqb (child_at form kind rec (get_or tag e 0)) 0) q
    where
      go : (b : Bool) → choose {A = Step} b (Break (Err Missing)) (Continue (child_at form kind rec (get_or tag e 0), e + 1, t)) ≡ Continue (r, d, s) → d ≤ length tag
      go true q = absurd (let z : ◌≡◌ {A = ℕ} 0 1 = cc in omega arith)
      go false q =
          let k : e + 1 ≡ d = ap (λ (p : ℕ × ℕ × PrefixMatchBehavior). p.1) (let p : ◌≡◌ {A = ℕ × ℕ × PrefixMatchBehavior} (child_at form kind rec (get_or tag e 0), e + 1, t) (r, d, s) = cc in p) in
          let m : e < length tag = h e t refl in
          omega arith
  match_depth form kind rec (Off j) h r d s q = absurd (let z : ◌≡◌ {A = ℕ} 0 1 = cc in omega arith)

  from_depth : (a : Arrival) (depth : ℕ) (behavior : PrefixMatchBehavior) (r d : ℕ) (s : PrefixMatchBehavior)
      → step_from f words keys tag aim depth behavior a ≡ Continue (r, d, s) → d ≤ length tag
  unfolding inner_step
  from_depth (Leaf n start) depth behavior r d s q = absurd (let z : ◌≡◌ {A = ℕ} 0 1 = cc in omega arith)
  from_depth (Inner kind start) depth behavior r d s q =
      let rec = between words start (start + record_words f.form kind) in
      match_depth f.form kind rec (match_of (prefix_at f.form rec) tag depth behavior)
      (λ d s e. (match_within (prefix_at f.form rec) tag depth behavior e).1) r d s q
  from_depth Broken depth behavior r d s q = absurd (let z : ◌≡◌ {A = ℕ} 0 1 = cc in omega arith)

  pub step_depth : (left ref depth : ℕ) (behavior : PrefixMatchBehavior) (r d : ℕ) (s : PrefixMatchBehavior)
      → step_of f words keys tag aim left ref depth behavior ≡ Continue (r, d, s) → d ≤ length tag
  step_depth left ref depth behavior r d s q =
      from_depth (arrival_at f words keys left (place_at ref)) depth behavior r d s (step_by left ref depth behavior _ refl ∙ q)

  -- ── the walk goes on where a step does, and ends where it does ──
  go_on : ℕ → Step → Found
  go_on left s = elim s [ Continue (r, d, s) ↦ walk_of f words keys tag aim left r d s | Break a ↦ a ]

  pub walk_next : (left ref depth : ℕ) (behavior : PrefixMatchBehavior) (r d : ℕ) (s : PrefixMatchBehavior) → 0 < left
      → step_of f words keys tag aim left ref depth behavior ≡ Continue (r, d, s)
      → walk_of f words keys tag aim left ref depth behavior ≡ walk_of f words keys tag aim (left - 1) r d s
  unfolding walk_of go_on
  walk_next zero ref depth behavior r d s h e = absurd (omega arith)
  walk_next (suc left) ref depth behavior r d s h e =
      ap (go_on left) e ∙ ap (λ (n : ℕ). walk_of f words keys tag aim n r d s) (let q : left ≡ suc left - 1 = omega arith in q)

  pub walk_end : (left ref depth : ℕ) (behavior : PrefixMatchBehavior) (a : Found) → step_of f words keys tag aim left ref depth behavior ≡ Break a
      → walk_of f words keys tag aim left ref depth behavior ≡ a
  unfolding walk_of go_on
  walk_end zero ref depth behavior a e = ap ended_of e
  walk_end (suc left) ref depth behavior a e = ap (go_on left) e

  pub walk_spent : (left ref depth : ℕ) (behavior : PrefixMatchBehavior) (r d : ℕ) (s : PrefixMatchBehavior) → left ≤ 0
      → step_of f words keys tag aim left ref depth behavior ≡ Continue (r, d, s) → walk_of f words keys tag aim left ref depth behavior ≡ Err Damaged
  unfolding walk_of
  walk_spent zero ref depth behavior r d s h e = ap ended_of e
  walk_spent (suc left) ref depth behavior r d s h e = absurd (omega arith)

-- the walk at some point, with so many inner records left on the path: what it answers from there is what it answers from the root
pub record Walking (f : Frame) (words keys tag : List ℕ) (aim : Aim) (root left ref depth : ℕ) (behavior : PrefixMatchBehavior) : Type 0 where
  pub within : depth ≤ length tag
  pub same_answer : walk_of f words keys tag aim f.form.limit root 0 Pessimistic ≡ walk_of f words keys tag aim left ref depth behavior

-- one turn of it: the step that is taken ends the walk, or it goes on
module _ {f : Frame} {words keys tag : List ℕ} {aim : Aim} {root left ref depth : ℕ} {behavior : PrefixMatchBehavior} (w : Walking f words keys tag aim root left ref depth behavior) {s : Step} (taken : s ≡ step_of f words keys tag aim left ref depth behavior) where
  pub walking_ends : {a : Found} → s ≡ Break a → a ≡ walk_of f words keys tag aim f.form.limit root 0 Pessimistic
  walking_ends {a} e = sym (w.same_answer ∙ walk_end f words keys tag aim left ref depth behavior a (sym taken ∙ e))

  module _ {next : ℕ × ℕ × PrefixMatchBehavior} (e : s ≡ Continue next) where
    pub walking_spent : left ≤ 0 → Err Damaged ≡ walk_of f words keys tag aim f.form.limit root 0 Pessimistic
    walking_spent h = sym (w.same_answer ∙ walk_spent f words keys tag aim left ref depth behavior next.0 next.1 next.2 h (sym taken ∙ e))

    pub walking_on : 0 < left → Walking f words keys tag aim root (left - 1) next.0 next.1 next.2
    walking_on h = record {
      within = step_depth f words keys tag aim left ref depth behavior next.0 next.1 next.2 (sym taken ∙ e);
      same_answer = w.same_answer ∙ walk_next f words keys tag aim left ref depth behavior next.0 next.1 next.2 h (sym taken ∙ e);
    }
