-- The cases of `edge_ref`, `edge_step` and `edge_of`.
use Prim.Native.Nat.{ℕ, zero, suc, ◌-◌, ◌≤◌, ◌<◌}
use mathlib.Core.Path.{◌≡◌, sym, ap, ◌∙◌}
use mathlib.Core.List.{List}
use native.Mathlib.Omega.{arith}
use Rattle.std.specs.Prelude.{Err}
use Rattle.std.specs.declared.ops.ControlFlow.TheVariants.{Continue, Break}
use Rattle.refusals.specs.declared.Refusal.TheVariants.{Damaged}
use Rattle.tree.specs.Answer.{Found}
use Rattle.tree.specs.Edge.{EdgeStep, entry_ref, edge_entry, edge_ref, edge_from, edge_step, edge_ended, edge_of}
use Rattle.frames.specs.Place.{place_at}
use Rattle.records.specs.Row.{row_at, Entry}
use Rattle.frames.specs.declared.form.Form.{Form}
use Rattle.frames.specs.declared.frame.Frame.{Frame}
use Rattle.tree.specs.Arrive.{arrival_at}
use Rattle.tree.specs.declared.arrive.Arrival.{Arrival}
use Rattle.tree.specs.declared.minmax.Edge.{Edge}

pub edge_by : (edge : Edge) (form : Form) (kind : ℕ) (rec : List ℕ) (entry : Entry) → edge_entry edge (row_at form kind rec) ≡ entry
    → entry_ref entry ≡ edge_ref edge form kind rec
unfolding edge_ref
edge_by edge form kind rec entry e = ap entry_ref (sym e)

module _ (f : Frame) (words keys : List ℕ) (edge : Edge) where
  pub edge_step_by : (left ref : ℕ) (a : Arrival) → arrival_at f words keys left (place_at ref) ≡ a
      → edge_from f words edge a ≡ edge_step f words keys edge left ref
  unfolding edge_step
  edge_step_by left ref a e = ap (edge_from f words edge) (sym e)

  -- ── the walk goes on where a step does, and ends where it does ──
  go_on : ℕ → EdgeStep → Found
  go_on left s = elim s [ Continue r ↦ edge_of f words keys edge left r | Break a ↦ a ]

  pub edge_next : (left ref r : ℕ) → 0 < left → edge_step f words keys edge left ref ≡ Continue r
      → edge_of f words keys edge left ref ≡ edge_of f words keys edge (left - 1) r
  unfolding edge_of go_on
  edge_next zero ref r h e = absurd (omega arith)
  edge_next (suc left) ref r h e = ap (go_on left) e ∙ ap (λ (n : ℕ). edge_of f words keys edge n r) (let q : left ≡ suc left - 1 = omega arith in q)

  pub edge_end : (left ref : ℕ) (a : Found) → edge_step f words keys edge left ref ≡ Break a → edge_of f words keys edge left ref ≡ a
  unfolding edge_of go_on
  edge_end zero ref a e = ap edge_ended e
  edge_end (suc left) ref a e = ap (go_on left) e

  pub edge_spent : (left ref r : ℕ) → left ≤ 0 → edge_step f words keys edge left ref ≡ Continue r → edge_of f words keys edge left ref ≡ Err Damaged
  unfolding edge_of
  edge_spent zero ref r h e = ap edge_ended e
  edge_spent (suc left) ref r h e = absurd (omega arith)

-- the walk at some point, with so many inner records left on the path: what it answers from there is what it answers from the root
pub record Descending (f : Frame) (words keys : List ℕ) (edge : Edge) (root left ref : ℕ) : Type 0 where
  pub same_answer : edge_of f words keys edge f.form.limit root ≡ edge_of f words keys edge left ref

-- one turn of it: the step that is taken ends the walk, or it goes on
module _ {f : Frame} {words keys : List ℕ} {edge : Edge} {root left ref : ℕ} (w : Descending f words keys edge root left ref) {s : EdgeStep} (taken : s ≡ edge_step f words keys edge left ref) where
  pub descending_ends : {a : Found} → s ≡ Break a → a ≡ edge_of f words keys edge f.form.limit root
  descending_ends {a} e = sym (w.same_answer ∙ edge_end f words keys edge left ref a (sym taken ∙ e))

  module _ {next : ℕ} (e : s ≡ Continue next) where
    pub descending_spent : left ≤ 0 → Err Damaged ≡ edge_of f words keys edge f.form.limit root
    descending_spent h = sym (w.same_answer ∙ edge_spent f words keys edge left ref next h (sym taken ∙ e))

    pub descending_on : 0 < left → Descending f words keys edge root (left - 1) next
    descending_on h = record { same_answer = w.same_answer ∙ edge_next f words keys edge left ref next h (sym taken ∙ e) }
