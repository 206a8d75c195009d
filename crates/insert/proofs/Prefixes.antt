-- The prefix of a run fits a record's form, and a record's prefix that holds the run's first eight bytes is the run's.
use Prim.Native.Nat.{ℕ, ◌-◌, ◌≤◌}
use mathlib.Core.Path.{◌≡◌, sym, ap, ap₂, ◌∙◌}
use mathlib.Core.List.{List, [], append-nil}
use mathlib.Core.Bool.{true}
use native.Mathlib.Omega.{arith}
use lib.ListN.{length, take, drop, length-drop}
use lib.Seq.{take_all}
use Rattle.lists.specs.Scan.{all_pass, at_most}
use Rattle.lists.proofs.Tests.{all_take}
use Rattle.prefix.specs.Run.{capped, eight, prefix_of, held}
use Rattle.prefix.specs.declared.Prefix.{Prefix}
use Rattle.prefix.proofs.Eights.{eight_all, eight_zeros, eight_own, eight_cut}
use Rattle.prefix.proofs.Runs.{run_length}
use Rattle.frames.specs.declared.form.Form.{Form}
use Rattle.edits.specs.Inner.{PrefixFits}

pub run_fits : (form : Form) (run : List ℕ) → length run ≤ form.limit → all_pass (at_most 255) run ≡ true → PrefixFits form (prefix_of run)
unfolding prefix_of
run_fits form run short bytes = record {
  short = short;
  eight = run_length run;
  bytes = eight_all 255 run bytes;
  rest = all_take (at_most 0) (8 - capped (length run)) (drop (capped (length run)) (eight run)) (eight_zeros (capped (length run)) run (omega arith));
}

pub prefix_is : {form : Form} {p : Prefix} → PrefixFits form p → (run : List ℕ) → p.full.0 ≡ length run → held p ≡ take 8 run → p ≡ prefix_of run
unfolding prefix_of
prefix_is {form} {p} w run full h =
    let c = capped p.full.0 in
    let rest : all_pass (at_most 0) (drop c p.stored) ≡ true = ap (all_pass (at_most 0)) (sym (take_all (8 - c) (drop c p.stored) (omega (arith, length-drop c p.stored, w.eight)))) ∙ w.rest in
    let stored : p.stored ≡ eight run = sym (eight_own p.stored c w.eight rest) ∙ ap eight h ∙ ap eight (sym (append-nil (take 8 run))) ∙ eight_cut [] 8 run [] (omega arith) ∙ ap eight (append-nil run) in
    ap₂ (λ (n : ℕ) (l : List ℕ). record { full = record { 0 = n }; stored = l }) full stored
