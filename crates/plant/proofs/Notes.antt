-- A total that is put in by the function for C is noted: its contract is the outcome of an insert, of which the demands say the rest.
use Prim.Native.Nat.{ℕ}
use mathlib.Core.Path.{◌≡◌, sym, ap, ◌∙◌}
use mathlib.Core.List.{List, []}
use Rattle.reading.specs.Answers.{Bytes}
use Rattle.demands.specs.Calls.{edit, insert, Slices, run}
use Rattle.demands.specs.Told.{told_by}
use Rattle.demands.specs.Histories.{Block}
use Rattle.demands.proofs.Demands.{demands}
use Rattle.demands.proofs.Lasts.{insert_found, others_kept}
use Rattle.directory_c.specs.Numbers.{lent, found_as, changed_as, Does}
use Rattle.directory_c.specs.declared.DirectoryChanged.{DirectoryChanged}
use Rattle.plant.specs.Noted.{look, Noted}

pub noted : {words keys scratch tag : List ℕ} {total : ℕ} {r : DirectoryChanged} {words' keys' scratch' : List ℕ} → Bytes keys → Bytes tag
    → Does changed_as (edit (insert tag total)) (lent words keys scratch) r (lent words' keys' scratch') → Noted words keys tag total r words' keys'
noted {words} {keys} {scratch} {tag} {total} {r} {words'} {keys'} k h d = record {
  read_back = λ e. let f = insert_found b k tag total h scratch [] (sym number ∙ e) in (f.0, left tag ∙ ap found_as f.1);
  others = λ t i ne. left t ∙ ap found_as (others_kept b k (insert tag total) scratch h t i ne [] []);
  kept = λ ne.
      let u = demands.unchanged (edit (insert tag total)) (lent words keys scratch) (λ e. ne (number ∙ e)) in
      (ap (λ (s : Slices). s.words) d.leaves ∙ u.0, ap (λ (s : Slices). s.keys) d.leaves ∙ u.1);
}
  where
    b : Block
    b = record { words = words; keys = keys }

    number : r.number ≡ (told_by (run (edit (insert tag total)) (lent words keys scratch)).answer).number
    number = ap (λ (a : DirectoryChanged). a.number) d.is

    left : (t : List ℕ) → look words' keys' t ≡ look (run (edit (insert tag total)) (lent words keys scratch)).slices.words (run (edit (insert tag total)) (lent words keys scratch)).slices.keys t
    left t = ap (λ (s : Slices). look s.words s.keys t) d.leaves
