-- Each contract is one equation that gives the answer and the slices at exit, so two outcomes that it allows are the same one.
use mathlib.Core.Path.{◌≡◌, refl, sym, ap, ◌∙◌}
use Rattle.pools.specs.Start as start-call
use Rattle.whole.specs.Check as check-call
use Rattle.range.specs.Range as after_call
use Rattle.stations.specs.Stations as station-call
use Rattle.insert.specs.Insert as insert-call
use Rattle.delete.specs.Delete as delete-call
use Rattle.demands.specs.Calls.{Call, start, query, ask, edit, check, first_at_or_after, station_total, insert, delete, Slices, Answer, Outcome, outcome, read, started, checked, after, totalled, inserted, deleted, Promise, run}

-- what a contract allows is the outcome that `run` gives
only : (c : Call) (s : Slices) (o : Outcome) → Promise c s o → o ≡ run c s
unfolding after_call.after_of station-call.total_of
only (start form c) s o p = p.1 ∙ ap (λ (x : start-call.Out). outcome (started x.answer) x.words x.keys s.scratch) p.2
only (query q) s o p = p.1 ∙ ap (λ (a : Answer). read a s) p.2
only (ask check) s o p = p.1 ∙ ap (λ (x : check-call.Answer). outcome (checked x.result) s.words s.keys x.scratch) p.2
only (ask (first_at_or_after t)) s o p = p.1 ∙ ap (λ (x : after_call.Answer). outcome (after x.result) s.words s.keys x.scratch) p.2
only (ask (station_total t)) s o p = p.1 ∙ ap (λ (x : station-call.Answer). outcome (totalled x.result) s.words s.keys x.scratch) p.2
only (edit (insert t total)) s o p = p.1 ∙ ap (λ (x : insert-call.Out). outcome (inserted x.answer) x.words x.keys x.scratch) p.2
only (edit (delete t)) s o p = p.1 ∙ ap (λ (x : delete-call.Out). outcome (deleted x.answer) x.words x.keys x.scratch) p.2

-- of every public call two outcomes that its promise allows are equal
pub one_outcome : (c : Call) (s : Slices) (o o' : Outcome) → Promise c s o → Promise c s o' → o ≡ o'
one_outcome c s o o' p q = only c s o p ∙ sym (only c s o' q)

-- and there is one
pub promised : (c : Call) (s : Slices) → Promise c s (run c s)
unfolding after_call.after_of station-call.total_of
promised (start form c) s = ((start-call.start_of s.words s.keys form c).answer, refl, refl)
promised (query q) s = (_, refl, refl)
promised (ask check) s = ((check-call.check_of s.words s.keys s.scratch).result, refl, refl)
promised (ask (first_at_or_after t)) s = ((after_call.after_of s.words s.keys s.scratch t).result, refl, refl)
promised (ask (station_total t)) s = ((station-call.total_of s.words s.keys s.scratch t).result, refl, refl)
promised (edit (insert t total)) s = ((insert-call.insert_of s.words s.keys s.scratch t total).answer, refl, refl)
promised (edit (delete t)) s = ((delete-call.delete_of s.words s.keys s.scratch t).answer, refl, refl)
