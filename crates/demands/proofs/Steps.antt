-- What calls leave from one to the next: an accepted start leaves a sound block that holds nothing, and key bytes stay bytes.
use Prim.Native.Nat.{ℕ}
use mathlib.Core.Path.{◌≡◌, refl, sym, ap, subst, ◌∙◌, fun_ext}
use mathlib.Core.Logic.{if_pos}
use mathlib.Core.List.{List, []}
use mathlib.Core.Option.{none}
use mathlib.Core.Bool.{Bool, true, false}
use native.Mathlib.Decide.{ℕ_discrete}
use Rattle.std.specs.Prelude.{Ok, Err}
use Rattle.refusals.specs.declared.Refusal.TheVariants.{Unfit}
use Rattle.pools.specs.Start.{Started, start_fits_in, start_of}
use lib.ListN.{length}
use Rattle.frames.specs.declared.frame.Caps.{Caps}
use Rattle.frames.specs.declared.frame.Frame.{Frame}
use Rattle.art.specs.Points.{store_of}
use Rattle.art.specs.Chain.{Linked}
use Rattle.pools.specs.Start as start-call
use Rattle.view.specs.Empty.{Empty}
use Rattle.view.specs.Links.{links_of}
use Rattle.view.proofs.Starts.{start_refused, start_done, start_empty}
use Rattle.reading.specs.Answers.{Bytes}
use Rattle.whole.specs.Sound.{Sound}
use Rattle.states.specs.State.{State}
use Rattle.states.proofs.Sounds.{state_sound}
use Rattle.demands.specs.Calls.{Call, start, query, ask, edit, run}
use Rattle.demands.specs.Histories.{Block, Turn, lent, next, CallBytes}
use Rattle.demands.proofs.Cases.{refused_done}
use Rattle.demands.proofs.KeyBytes.{start_bytes}
use Rattle.demands.proofs.Edits.{edit_either}

-- ── an empty block ──
pub empty_sound : {f : Frame} {words keys : List ℕ} → Empty f words keys → (s : Sound words keys) × (s.tree ≡ none)
unfolding links_of
empty_sound {f} {words} {keys} e = state_sound none shown tt tt refl ends refl
  where
    shown : State f words keys (store_of none) (links_of f words) 0 0
    shown =
        record {
          frame = e.frame;
          cells = fun_ext e.cells;
          rules = λ x u. absurd u;
          free = λ x p q. e.blank x p;
          links_are = refl;
          root_is = e.root;
          count_is = e.count;
        }

    ends : Linked (links_of f words) 0 []
    ends = (if_pos (ℕ_discrete 0 0) refl _ _ ∙ e.first, e.last)

-- an accepted start makes one, whatever was there
pub start_sound : (words keys : List ℕ) (form : ℕ) (c : Caps) → (start_of words keys form c).answer ≡ Ok tt → let o = start_of words keys form c in (s : Sound o.words o.keys) × (s.tree ≡ none)
start_sound words keys form c done = go (start_fits_in form c (length words) (length keys)) refl
  where
    go : (b : Bool) → start_fits_in form c (length words) (length keys) ≡ b → let o = start_of words keys form c in (s : Sound o.words o.keys) × (s.tree ≡ none)
    go true e = empty_sound (start_empty words keys form c e)
    go false e = let z : ◌≡◌ {A = Started} (Err Unfit) (Ok tt) = ap (λ (o : start-call.Out). o.answer) (sym (start_refused words keys form c e)) ∙ done in absurd (refused_done z)

-- ── key bytes ──
start_keeps : (words keys : List ℕ) (form : ℕ) (c : Caps) → Bytes keys → Bytes (start_of words keys form c).keys
start_keeps words keys form c k = go (start_fits_in form c (length words) (length keys)) refl
  where
    go : (b : Bool) → start_fits_in form c (length words) (length keys) ≡ b → Bytes (start_of words keys form c).keys
    go true e = start_bytes words keys form c (start_done words keys form c e)
    go false e = subst (λ (o : start-call.Out). Bytes o.keys) (sym (start_refused words keys form c e)) k

-- key bytes stay bytes in every call
pub step_bytes : (b : Block) → Bytes b.keys → (t : Turn) → CallBytes t.call → Bytes (next b t).keys
step_bytes b k t h = go t.call h
  where
    go : (c : Call) → CallBytes c → Bytes (run c (lent b t.scratch)).slices.keys
    go (start form c) h = start_keeps b.words b.keys form c k
    go (query q) h = k
    go (ask a) h = k
    go (edit e) h = edit_either e (lent b t.scratch) h k (λ w keys. Bytes keys) k (λ z w j c. c.bytes)
