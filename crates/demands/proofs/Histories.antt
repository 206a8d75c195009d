-- From an accepted start on, any calls leave a sound block that the accepted ones define: each step does, and a later accepted start begins anew.
use Prim.Native.Nat.{ℕ, zero, suc, ◌+◌}
use mathlib.Core.Path.{◌≡◌, refl, sym, ap, subst, ◌∙◌}
use mathlib.Core.List.{List, [], ◌∷◌}
use native.Mathlib.Omega.{arith}
use Rattle.std.specs.Prelude.{Ok, Err}
use Rattle.refusals.proofs.Numbers.{refused_number}
use Rattle.pools.specs.Start.{Started, start_number, start_of}
use lib.ListN.{length}
use Rattle.art.specs.Tags.{Listing}
use Rattle.art.specs.Drawings.{draw}
use Rattle.art.specs.Deletes.{held}
use Rattle.art.specs.Facts.{branchings}
use Rattle.reading.specs.Answers.{Bytes}
use Rattle.whole.specs.Sound.{Sound}
use Rattle.demands.specs.Calls.{Call, start, query, ask, edit, run}
use Rattle.reading.specs.Listing.{totals}
use Rattle.demands.specs.Histories.{Block, lent, Turn, after_all, CallBytes, AllBytes}
use Rattle.demands.specs.Listed.{holds}
use Rattle.demands.specs.Story.{Story}
use Rattle.demands.specs.Ledger.{Ledger, ledger, accepted}
use Rattle.demands.specs.Programs as programs
use Rattle.demands.specs.Programs.{Program, seen, number_by, next_by, Reached}
use Rattle.demands.proofs.Reading.{reading_meets}
use Rattle.demands.proofs.Listed.{listed_by}
use Rattle.demands.proofs.Totals.{totals_length}
use Rattle.demands.proofs.Drawings.{drawing_held}
use Rattle.demands.proofs.Edits.{Tallied, edit_changes}
use Rattle.demands.proofs.Steps.{start_sound}
use Rattle.demands.proofs.KeyBytes.{start_bytes}
use Rattle.demands.proofs.Refusals.{refused_same}
use Rattle.demands.proofs.Inner.{used_inner_drawn}

-- ── from call to call ──
record Kept (b : Block) (k : Ledger) : Type 0 where
  sound : Sound b.words b.keys
  bytes : Bytes b.keys
  list : totals (holds sound) ≡ k.list
  tallied : Tallied k

started_done : (a : Started) → start_number a ≡ 0 → a ≡ Ok tt
started_done (Ok tt) e = refl
started_done (Err refusal) e = absurd (refused_number refusal e)

reached_kept : {b : Block} {k : Ledger} → Reached (seen run) b k → Kept b k
reached_kept (programs.fresh b form c r e) =
    let done = started_done (start_of b.words b.keys form c).answer e in
    let z = start_sound b.words b.keys form c done in
    record { sound = z.0; bytes = start_bytes b.words b.keys form c done; list = ap (λ d. totals (held d)) z.1; tallied = refl }
reached_kept (programs.changed {b} {k} y e h r a) =
    let x = reached_kept y in
    let c = edit_changes e (lent b r) h x.bytes a x.sound in
    record { sound = c.after; bytes = c.bytes; list = c.enters k x.list; tallied = c.tallies k x.list x.tallied }
reached_kept (programs.refused {b} {k} y c r ne) =
    let q = refused_same c (lent b r) ne in
    subst (λ (d : Block). Kept d k) (λ i. record { words = sym q.0 i; keys = sym q.1 i }) (reached_kept y)
reached_kept (programs.queried y q r) = reached_kept y
reached_kept (programs.asked y a r) = reached_kept y

-- ── the story of a block that calls lead to ──
pub history : {b : Block} {k : Ledger} → Reached (seen run) b k → Story b k
history {b} {k} y =
    let x = reached_kept y in
    let s = x.sound in
    record {
      sound = s;
      bytes = x.bytes;
      totals_are = x.list;
      reads = reading_meets s;
      listed = λ c h r. listed_by (lent b r) s c h;
      draws = drawing_held s ∙ ap draw x.list;
      inner = used_inner_drawn s ∙ ap (λ (l : Listing ℕ). branchings (draw l)) x.list;
      count = ap (λ (n : ℕ). n + k.deletes) (s.count ∙ sym (totals_length (holds s)) ∙ ap length x.list) ∙ x.tallied;
    }

-- ── and every call leads on, of any program ──
pub leads_on : (p : Program) {b : Block} {k : Ledger} → Reached p b k → (c : Call) → CallBytes c → (r : List ℕ) → (k' : Ledger) × Reached p (next_by p b c r) k'
leads_on p {b} {k} y c h r = go c h (number_by p c (lent b r)) refl
  where
    go : (c : Call) → CallBytes c → (n : ℕ) → number_by p c (lent b r) ≡ n → (k' : Ledger) × Reached p (next_by p b c r) k'
    go (start form c) h zero e = (ledger [] 0 0, programs.fresh b form c r e)
    go (start form c) h (suc n) e = (k, programs.refused y (start form c) r (λ z. omega (arith, e)))
    go (query q) h n e = (k, programs.queried y q r)
    go (ask a) h n e = (k, programs.asked y a r)
    go (edit x) h zero e = (accepted x k, programs.changed y x h r e)
    go (edit x) h (suc n) e = (k, programs.refused y (edit x) r (λ z. omega (arith, e)))

-- so any calls lead to a block with its story
pub all_reached : {b : Block} {k : Ledger} → Reached (seen run) b k → (ts : List Turn) → AllBytes ts → (k' : Ledger) × Reached (seen run) (after_all b ts) k'
all_reached {b} {k} y [] h = (k, y)
all_reached {b = b} {k = k} y (t ∷ ts) h = all_reached {b = next_by (seen run) b t.call t.scratch} (leads_on (seen run) y t.call h.0 t.scratch).1 ts h.1
