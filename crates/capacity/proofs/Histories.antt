-- From an accepted start with ample capacities every record stays over its mark, so that no insert lacks an inner record.
use Prim.Native.Nat.{ℕ, ◌/◌}
use mathlib.Core.Path.{◌≡◌, refl, sym, ap, subst, ◌∙◌}
use mathlib.Core.Logic.{◌≢◌}
use mathlib.Core.List.{List, [], ◌∷◌}
use mathlib.Core.Bool.{Bool, true, false}
use native.Mathlib.Omega.{arith}
use Rattle.std.specs.Prelude.{Ok, Err}
use Rattle.refusals.specs.declared.Refusal.TheVariants.{Unfit}
use lib.ListN.{length}
use Rattle.frames.specs.Kind.{kind_row, mark_of}
use Rattle.frames.specs.Frame.{frame}
use Rattle.frames.specs.declared.frame.Caps.{Caps}
use Rattle.frames.specs.declared.frame.Frame.{Frame}
use Rattle.art.specs.Tags.{Tag}
use Rattle.art.specs.Deletes.{held}
use Rattle.art.specs.Stores.{inner_place}
use Rattle.art.specs.Points.{store_of}
use Rattle.art.specs.Verdicts.{judge}
use Rattle.pools.specs.Start as start-call
use Rattle.pools.specs.Start.{start_fits_in, start_of}
use Rattle.view.proofs.Starts.{start_refused, start_done, start_empty}
use Rattle.reading.specs.Answers.{Bytes}
use Rattle.insert.specs.Room.{LeavesFull, Lacking, Answers}
use Rattle.insert.specs.Insert as insert-call
use Rattle.insert.proofs.Refusals.{plan_answers}
use Rattle.insert.proofs.Calls.{short_fits}
use Rattle.insert.proofs.Sounds.{insert_grown}
use Rattle.insert.proofs.Overs.{over_altered}
use Rattle.delete.specs.Delete as delete-call
use Rattle.delete.proofs.Sounds.{delete_without}
use Rattle.demands.specs.Calls.{Call, start, query, ask, edit, insert, delete, run}
use Rattle.demands.specs.Told.{number}
use Rattle.demands.specs.Histories.{Block, Turn, lent, next, after_all, CallBytes, AllBytes}
use Rattle.demands.specs.Frames.{NoStart}
use Rattle.demands.proofs.Cases.{insert_cases, delete_cases}
use Rattle.demands.proofs.Frames.{frame_kept, kept_frame}
use Rattle.demands.proofs.KeyBytes.{start_bytes}
use Rattle.demands.proofs.Steps.{step_bytes}
use Rattle.capacity.specs.Capacity.{Ample, AmpleFrame, AmpleCaps, AmpleCall, AmpleStarts, Over, Tight}
use Rattle.capacity.proofs.Rooms.{tight_block, tight_never_lacks}
use Rattle.capacity.proofs.Numbers.{not_five}
use Rattle.capacity.proofs.Steps.{put_tight, left_tight, over_tight}

-- the capacities of n tags, rounded down
pub usual_ample : (n : ℕ) → Ample n (n / 4) (n / 16) (n / 48) n
unfolding kind_row
usual_ample n = record { ones = omega arith; twos = omega arith; threes = omega arith; fours = omega arith }

-- ── one call ──
abbrev TightAfter : (words keys : List ℕ) → Type 0
TightAfter words keys = Tight (frame words) words keys

module _ (words keys : List ℕ) (tight : TightAfter words keys) (ample : AmpleFrame (frame words)) where
  insert_tight : (scratch tag : List ℕ) (total : ℕ) → Bytes tag → Bytes keys → let o = insert-call.insert_of words keys scratch tag total in TightAfter o.words o.keys
  insert_tight scratch tag total bytes key-bytes =
      insert_cases words keys tag total (λ o. TightAfter o.words o.keys) (λ a r e. tight)
      (λ r s short site n gap e.
      let z = insert_grown s tag bytes key-bytes (short_fits words keys tag s.fits short) site n gap total e in
      let free : ¬ LeavesFull (frame words) (store_of s.tree) =
      (subst (Answers (judge tag (held s.tree)) (LeavesFull (frame words) (store_of s.tree)) (Lacking (frame words) s.tree tag)) e (plan_answers s tag bytes)).1 in
      tight_block z.0 (put_tight s tag bytes tight ample free (record { number = n; total = total }) z.0.tree z.1))
      (λ r s leaf e. let z = over_altered s tag bytes leaf e total in tight_block z.0 (over_tight s tag bytes tight ample total z.0.tree z.1)) scratch

  delete_tight : (scratch tag : List ℕ) → Bytes tag → let o = delete-call.delete_of words keys scratch tag in TightAfter o.words o.keys
  delete_tight scratch tag bytes =
      delete_cases words keys tag (λ o. TightAfter o.words o.keys) (λ a r e. tight)
      (λ r s cut n gap e. let z = delete_without s tag bytes cut n gap e in tight_block z.0 (left_tight s tag bytes tight ample z.0.tree z.1)) scratch

-- an accepted start: nothing is used, and the frame has the capacities
started_ample : (words keys : List ℕ) (form : ℕ) (c : Caps) → start_fits_in form c (length words) (length keys) ≡ true → AmpleCaps c
    → let o = start_of words keys form c in AmpleFrame (frame o.words) × TightAfter o.words o.keys
started_ample words keys form c e ample =
    let z = start_empty words keys form c e in
    let o = start_of words keys form c in
    (subst AmpleFrame z.frame.read ample, subst (λ (f : Frame). Tight f o.words o.keys) z.frame.read (λ k n. subst (Over (mark_of k)) (sym (z.cells (inner_place k n))) tt))

-- what stays from call to call
record Kept (words keys : List ℕ) : Type 0 where
  ample : AmpleFrame (frame words)
  tight : TightAfter words keys

module _ (b : Block) (k : Kept b.words b.keys) (bytes : Bytes b.keys) where
  start_keeps : (form : ℕ) (c : Caps) → ((start_of b.words b.keys form c).answer ≡ Ok tt → AmpleCaps c) → let o = start_of b.words b.keys form c in Kept o.words o.keys
  start_keeps form c h = go (start_fits_in form c (length b.words) (length b.keys)) refl
    where
      go : (t : Bool) → start_fits_in form c (length b.words) (length b.keys) ≡ t → let o = start_of b.words b.keys form c in Kept o.words o.keys
      go true e = let z = started_ample b.words b.keys form c e (h (start_done b.words b.keys form c e)) in record { ample = z.0; tight = z.1 }
      go false e = subst (λ (o : start-call.Out). Kept o.words o.keys) (sym (start_refused b.words b.keys form c e)) k

  -- the frame stays
  framed : (c : Call) (scratch : List ℕ) → NoStart c → CallBytes c → let o = (run c (lent b scratch)).slices in TightAfter o.words o.keys → Kept o.words o.keys
  framed c scratch n h tight = record { ample = subst AmpleFrame (sym (kept_frame (frame_kept c n h (lent b scratch) bytes))) k.ample; tight = tight }

  step_kept : (t : Turn) → CallBytes t.call → AmpleCall t.call (lent b t.scratch) → Kept (next b t).words (next b t).keys
  step_kept t h a = go t.call h a
    where
      go : (c : Call) → CallBytes c → AmpleCall c (lent b t.scratch) → let o = (run c (lent b t.scratch)).slices in Kept o.words o.keys
      go (start form c) h a = start_keeps form c a
      go (query q) h a = k
      go (ask q) h a = k
      go (edit (insert u total)) h a = framed (edit (insert u total)) t.scratch tt h (insert_tight b.words b.keys k.tight k.ample t.scratch u total h bytes)
      go (edit (delete u)) h a = framed (edit (delete u)) t.scratch tt h (delete_tight b.words b.keys k.tight k.ample t.scratch u h)

-- ── any calls ──
all_kept : (b : Block) → Kept b.words b.keys → Bytes b.keys → (ts : List Turn) → AllBytes ts → AmpleStarts b ts → Kept (after_all b ts).words (after_all b ts).keys
all_kept b k bytes [] h a = k
all_kept b k bytes (t ∷ ts) h a = all_kept (next b t) (step_kept b k bytes t h.0 a.0) (step_bytes b bytes t h.0) ts h.1 a.1

module _ (b : Block) (form : ℕ) (c : Caps) (scratch : List ℕ) (done : (start_of b.words b.keys form c).answer ≡ Ok tt) (ample : AmpleCaps c) (ts : List Turn) (bytes : AllBytes ts)
    (starts : AmpleStarts (next b (record { call = start form c; scratch = scratch })) ts) where
  -- the block after the start, and after the calls
  abbrev first : Block
  first = next b (record { call = start form c; scratch = scratch })

  abbrev last : Block
  last = after_all first ts

  done_fits : start_fits_in form c (length b.words) (length b.keys) ≡ true
  done_fits = go (start_fits_in form c (length b.words) (length b.keys)) refl
    where
      go : (t : Bool) → start_fits_in form c (length b.words) (length b.keys) ≡ t → start_fits_in form c (length b.words) (length b.keys) ≡ true
      go true e = e
      go false e =
          let z : (Err Unfit) ≡ Ok tt = ap (λ (o : start-call.Out). o.answer) (sym (start_refused b.words b.keys form c e)) ∙ done in
          absurd (let y : ◌≡◌ {A = ℕ} 8 0 = ap start-call.start_number z in omega arith)

  last_kept : Kept last.words last.keys
  last_kept =
      let z = started_ample b.words b.keys form c done_fits ample in
      all_kept first (record { ample = z.0; tight = z.1 }) (start_bytes b.words b.keys form c done) ts bytes starts

  -- the capacities are ample still
  pub ample_frame : AmpleFrame (frame last.words)
  ample_frame = last_kept.ample

  -- every record is in the smallest kind that holds its children
  pub ample_tight : Tight (frame last.words) last.words last.keys
  ample_tight = last_kept.tight

  -- and no insert gives 5
  pub ample_never_five : (tag : Tag) (total : ℕ) (more : List ℕ) → Bytes tag → number (edit (insert tag total)) (lent last more) ≢ 5
  ample_never_five tag total more tag_bytes =
      not_five (lent last more) tag total tag_bytes (λ z. tight_never_lacks z tag tag_bytes ample_tight ample_frame)
