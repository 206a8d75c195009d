-- The slots of kind 3 after a call as it is run: its outcome is that of a plan on a sound block, or the words as they were.
use Prim.Native.Nat.{ℕ, ◌<◌}
use mathlib.Core.Path.{◌≡◌, refl, sym, ap, subst, ◌∙◌}
use mathlib.Core.Logic.{◌≢◌}
use mathlib.Core.List.{List}
use mathlib.Core.Bool.{true}
use native.Mathlib.Omega.{arith}
use native.Mathlib.Decide.{ℕ_discrete, dec_lt}
use lib.ListN.{length, get_or, set, length-set}
use lib.Seq.{get_or-set_same, get_or-set_other}
use Rattle.frames.specs.Frame.{frame}
use Rattle.frames.specs.Place.{in_pool}
use Rattle.frames.specs.declared.frame.Frame.{Frame}
use Rattle.art.specs.Tags.{Tag}
use Rattle.art.specs.Stores.{inner_place}
use Rattle.reading.specs.Answers.{Bytes}
use Rattle.whole.specs.Sound.{Sound}
use Rattle.insert.proofs.Calls.{short_fits}
use Rattle.demands.specs.Calls.{edit, insert, delete, run}
use Rattle.demands.specs.Histories.{Block}
use Rattle.demands.specs.Programs.{seen, next_by}
use Rattle.slots.specs.Slots.{Slotted, slotted_at, LowestSlot, SlotsIn, in_kept, in_added, in_moved, in_branched, in_freed, SlotsOut, out_kept, out_removed, out_moved, out_freed, StaysIn, StaysOut}
use Rattle.demands.proofs.Cases.{insert_cases, delete_cases}
use Rattle.slots.proofs.Bodies.{past_end}
use Rattle.slots.proofs.Inserts.{new_in, over_in}
use Rattle.slots.proofs.Deletes.{gone_out}

-- the slots of every record of kind 3 after an insert on a sound block, accepted or not.
-- A child that is added in place takes the lowest unused slot, and every other byte keeps its slot.
-- The children of a record that moves in have slots 1, 2, .. in byte order, and the new child has the next. A new branching has slots 1 and 2 in byte order.
pub insert_slots : (b : Block) → Sound b.words b.keys → Bytes b.keys → (t : Tag) (total : ℕ) → Bytes t → (q : List ℕ)
    → let f = frame b.words in let b' = next_by (seen run) b (edit (insert t total)) q in (n : ℕ) → in_pool f (inner_place 3 n) ≡ true → SlotsIn f b.words b'.words n
insert_slots b z k t total h q n hx =
    insert_cases b.words b.keys t total (λ o. SlotsIn (frame b.words) b.words o.words n) (λ a r e. in_kept refl)
    (λ r s short site leaf gap e. new_in z t h n hx k (short_fits b.words b.keys t z.fits short) leaf site gap total e) (λ r s leaf e. over_in z t h n hx leaf total e) q

-- the slots of every record of kind 3 after a delete on a sound block, accepted or not.
-- A child that is taken out in place clears its byte's slot, and every other byte keeps its slot. The children of a record that moves in have slots 1, 2, .. in byte order.
pub delete_slots : (b : Block) → Sound b.words b.keys → (t : Tag) → Bytes t → (q : List ℕ)
    → let f = frame b.words in let b' = next_by (seen run) b (edit (delete t)) q in (n : ℕ) → in_pool f (inner_place 3 n) ≡ true → SlotsOut (slotted_at f b.words n) (slotted_at f b'.words n)
delete_slots b z t h q n hx =
    delete_cases b.words b.keys t (λ o. SlotsOut (slotted_at (frame b.words) b.words n) (slotted_at (frame b.words) o.words n)) (λ a r e. out_kept refl) (λ r s cut leaf gap e. gone_out z t h n hx cut leaf gap e) q

-- ── in use before and after ──
-- a slot number that is written, read back: where the byte is past the end there is none
set_read : (l : List ℕ) (b v : ℕ) → get_or (set l b v) b 0 ≢ 0 → get_or (set l b v) b 0 ≡ v
set_read l b v some_slot = go (dec_lt b (length l))
  where
    go : Dec (b < length l) → get_or (set l b v) b 0 ≡ v
    go (yes h) = get_or-set_same l b v 0 h
    go (no h) = absurd (some_slot (past_end (set l b v) b (omega (arith, length-set l b v))))

added_stays : (l : List ℕ) (b k : ℕ) → get_or l b 0 ≡ 0 → LowestSlot l k → StaysIn l (set l b k)
added_stays l b k empty least = record { keeps = λ c h. get_or-set_other l b c k 0 (λ e. h (ap (λ (i : ℕ). get_or l i 0) e ∙ empty)); takes = λ c z h. take c z h (ℕ_discrete c b) }
  where
    take : (c : ℕ) → get_or l c 0 ≡ 0 → get_or (set l b k) c 0 ≢ 0 → Dec (c ≡ b) → LowestSlot l (get_or (set l b k) c 0)
    take c z h (yes e) = subst (LowestSlot l) (sym (ap (λ (i : ℕ). get_or (set l b k) i 0) e ∙ set_read l b k (λ q. h (ap (λ (i : ℕ). get_or (set l b k) i 0) e ∙ q)))) least
    take c z h (no ne) = absurd (h (get_or-set_other l b c k 0 ne ∙ z))

kept_stays : {l m : List ℕ} → m ≡ l → StaysIn l m
kept_stays {l} {m} e = record { keeps = λ b h. ap (λ (k : List ℕ). get_or k b 0) e; takes = λ b z h. absurd (h (ap (λ (k : List ℕ). get_or k b 0) e ∙ z)) }

in_stays : {f : Frame} {words words' : List ℕ} {n : ℕ} → let before = slotted_at f words n in let after = slotted_at f words' n in
    before.used ≢ 0 → after.used ≢ 0 → SlotsIn f words words' n → StaysIn before.slots after.slots
in_stays u v (in_kept e) = kept_stays (ap (λ (s : Slotted). s.slots) e)
in_stays {f} {words} {words'} {n} u v (in_added b k low used empty least e) =
    let l = (slotted_at f words n).slots in
    subst (StaysIn l) (sym (ap (λ (s : Slotted). s.slots) e)) (added_stays l b k empty least)
in_stays u v (in_moved k m b row free pool used gone r low empty e) = absurd (u free)
in_stays u v (in_branched row free two c e) = absurd (u free)
in_stays u v (in_freed used e) = absurd (v (ap (λ (s : Slotted). s.used) e))

removed_stays : (l : List ℕ) (b : ℕ) → StaysOut l (set l b 0)
removed_stays l b c h = go (ℕ_discrete c b)
  where
    go : Dec (c ≡ b) → get_or (set l b 0) c 0 ≡ get_or l c 0
    go (yes e) =
        let same : get_or (set l b 0) c 0 ≡ get_or (set l b 0) b 0 = ap (λ (i : ℕ). get_or (set l b 0) i 0) e in
        absurd (h (same ∙ set_read l b 0 (λ q. h (same ∙ q))))
    go (no ne) = get_or-set_other l b c 0 0 ne

out_stays : {before after : Slotted} → before.used ≢ 0 → after.used ≢ 0 → SlotsOut before after → StaysOut before.slots after.slots
out_stays u v (out_kept e) = λ b h. ap (λ (s : Slotted). get_or s.slots b 0) e
out_stays {before} u v (out_removed b low used had e) = subst (StaysOut before.slots) (sym (ap (λ (s : Slotted). s.slots) e)) (removed_stays before.slots b)
out_stays u v (out_moved row free c e) = absurd (u free)
out_stays u v (out_freed used e) = absurd (v (ap (λ (s : Slotted). s.used) e))

-- a record of kind 3 that is in use before and after an insert: a byte that had a slot keeps it, and a byte that has one only now took the lowest that was unused
pub insert_in_place : (b : Block) → Sound b.words b.keys → Bytes b.keys → (t : Tag) (total : ℕ) → Bytes t → (q : List ℕ)
    → let f = frame b.words in let b' = next_by (seen run) b (edit (insert t total)) q in (n : ℕ) → in_pool f (inner_place 3 n) ≡ true
    → let before = slotted_at f b.words n in let after = slotted_at f b'.words n in before.used ≢ 0 → after.used ≢ 0 → StaysIn before.slots after.slots
insert_in_place b z k t total h q n hx u v = in_stays u v (insert_slots b z k t total h q n hx)

-- a record of kind 3 that is in use before and after a delete: a byte keeps its slot, or has none
pub delete_in_place : (b : Block) → Sound b.words b.keys → (t : Tag) → Bytes t → (q : List ℕ)
    → let f = frame b.words in let b' = next_by (seen run) b (edit (delete t)) q in (n : ℕ) → in_pool f (inner_place 3 n) ≡ true
    → let before = slotted_at f b.words n in let after = slotted_at f b'.words n in before.used ≢ 0 → after.used ≢ 0 → StaysOut before.slots after.slots
delete_in_place b z t h q n hx u v = out_stays u v (delete_slots b z t h q n hx)
