-- An answer that is a refusal carries nothing beside its number; and a leaf's tag is as long as its facts say, both by the leaf's own record.
use Prim.Native.Nat.{ℕ, zero, suc, ◌+◌, ◌-◌, ◌*◌, ◌≤◌, ◌<◌}
use mathlib.Core.Path.{◌≡◌, refl, sym, ap, ◌∙◌}
use mathlib.Core.Logic.{◌≢◌}
use mathlib.Core.List.{List, []}
use mathlib.Core.Bool.{Bool, true, false}
use native.Mathlib.Decide.{dec_le}
use native.Mathlib.Omega.{arith}
use Rattle.std.specs.Prelude.{Ok, Err}
use Rattle.refusals.specs.Refusal.{number_of, number_in}
use Rattle.refusals.specs.declared.Refusal.TheVariants.{Damaged}
use Rattle.leaves.specs.Leaf.{LeafState, leaf_state, facts_from, facts_of, len_from, tag_len, tag_of}
use lib.ListN.{length, take, drop, length-take}
use Rattle.lists.specs.Part.{between}
use Rattle.lists.proofs.Parts.{between_length}
use Rattle.frames.specs.Frame.{FrameOf, frame_fits, frame}
use Rattle.frames.specs.Place.{record_at, key_at}
use Rattle.frames.specs.declared.frame.Frame.{Frame}
use Rattle.art.specs.Stores.{leaf_place}
use Rattle.tree.specs.Answer.{facts_length}
use Rattle.tree.proofs.Arrivals.{frame_out}
use Rattle.leaves.proofs.Leaves.{tag_short, tag_part, facts_by, len_by, tag_by}
use Rattle.demands.specs.Calls as calls
use Rattle.demands.specs.Calls.{Call, query, leaf_facts, leaf_tag, Slices, Answer, run}
use Rattle.demands.specs.Told.{Told, only, with_tag, told_by, number}

-- ── a refusal ──
-- where the number is not 0, nothing else is told
abbrev Bare : Told → Type 0
Bare t = t.number ≢ 0 → t ≡ only t.number

done : {X : Type 0} → ◌≢◌ {A = ℕ} 0 0 → X
done h = absurd (h refl)

refused : (m : ℕ) → Bare (only m)
refused m h = refl

bare : (a : Answer) → Bare (told_by a)
bare (calls.started a) = refused (number_in a)
bare (calls.found (Ok leaf)) = done
bare (calls.found (Err refusal)) = refused (number_of refusal)
bare (calls.facts (Ok facts)) = done
bare (calls.facts (Err refusal)) = refused (number_of refusal)
bare (calls.tag t) = done
bare (calls.checked a) = refused (number_in a)
bare (calls.after (Ok leaf)) = done
bare (calls.after (Err refusal)) = refused (number_of refusal)
bare (calls.totalled (Ok t)) = done
bare (calls.totalled (Err refusal)) = refused (number_of refusal)
bare (calls.inserted (Ok before)) = done
bare (calls.inserted (Err refusal)) = refused (number_of refusal)
bare (calls.deleted (Ok total)) = done
bare (calls.deleted (Err refusal)) = refused (number_of refusal)

-- a refused call tells its number, a leaf number, length and total of 0, and an empty tag, whatever the memory holds
pub refused_told : (c : Call) (s : Slices) → number c s ≢ 0 → told_by (run c s).answer ≡ only (number c s)
refused_told c s = bare (run c s).answer

-- ── a leaf's length ──
-- the key bytes have the whole tag
pub tag_long : {f : Frame} {words keys : List ℕ} → FrameOf f words keys → (n : ℕ) → length (take (tag_len f words keys n) (key_at f keys n)) ≡ tag_len f words keys n
tag_long {f} {words} {keys} w n = go (tag_len f words keys n) (λ h. tag_short w n h)
  where
    go : (m : ℕ) → (0 < m → (m ≤ f.form.limit) × (n * f.form.limit + f.form.limit ≤ length keys)) → length (take m (key_at f keys n)) ≡ m
    go zero h = omega (arith, length-take 0 (key_at f keys n))
    go (suc m) h =
        let a = n * f.form.limit in
        let s = h (omega arith) in
        omega (arith, length-take (suc m) (key_at f keys n), between_length keys a (a + f.form.limit) (omega arith) s.1, s.0)

facts_len : (rec : List ℕ) (x : LeafState) → len_from rec x ≡ facts_length (facts_from rec x)
facts_len rec (Ok start) = refl
facts_len rec (Err refusal) = refl

-- the tag that the one call on a leaf number gives has the length that the other tells, 0 where it is refused, whatever the memory holds
pub tag_facts : (n : ℕ) (s : Slices) → (told_by (run (query (leaf_tag n)) s).answer).length ≡ (told_by (run (query (leaf_facts n)) s).answer).length
tag_facts n s = go (frame_fits s.words s.keys) refl
  where
    go : (b : Bool) → frame_fits s.words s.keys ≡ b → length (tag_of s.words s.keys n) ≡ facts_length (facts_of s.words s.keys n)
    go true e =
        let f = frame s.words in
        let w : FrameOf f s.words s.keys = record { read = refl; fits = e } in
        let rec = record_at f s.words (leaf_place n) in
        let x = leaf_state f s.words s.keys n in
        ap length (sym (tag_by w n _ refl)) ∙ tag_long w n ∙ sym (len_by w n x refl) ∙ facts_len rec x ∙ ap facts_length (facts_by w n x refl)
    go false e = ap length (sym (frame_out s.words s.keys (λ f. take (tag_len f s.words s.keys n) (key_at f s.keys n)) [] e))
        ∙ ap facts_length (frame_out s.words s.keys (λ f. facts_from (record_at f s.words (leaf_place n)) (leaf_state f s.words s.keys n)) (Err Damaged) e)

-- and it is that part of the key bytes, from the leaf's own first one on
pub tag_part_told : (n : ℕ) (s : Slices) → let at : ℕ = n * (frame s.words).form.limit in let m : ℕ = (told_by (run (query (leaf_facts n)) s).answer).length in
    told_by (run (query (leaf_tag n)) s).answer ≡ with_tag (between s.keys at (at + m)) (only 0)
tag_part_told n s = ap (λ (b : List ℕ). with_tag b (only 0)) (is ∙ ap (λ (j : ℕ). between s.keys at (at + j)) (tag_facts n s))
  where
    at : ℕ
    at = n * (frame s.words).form.limit

    tag : List ℕ
    tag = tag_of s.words s.keys n

    empty : tag ≡ [] → tag ≡ between s.keys at (at + length tag)
    empty e =
        let z : length tag ≡ 0 = ap length e in
        let q : 0 ≡ at + length tag - at = omega arith in
        e ∙ ap (λ (j : ℕ). take j (drop at s.keys)) q

    short : FrameOf (frame s.words) s.words s.keys → tag_len (frame s.words) s.words s.keys n ≤ (frame s.words).form.limit
    short w = pick (dec_le 1 (tag_len (frame s.words) s.words s.keys n))
      where
        pick : Dec (1 ≤ tag_len (frame s.words) s.words s.keys n) → tag_len (frame s.words) s.words s.keys n ≤ (frame s.words).form.limit
        pick (yes h) = (tag_short w n h).0
        pick (no h) = omega arith

    is : tag ≡ between s.keys at (at + length tag)
    is = go (frame_fits s.words s.keys) refl
      where
        go : (b : Bool) → frame_fits s.words s.keys ≡ b → tag ≡ between s.keys at (at + length tag)
        go true e =
            let f = frame s.words in
            let w : FrameOf f s.words s.keys = record { read = refl; fits = e } in
            let same : take (tag_len f s.words s.keys n) (key_at f s.keys n) ≡ tag = tag_by w n _ refl in
            let long : length tag ≡ tag_len f s.words s.keys n = ap length (sym same) ∙ tag_long w n in
            sym same ∙ sym (tag_part w n (tag_len f s.words s.keys n) (short w)) ∙ ap (λ (j : ℕ). between s.keys at (at + j)) (sym long)
        go false e = empty (sym (frame_out s.words s.keys (λ f. take (tag_len f s.words s.keys n) (key_at f s.keys n)) [] e))
