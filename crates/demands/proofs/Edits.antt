-- What an edit comes to, on any memory: it is refused and hands the words and key bytes back; or the block was sound and is so again, with what the edit gives for its
-- tag and all else as it was. This is all that the demands ask of an edit's change: one fact for each edit, and the theorems on edits go by it.
use Prim.Native.Nat.{ℕ, ◌+◌, ◌/◌, ◌≤◌}
use mathlib.Core.Path.{◌≡◌, refl, sym, ap, subst, ◌∙◌}
use mathlib.Core.Logic.{◌≢◌, ite}
use mathlib.Core.List.{List, [], ◌∷◌}
use mathlib.Core.Option.{Option, none, some}
use native.Mathlib.Omega.{arith}
use Rattle.std.specs.Prelude.{Ok}
use Rattle.insert.specs.declared.plan.Plan.TheVariants.{New, Over}
use lib.ListN.{length}
use Rattle.frames.specs.Frame.{frame}
use Rattle.records.specs.View.{Held}
use Rattle.art.specs.Tags.{Tag, Listing, tag_dec}
use Rattle.art.specs.Listings.{Every, Sorted, lookup}
use Rattle.art.specs.Puts.{put, alter, leave}
use Rattle.art.specs.Trees.{Tree}
use Rattle.art.specs.Deletes.{held, Sane}
use Rattle.art.proofs.Trees.{sorted}
use Rattle.art.proofs.Counts.{put_length, alter_length, leave_length}
use Rattle.reading.specs.Answers.{Bytes}
use Rattle.whole.specs.Sound.{Sound}
use Rattle.writes.specs.Leaf.{key_in, key_out, total_at}
use Rattle.writes.specs.declared.leaf_node.Gap.{Gap}
use Rattle.insert.specs.Answer as insert-answer
use Rattle.insert.specs.Plan as insert-plan
use Rattle.insert.specs.Apply.{new_words}
use Rattle.insert.specs.Meets.{new_total}
use Rattle.insert.specs.declared.plan.Site.{Site}
use Rattle.insert.proofs.Calls.{short_fits}
use Rattle.insert.proofs.KeyBytes.{key_in_bytes}
use Rattle.delete.specs.Answer as delete-answer
use Rattle.delete.specs.Plan as delete-plan
use Rattle.delete.specs.Apply.{gone_words}
use Rattle.delete.specs.declared.plan.Cut.{Cut}
use Rattle.demands.specs.Calls.{Edit, insert, delete, edit, Slices, run}
use Rattle.demands.specs.Told.{number}
use Rattle.reading.specs.Listing.{totals}
use Rattle.demands.specs.Histories.{tag_of}
use Rattle.demands.specs.Listed.{holds}
use Rattle.demands.specs.Ledger.{Ledger, without, gives, given, accepted}
use Rattle.demands.proofs.Changes.{insert_sound_lem, insert_frame, over_held, over_sound, over_frame, delete_held, delete_sound_lem, delete_frame}
use Rattle.demands.proofs.Cases.{insert_cases, delete_cases}
use Rattle.demands.proofs.KeyBytes.{key_out_bytes}
use Rattle.demands.proofs.Totals.{total_of_lem, totals_sorted, totals_put, totals_alter, totals_lookup}
use Rattle.demands.proofs.Lookups.{put_new, lookup_new, put_held, alter_held, leave_unheld, lookup_put, lookup_alter, put_over}

-- a ledger's list is as long as the inserts less the deletes
abbrev pub Tallied : Ledger → Type 0
Tallied k = length k.list + k.deletes ≡ k.inserts

-- ── what an accepted edit makes of a sound block ──
pub record Changes (e : Edit) {words keys : List ℕ} (z : Sound words keys) (words' keys' : List ℕ) : Type 0 where
  pub after : Sound words' keys'
  pub same_frame : frame words' ≡ frame words
  pub bytes : Bytes keys'
  -- its tag has what it gives, and every other tag its leaf and its total
  pub gave : lookup (tag_of e) (totals (holds after)) ≡ gives e
  pub others : (t : Tag) → t ≢ tag_of e → lookup t (holds after) ≡ lookup t (holds z)
  -- as the ledger has it
  pub enters : (k : Ledger) → totals (holds z) ≡ k.list → totals (holds after) ≡ (accepted e k).list
  pub tallies : (k : Ledger) → totals (holds z) ≡ k.list → Tallied k → Tallied (accepted e k)

-- it is declined, or taken
pub data Result (e : Edit) (words keys : List ℕ) : (number : ℕ) (words' keys' : List ℕ) → Type 0 where
  declined : {n : ℕ} → n ≢ 0 → Result e words keys n words keys
  taken : {words' keys' : List ℕ} → Sound words keys → ((z : Sound words keys) → Bytes (tag_of e) → Bytes keys → Changes e z words' keys') → Result e words keys 0 words' keys'

-- ── each edit ──
-- what a sound block holds is sorted
held_sorted : (d : Option (Tree Held)) → Sane d → Sorted (held d)
held_sorted none g = tt
held_sorted (some t) g = sorted t g

pub holds_sorted : {words keys : List ℕ} (z : Sound words keys) → Sorted (holds z)
holds_sorted z = held_sorted z.tree z.good

pub without_leave : (t : Tag) (l : Listing ℕ) → without t l ≡ leave t l
without_leave t [] = refl
without_leave t (e ∷ l) = ap (λ (r : Listing ℕ). ite (tag_dec t e.0) r (e ∷ r)) (without_leave t l)

module _ {words keys : List ℕ} (z : Sound words keys) (tag : List ℕ) (bytes : Bytes tag) (key-bytes : Bytes keys) where
  abbrev list : Listing ℕ
  list = totals (holds z)

  list_sorted : Sorted list
  list_sorted = totals_sorted (holds z) (holds_sorted z)

  -- what the ledger has for the tag is what the block has
  was : (k : Ledger) → list ≡ k.list → (o : Option Held) → lookup tag (holds z) ≡ o → lookup tag k.list ≡ total_of_lem o
  was k e o i = ap (lookup tag) (sym e) ∙ totals_lookup tag (holds z) ∙ ap total_of_lem i

  -- a tag that was not held is put in
  module _ {site : Site} {n : ℕ} {gap : Gap} (short : length tag ≤ (frame words).form.limit) (plan : insert-plan.plan_of (frame words) words keys tag ≡ Ok (New site n gap)) (total : ℕ) where
    new_changes : Changes (insert tag total) z (new_words (frame words) keys tag total site n gap words) (key_in (frame words) n tag keys)
    new_changes =
        let m = insert_sound_lem z tag bytes key-bytes short plan total in
        let a : Held = record { number = n; total = total } in
        let unheld : Every (λ u. tag ≢ u) (holds z) = put_new tag a (holds z) (subst Sorted m.1 (holds_sorted m.0)) in
        let none_was : (k : Ledger) → list ≡ k.list → none ≡ lookup tag k.list = λ k e. sym (was k e none (lookup_new tag (holds z) unheld)) in
        record {
          after = m.0;
          same_frame = insert_frame z tag bytes key-bytes short plan total;
          bytes = key_in_bytes (frame words) n tag keys bytes key-bytes;
          gave = totals_lookup tag (holds m.0) ∙ ap total_of_lem (ap (lookup tag) m.1 ∙ put_held tag a (holds z) unheld);
          others = λ t ne. ap (lookup t) m.1 ∙ lookup_put t tag ne a (holds z);
          enters = λ k e. ap totals m.1 ∙ totals_put tag a (holds z) ∙ ap (put tag total) e ∙ ap (λ (o : Option ℕ). (given tag (some total) o k).list) (none_was k e);
          tallies = λ k e h. subst (λ (o : Option ℕ). Tallied (given tag (some total) o k)) (none_was k e) (omega (arith, put_length tag total k.list));
        }

  -- a held one gets the new total
  module _ {leaf : ℕ} (plan : insert-plan.plan_of (frame words) words keys tag ≡ Ok (Over leaf)) (total : ℕ) where
    over_changes : Changes (insert tag total) z (total_at (frame words) (leaf / 8) total words) keys
    over_changes =
        let m = over_sound z tag bytes plan total in
        let a = over_held z tag bytes plan in
        let is : totals (holds m.0) ≡ alter (λ x. some total) tag list = ap totals m.1 ∙ totals_alter (λ h. some (new_total total h)) (λ x. some total) (λ h. refl) tag (holds z) in
        let old_was : (k : Ledger) → list ≡ k.list → some a.0.total ≡ lookup tag k.list = λ k e. sym (was k e (some a.0) a.1) in
        let anew : (k : Ledger) → list ≡ k.list → alter (λ x. some total) tag k.list ≡ put tag total (without tag k.list) =
        λ k e. sym (ap (put tag total) (without_leave tag k.list) ∙ put_over tag total a.0.total k.list (subst Sorted e list_sorted) (sym (old_was k e))) in
        record {
          after = m.0;
          same_frame = over_frame z tag bytes plan total;
          bytes = key-bytes;
          gave = ap (lookup tag) is ∙ alter_held tag total a.0.total list (was (record { list = list; inserts = 0; deletes = 0 }) refl (some a.0) a.1);
          others = λ t ne. ap (lookup t) m.1 ∙ lookup_alter t tag ne (λ h. some (new_total total h)) (holds z);
          enters = λ k e. is ∙ ap (alter (λ x. some total) tag) e ∙ anew k e ∙ ap (λ (o : Option ℕ). (given tag (some total) o k).list) (old_was k e);
          tallies = λ k e h. subst (λ (o : Option ℕ). Tallied (given tag (some total) o k)) (old_was k e) (omega (arith, ap length (anew k e), alter_length (λ x. total) tag k.list));
        }

  -- a held one is left out
  module _ {cut : Cut} {n : ℕ} {gap : Gap} (plan : delete-plan.plan_of (frame words) words keys tag ≡ Ok (record { cut = cut; leaf = n; gap = gap })) where
    out_changes : Changes (delete tag) z (gone_words (frame words) cut n gap words) (key_out (frame words) n keys)
    out_changes =
        let m = delete_sound_lem z tag bytes plan in
        let a = delete_held z tag bytes plan in
        let is : totals (holds m.0) ≡ leave tag list = ap totals m.1 ∙ totals_alter (λ h. none) (λ x. none) (λ h. refl) tag (holds z) in
        record {
          after = m.0;
          same_frame = delete_frame z tag bytes plan;
          bytes = key_out_bytes (frame words) n keys key-bytes;
          gave = ap (lookup tag) is ∙ leave_unheld tag list;
          others = λ t ne. ap (lookup t) m.1 ∙ lookup_alter t tag ne (λ h. none) (holds z);
          enters = λ k e. is ∙ ap (leave tag) e ∙ sym (without_leave tag k.list);
          tallies = λ k e h. omega (arith, ap length (without_leave tag k.list), leave_length tag a.0.total k.list (subst Sorted e list_sorted) (was k e (some a.0) a.1));
        }

pub edit_result : (e : Edit) (s : Slices) → let o = (run (edit e) s).slices in Result e s.words s.keys (number (edit e) s) o.words o.keys
edit_result (insert t total) s =
    insert_cases s.words s.keys t total (λ o. Result (insert t total) s.words s.keys (insert-answer.number_of o.answer) o.words o.keys) (λ a r n. declined n)
    (λ r q short site n gap e. taken q (λ z h k. new_changes z t h k (short_fits s.words s.keys t z.fits short) e total)) (λ r q leaf e. taken q (λ z h k. over_changes z t h k e total)) s.scratch
edit_result (delete t) s =
    delete_cases s.words s.keys t (λ o. Result (delete t) s.words s.keys (delete-answer.number_of o.answer) o.words o.keys) (λ a r n. declined n)
    (λ r q cut n gap e. taken q (λ z h k. out_changes z t h k e)) s.scratch

-- ── every edit ──
module _ (e : Edit) (s : Slices) where
  abbrev left : Slices
  left = (run (edit e) s).slices

  pub edit_refused : number (edit e) s ≢ 0 → (left.words ≡ s.words) × (left.keys ≡ s.keys)
  edit_refused = go (edit_result e s)
    where
      go : {n : ℕ} {w k : List ℕ} → Result e s.words s.keys n w k → n ≢ 0 → (w ≡ s.words) × (k ≡ s.keys)
      go (declined h) ne = (refl, refl)
      go (taken z f) ne = absurd (ne refl)

  -- a block on which an edit is accepted is sound
  pub edit_was : number (edit e) s ≡ 0 → Sound s.words s.keys
  edit_was = go (edit_result e s)
    where
      go : {n : ℕ} {w k : List ℕ} → Result e s.words s.keys n w k → n ≡ 0 → Sound s.words s.keys
      go (declined h) q = absurd (h q)
      go (taken z f) q = z

  module _ (tag_bytes : Bytes (tag_of e)) (key-bytes : Bytes s.keys) where
    pub edit_changes : number (edit e) s ≡ 0 → (z : Sound s.words s.keys) → Changes e z left.words left.keys
    edit_changes = go (edit_result e s)
      where
        go : {n : ℕ} {w k : List ℕ} → Result e s.words s.keys n w k → n ≡ 0 → (z : Sound s.words s.keys) → Changes e z w k
        go (declined h) q z = absurd (h q)
        go (taken x f) q z = f z tag_bytes key-bytes

    -- what holds of what is lent, and of a sound block that was changed, holds of what is left
    pub edit_either : (P : (words keys : List ℕ) → Type 0) → P s.words s.keys → ((z : Sound s.words s.keys) (w k : List ℕ) → Changes e z w k → P w k) → P left.words left.keys
    edit_either P same new = go (edit_result e s)
      where
        go : {n : ℕ} {w k : List ℕ} → Result e s.words s.keys n w k → P w k
        go {n} {w} {k} (declined h) = same
        go {n} {w} {k} (taken z f) = new z w k (f z tag_bytes key-bytes)
