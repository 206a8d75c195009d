-- On every sound block delete answers as the sorted list of its tags and totals, and leaves a sound block that holds the list without the tag.
use Prim.Native.Nat.{ℕ, ◌≤◌}
use mathlib.Core.Path.{◌≡◌, refl, sym, ap, subst, ◌∙◌}
use mathlib.Core.Logic.{◌≢◌, ite, if_pos, if_neg}
use mathlib.Core.List.{List, [], ◌∷◌}
use mathlib.Core.Option.{Option, none, some}
use native.Mathlib.Omega.{arith}
use Rattle.std.specs.Prelude.{Ok, Err}
use Rattle.refusals.specs.declared.Refusal.{Refusal}
use Rattle.refusals.specs.declared.Refusal.TheVariants.{Damaged, Missing}
use Rattle.delete.specs.Plan.{Planned, plan_of}
use Rattle.whole.specs.Check.{Checked, Answer, number_of, check_of}
use lib.ListN.{length}
use Rattle.frames.specs.Frame.{root_word, frame}
use Rattle.frames.specs.Place.{record_at}
use Rattle.records.specs.Own.{total_of}
use Rattle.records.specs.View.{Held}
use Rattle.art.specs.Tags.{Tag, Listing, tag_dec}
use Rattle.art.specs.Trees.{Tree}
use Rattle.art.specs.Listings.{lookup}
use Rattle.art.specs.Puts.{leave}
use Rattle.art.specs.Deletes.{held}
use Rattle.art.specs.Stores.{leaf_place}
use Rattle.art.specs.Points.{store_of}
use Rattle.view.specs.Links.{links_of}
use Rattle.reading.specs.Answers.{Bytes}
use Rattle.whole.specs.Marks.{places_in}
use Rattle.whole.specs.Sound.{Sound}
use Rattle.whole.proofs.Sounds.{sound_zero}
use Rattle.writes.specs.declared.leaf_node.Gap.{Gap}
use Rattle.states.specs.State.{State}
use Rattle.states.proofs.Steps.{state_leaf}
use Rattle.states.proofs.Sounds.{sound_state}
use Rattle.delete.specs.declared.plan.Cut.{Cut}
use Rattle.delete.specs.Meets.{answer_of, Deletes}
use Rattle.delete.specs.Delete.{planned, delete_sound, delete_by, delete_checked, delete_of}
use Rattle.delete.proofs.Grounds.{SoundFits, sound_fits}
use Rattle.delete.proofs.Sounds.{delete_sound_lem}

-- a tag that is not held leaves nothing out
leave_none : (s : Tag) (l : Listing Held) → lookup s l ≡ none → leave s l ≡ l
leave_none s [] h = refl
leave_none s (e ∷ l) h = go (tag_dec s e.0) (leave_none s l)
  where
    go : (d : Dec (s ≡ e.0)) → (lookup s l ≡ none → leave s l ≡ l) → ite {C = Listing Held} d (leave s l) (e ∷ leave s l) ≡ e ∷ l
    go (yes i) ih = let found : some e.1 ≡ none = sym (if_pos (tag_dec s e.0) i (some e.1) (lookup s l)) ∙ h in absurd (let z : ◌≡◌ {A = ℕ} 0 1 = cc in omega arith)
    go (no i) ih = ap (λ (k : Listing Held). e ∷ k) (ih (sym (if_neg (tag_dec s e.0) i (some e.1) (lookup s l)) ∙ h))

module _ {words keys : List ℕ} (s : Sound words keys) (tag : List ℕ) (bytes : Bytes tag) where
  abbrev theirs : Listing Held
  theirs = held s.tree

  fits : SoundFits words keys tag s.tree (plan_of (frame words) words keys tag)
  fits = sound_fits tag bytes s

  -- ── what the plan says ──
  -- it refuses nothing but a tag that is missing
  pub refused_missing : (refusal : Refusal) → plan_of (frame words) words keys tag ≡ Err refusal → refusal ≡ Missing
  refused_missing refusal e = go s.tree refusal (subst (SoundFits words keys tag s.tree) e fits)
    where
      go : (d : Option (Tree Held)) (r : Refusal) → SoundFits words keys tag d (Err r) → r ≡ Missing
      go none Missing h = refl
      go none r h = absurd h
      go (some t) Missing h = refl
      go (some t) r h = absurd h

  -- never that the block is damaged
  pub never_broken : plan_of (frame words) words keys tag ≢ Err Damaged
  never_broken e = let clash : Damaged ≡ Missing = refused_missing Damaged e in absurd (let z : ◌≡◌ {A = ℕ} 0 1 = cc in omega arith)

  -- one that is not held
  pub missing_held : plan_of (frame words) words keys tag ≡ Err Missing → lookup tag theirs ≡ none
  missing_held e = go s.tree (subst (SoundFits words keys tag s.tree) e fits)
    where
      go : (d : Option (Tree Held)) → SoundFits words keys tag d (Err Missing) → lookup tag (held d) ≡ none
      go none h = refl
      go (some t) h = h

  -- and else the leaf that holds it, with its total
  pub out_held : (cut : Cut) (n : ℕ) (gap : Gap) → plan_of (frame words) words keys tag ≡ Ok (record { cut = cut; leaf = n; gap = gap })
      → (a : Held) × (lookup tag theirs ≡ some a) × (a.number ≡ n) × (a.total ≡ total_of (record_at (frame words) words (leaf_place n)))
  out_held cut n gap e = go s.tree (sound_state s) (subst (SoundFits words keys tag s.tree) e fits)
    where
      go : (d : Option (Tree Held)) → State (frame words) words keys (store_of d) (links_of (frame words) words) (root_word words) (length (held d)) → SoundFits words keys tag d (Ok (record { cut = cut; leaf = n; gap = gap }))
          → (a : Held) × (lookup tag (held d) ≡ some a) × (a.number ≡ n) × (a.total ≡ total_of (record_at (frame words) words (leaf_place n)))
      go none st h = absurd h
      go (some t) st o = (o.held, o.found, o.number_is, (state_leaf st n tag o.held o.leaf_is).3)

  pub held_missing : lookup tag theirs ≡ none → plan_of (frame words) words keys tag ≡ Err Missing
  held_missing h = go (plan_of (frame words) words keys tag) refl
    where
      go : (p : Planned) → plan_of (frame words) words keys tag ≡ p → p ≡ Err Missing
      go (Err refusal) e = ap Err (refused_missing refusal e)
      go (Ok plan) e = let o = out_held plan.cut plan.leaf plan.gap e in let clash : some o.0 ≡ none = sym o.1 ∙ h in absurd (let z : ◌≡◌ {A = ℕ} 0 1 = cc in omega arith)

  -- ── what the call leaves ──
  pub delete_answers : (scratch : List ℕ) → Deletes tag scratch theirs (delete_sound words keys scratch tag)
  unfolding delete_sound
  delete_answers scratch = go (plan_of (frame words) words keys tag) refl
    where
      go : (p : Planned) → plan_of (frame words) words keys tag ≡ p → Deletes tag scratch theirs (planned (frame words) words keys scratch p)
      go (Err refusal) e =
          let m = refused_missing refusal e in
          let none_held = missing_held (e ∙ ap Err m) in
          record { answer = ap Err m ∙ ap answer_of (sym none_held); sound = s; holds = sym (leave_none tag theirs none_held); scratch_stays = refl }
      go (Ok plan) e =
          let o = out_held plan.cut plan.leaf plan.gap e in
          let after = delete_sound_lem s tag bytes plan.cut plan.leaf plan.gap e in
          record { answer = ap Ok (sym o.3) ∙ ap answer_of (sym o.1); sound = after.0; holds = after.1; scratch_stays = refl }

  -- with scratch enough the whole call does so, and scratch is as the check leaves it
  pub delete_meets : (scratch : List ℕ) → places_in (frame words) ≤ length scratch → Deletes tag (check_of words keys scratch).scratch theirs (delete_of words keys scratch tag)
  unfolding delete_of delete_checked
  delete_meets scratch room = go (check_of words keys scratch) (sound_zero words keys scratch room s)
    where
      go : (c : Answer) → number_of c.result ≡ 0 → Deletes tag c.scratch theirs (delete_by words keys c.scratch tag c.result)
      go c e = by c.result e
        where
          by : (r : Checked) → number_of r ≡ 0 → Deletes tag c.scratch theirs (delete_by words keys c.scratch tag r)
          by (Ok tt) e = delete_answers c.scratch
          by (Err Damaged) e = absurd (omega arith)
          by (Err refusal) e = absurd (omega arith)
