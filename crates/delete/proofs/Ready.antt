-- On a sound block a plan can be applied: the cut may be made, the leaf and its neighbours are there, and a tag is counted.
use Prim.Native.Nat.{ℕ}
use mathlib.Core.Path.{◌≡◌, sym, ap, subst, ◌∙◌}
use mathlib.Core.List.{List}
use mathlib.Core.Option.{Option, none, some}
use mathlib.Core.Bool.{true}
use native.Mathlib.Omega.{arith}
use Rattle.std.specs.Prelude.{Ok}
use lib.ListN.{length}
use Rattle.states.proofs.OneCell.{used_pool}
use Rattle.frames.specs.Frame.{root_word, frame}
use Rattle.frames.specs.Place.{in_pool}
use Rattle.frames.specs.declared.frame.Frame.{Frame}
use Rattle.records.specs.View.{Held}
use Rattle.art.specs.Trees.{Tree}
use Rattle.art.specs.Deletes.{held, stay}
use Rattle.art.specs.Stores.{leaf_place, Used}
use Rattle.art.specs.Points.{store_of}
use Rattle.art.proofs.Counts.{cut_count}
use Rattle.pools.specs.Link.{LeafOrEnd}
use Rattle.view.specs.Links.{links_of}
use Rattle.view.proofs.Links.{used_leaf}
use Rattle.view.proofs.Chains.{link_in_pool}
use Rattle.reading.specs.Answers.{Bytes}
use Rattle.reading.specs.Shown.{Shown}
use Rattle.whole.specs.Sound.{Sound}
use Rattle.pointed.proofs.Sounds.{sound_shown}
use Rattle.writes.specs.declared.leaf_node.Gap.{Gap}
use Rattle.states.specs.State.{State}
use Rattle.states.proofs.Sounds.{sound_state}
use Rattle.delete.specs.declared.plan.Cut.{Cut}
use Rattle.delete.specs.Plan.{gap_of, plan_of}
use Rattle.delete.specs.Apply.{TakeReady}
use Rattle.delete.proofs.Neighbours.{ends_used}
use Rattle.delete.proofs.Grounds.{SoundFits, sound_fits}

-- the links of a leaf of a pool are its words
pub gap_links : (f : Frame) (words : List ℕ) (n : ℕ) → in_pool f (leaf_place n) ≡ true → ((gap_of f words n).previous ≡ (links_of f words).prev n) × ((gap_of f words n).next ≡ (links_of f words).next n)
unfolding links_of
gap_links f words n h = (sym (link_in_pool f words 2 n h), sym (link_in_pool f words 3 n h))

module _ (words keys tag : List ℕ) (cut : Cut) (n : ℕ) (gap : Gap) where
  abbrev f : Frame
  f = frame words

  ready_of : (d : Option (Tree Held)) → Shown f words keys d → State f words keys (store_of d) (links_of f words) (root_word words) (length (held d))
      → SoundFits words keys tag d (Ok (record { cut = cut; leaf = n; gap = gap })) → TakeReady f words cut n gap
  ready_of none shown s h = absurd h
  ready_of (some t) shown s o =
      let pool : in_pool f (leaf_place n) ≡ true = used_pool s (leaf_place n) (subst Used (sym o.leaf_is) tt) in
      let ends = ends_used shown tag o.held o.found in
      let gaps = gap_links f words n pool in
      let previous : gap.previous ≡ (links_of f words).prev o.held.number = ap (λ (g : Gap). g.previous) o.gap_is ∙ gaps.0 ∙ ap (links_of f words).prev (sym o.number_is) in
      let next : gap.next ≡ (links_of f words).next o.held.number = ap (λ (g : Gap). g.next) o.gap_is ∙ gaps.1 ∙ ap (links_of f words).next (sym o.number_is) in
      record {
        cut_ready = o.cut_fits.done.ready;
        pool = pool;
        before = subst (LeafOrEnd f) (sym previous) (used_leaf f words keys _ ends.0);
        after = subst (LeafOrEnd f) (sym next) (used_leaf f words keys _ ends.1);
        counted = omega (arith, s.count_is, cut_count t shown.good stay tag o.held o.found);
      }

pub delete_ready : {words keys : List ℕ} → Sound words keys → (tag : List ℕ) → Bytes tag → (cut : Cut) (n : ℕ) (gap : Gap) → plan_of (frame words) words keys tag ≡ Ok (record { cut = cut; leaf = n; gap = gap })
    → TakeReady (frame words) words cut n gap
delete_ready {words} {keys} s tag bytes cut n gap e =
    ready_of words keys tag cut n gap s.tree (sound_shown s) (sound_state s) (subst (SoundFits words keys tag s.tree) e (sound_fits tag bytes s))
