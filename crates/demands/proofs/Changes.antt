-- What an accepted insert or delete makes of a sound block: a sound block again, in the same frame, with the tag put in, altered or left out.
use Prim.Native.Nat.{ℕ, ◌/◌, ◌≤◌}
use mathlib.Core.Path.{◌≡◌, refl, sym}
use mathlib.Core.List.{List}
use mathlib.Core.Option.{some}
use Rattle.std.specs.Prelude.{Ok}
use Rattle.insert.specs.declared.plan.Plan.TheVariants.{New, Over}
use lib.ListN.{length}
use Rattle.frames.specs.Place.{record_at}
use Rattle.records.specs.Own.{total_of}
use Rattle.records.specs.View.{Held}
use Rattle.art.specs.Listings.{lookup}
use Rattle.art.specs.Puts.{put, alter, leave}
use Rattle.art.specs.Deletes.{held}
use Rattle.art.specs.Stores.{leaf_place}
use Rattle.reading.specs.Answers.{Bytes}
use Rattle.frames.specs.Frame.{frame}
use Rattle.whole.specs.Sound.{Sound}
use Rattle.writes.specs.Leaf.{key_in, key_out, total_at}
use Rattle.writes.specs.declared.leaf_node.Gap.{Gap}
use Rattle.insert.specs.Plan as insert-plan
use Rattle.insert.specs.Apply.{new_words}
use Rattle.insert.specs.declared.plan.Site.{Site}
use Rattle.insert.proofs.Sounds as insert-sounds
use Rattle.insert.proofs.Overs as overs
use Rattle.insert.specs.Meets.{new_total}
use Rattle.delete.specs.Plan as delete-plan
use Rattle.delete.specs.Apply.{gone_words}
use Rattle.delete.specs.declared.plan.Cut.{Cut}
use Rattle.delete.proofs.Sounds as delete-sounds
use Rattle.delete.proofs.Answers as delete_answers

module _ {words keys : List ℕ} (s : Sound words keys) (tag : List ℕ) (bytes : Bytes tag) where
  -- ── a new tag ──
  module _ (key-bytes : Bytes keys) {site : Site} {n : ℕ} {gap : Gap} (short : length tag ≤ (frame words).form.limit) (plan : insert-plan.plan_of (frame words) words keys tag ≡ Ok (New site n gap)) (total : ℕ) where
    pub insert_sound_lem : (s' : Sound (new_words (frame words) keys tag total site n gap words) (key_in (frame words) n tag keys))
        × (held s'.tree ≡ put tag (record { number = n; total = total }) (held s.tree))
    insert_sound_lem = insert-sounds.insert_sound_lem s tag bytes key-bytes short site n gap total plan

    pub insert_frame : frame (new_words (frame words) keys tag total site n gap words) ≡ frame words
    insert_frame = sym (insert-sounds.insert_fits s tag bytes key-bytes short site n gap total plan).read

  -- ── a held tag ──
  module _ {leaf : ℕ} (plan : insert-plan.plan_of (frame words) words keys tag ≡ Ok (Over leaf)) where
    pub over_held : (a : Held) × (lookup tag (held s.tree) ≡ some a) × (a.total ≡ total_of (record_at (frame words) words (leaf_place (leaf / 8))))
    over_held = (_, overs.over_held s tag bytes leaf plan, refl)

    pub over_sound : (total : ℕ) → (s' : Sound (total_at (frame words) (leaf / 8) total words) keys)
        × (held s'.tree ≡ alter (λ h. some (new_total total h)) tag (held s.tree))
    over_sound = overs.over_sound s tag bytes leaf plan

    pub over_frame : (total : ℕ) → frame (total_at (frame words) (leaf / 8) total words) ≡ frame words
    over_frame total = sym (overs.over_fits s tag bytes leaf plan total).read

  -- ── a tag that leaves ──
  module _ {cut : Cut} {n : ℕ} {gap : Gap} (plan : delete-plan.plan_of (frame words) words keys tag ≡ Ok (record { cut = cut; leaf = n; gap = gap })) where
    pub delete_held : (a : Held) × (lookup tag (held s.tree) ≡ some a) × (a.total ≡ total_of (record_at (frame words) words (leaf_place n)))
    delete_held = let h = delete_answers.out_held s tag bytes cut n gap plan in (h.0, h.1, h.3)

    pub delete_sound_lem : (s' : Sound (gone_words (frame words) cut n gap words) (key_out (frame words) n keys)) × (held s'.tree ≡ leave tag (held s.tree))
    delete_sound_lem = delete-sounds.delete_sound_lem s tag bytes cut n gap plan

    pub delete_frame : frame (gone_words (frame words) cut n gap words) ≡ frame words
    delete_frame = sym (delete-sounds.delete_fits s tag bytes cut n gap plan).read
