-- What a sound block gives a delete: it shows its tree, and the plan is made of what is there.
use Prim.Native.Nat.{ℕ}
use mathlib.Core.Path.{sym, subst}
use mathlib.Core.List.{List}
use mathlib.Core.Option.{Option, none, some}
use mathlib.Core.Bool.{Bool}
use borrow.Author.Tests.{eq-eqb}
use Rattle.std.specs.Prelude.{Ok, Err}
use Rattle.refusals.specs.declared.Refusal.TheVariants.{Missing}
use Rattle.delete.specs.Plan.{Planned, point_plan, plan_of}
use lib.ListN.{length}
use Rattle.lists.specs.Scan.{choose}
use Rattle.frames.specs.Frame.{root_word, frame}
use Rattle.records.specs.View.{Held}
use Rattle.art.specs.Trees.{Tree}
use Rattle.art.specs.Deletes.{held}
use Rattle.art.specs.Points.{store_of}
use Rattle.view.specs.Links.{links_of}
use Rattle.reading.specs.Answers.{Bytes}
use Rattle.reading.specs.Shown as shown
use Rattle.whole.specs.Sound.{Rooted, Sound}
use Rattle.points.specs.Point.{point_of}
use Rattle.pointed.proofs.Sounds.{sound_shown}
use Rattle.states.specs.State.{State}
use Rattle.states.proofs.Sounds.{sound_state}
use Rattle.delete.proofs.Plans.{PlanFits, plan_fits}

-- what a plan says of a sound block: with no tree the tag is missing
abbrev pub SoundFits : (words keys tag : List ℕ) → Option (Tree Held) → Planned → Type 0
SoundFits words keys tag none (Ok plan) = ⊥
SoundFits words keys tag none (Err Missing) = Unit {0}
SoundFits words keys tag none (Err refusal) = ⊥
SoundFits words keys tag (some t) p = PlanFits (frame words) words keys tag t (links_of (frame words) words) (length (held (some t))) p

module _ {words keys : List ℕ} (tag : List ℕ) (bytes : Bytes tag) where
  fits_of : (d : Option (Tree Held)) → Rooted (root_word words) d → State (frame words) words keys (store_of d) (links_of (frame words) words) (root_word words) (length (held d))
      → shown.Shown (frame words) words keys d → SoundFits words keys tag d (plan_of (frame words) words keys tag)
  unfolding plan_of
  fits_of none rooted s h =
      let here = point_plan (frame words) words (point_of (frame words) words keys tag (root_word words)) in
      subst (λ (b : Bool). SoundFits words keys tag none (choose b (Err Missing) here)) (sym (eq-eqb (root_word words) 0 rooted)) tt
  fits_of (some t) rooted s h = plan_fits t h.good h.once s rooted tag h bytes

  pub sound_fits : (s : Sound words keys) → SoundFits words keys tag s.tree (plan_of (frame words) words keys tag)
  sound_fits s = fits_of s.tree s.rooted (sound_state s) (sound_shown s)
