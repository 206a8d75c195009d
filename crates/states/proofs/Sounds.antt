-- A sound block shows the store of its tree, with its links, its root and its count; and a block that shows those of a good tree is sound.
use Prim.Native.Nat.{ℕ}
use mathlib.Core.Path.{◌≡◌, refl, sym, subst, ◌∙◌, fun_ext}
use mathlib.Core.List.{List}
use mathlib.Core.Option.{Option}
use lib.ListN.{length}
use Rattle.frames.specs.Frame.{root_word, frame}
use Rattle.frames.specs.declared.frame.Frame.{Frame}
use Rattle.records.specs.View.{Held}
use Rattle.art.specs.Trees.{Tree}
use Rattle.art.specs.Deletes.{held, Sane}
use Rattle.art.specs.Stores.{Used}
use Rattle.art.specs.Chain.{Links, Linked, leaves_of}
use Rattle.art.specs.Points.{store_of}
use Rattle.art.specs.Calls.{OnceOf}
use Rattle.view.specs.Links.{links_of}
use Rattle.whole.specs.Sound.{Rooted, Sound}
use Rattle.states.specs.State.{State}
use Rattle.states.proofs.Standing.{shown_at}

pub sound_state : {words keys : List ℕ} (s : Sound words keys)
    → State (frame words) words keys (store_of s.tree) (links_of (frame words) words) (root_word words) (length (held s.tree))
sound_state s =
    record {
      frame = record { read = refl; fits = s.fits };
      cells = fun_ext s.shown;
      rules = λ x u. s.rules x (subst Used (sym (s.shown x)) u);
      free = λ x p e. s.free x p (s.shown x ∙ e);
      links_are = refl;
      root_is = refl;
      count_is = s.count;
    }

module _ {words keys : List ℕ} {links : Links} {root count : ℕ} (d : Option (Tree Held)) where
  -- with the frame that the trailer gives
  sound_at : State (frame words) words keys (store_of d) links root count → Sane d → OnceOf d → Rooted root d → Linked links 0 (leaves_of d) → count ≡ length (held d)
      → (t : Sound words keys) × (t.tree ≡ d)
  sound_at s good once rooted linked size =
      let shown = shown_at s in (
        record {
          fits = s.frame.fits;
          rules = λ x u. s.rules x (subst Used (shown x) u);
          tree = d;
          good = good;
          rooted = subst (λ (r : ℕ). Rooted r d) (sym s.root_is) rooted;
          once = once;
          shown = shown;
          free = λ x p e. s.free x p (sym (shown x) ∙ e);
          linked = subst (λ (k : Links). Linked k 0 (leaves_of d)) (sym s.links_are) linked;
          count = s.count_is ∙ size;
        },
        refl,
      )

  -- the block is sound, and its tree is d
  pub state_sound : {f : Frame} → State f words keys (store_of d) links root count → Sane d → OnceOf d → Rooted root d → Linked links 0 (leaves_of d) → count ≡ length (held d)
      → (t : Sound words keys) × (t.tree ≡ d)
  state_sound s = sound_at (subst (λ (g : Frame). State g words keys (store_of d) links root count) s.frame.read s)
