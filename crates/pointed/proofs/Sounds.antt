-- A sound block shows its tree.
use Prim.Native.Nat.{ℕ}
use mathlib.Core.Path.{◌≡◌, refl, sym, ap, subst, ◌∙◌}
use mathlib.Core.List.{List, []}
use mathlib.Core.Option.{Option, none, some}
use Rattle.frames.specs.Frame.{root_word, frame}
use Rattle.frames.specs.Place.{place_at}
use Rattle.frames.proofs.Places.{place_ref}
use Rattle.records.specs.View.{Held, cell_of}
use Rattle.art.specs.Trees.{Tree}
use Rattle.art.specs.Stores.{Place, Used, root}
use Rattle.art.specs.Points.{store_of}
use Rattle.art.proofs.Stores.{own}
use Rattle.reading.specs.Shown as shown
use Rattle.whole.specs.Sound.{Rooted, Sound}
use Rattle.whole.proofs.Sounds.{used_pool}

pub sound_shown : {words keys : List ℕ} (s : Sound words keys) → shown.Shown (frame words) words keys s.tree
sound_shown {words} {keys} s = record {
  frame = record { read = refl; fits = s.fits };
  good = s.good;
  once = s.once;
  cells = s.shown;
  rules = s.rules;
  rooted = rooted s.tree s.shown s.rooted;
  linked = s.linked;
}
  where
    rooted : (d : Option (Tree Held)) → ((x : Place) → cell_of (frame words) words keys x ≡ store_of d x) → Rooted (root_word words) d → shown.RootAt (root_word words) d
    rooted none cells e = e
    rooted (some t) cells e =
        let u : Used (cell_of (frame words) words keys (root t)) = subst Used (sym (cells (root t))) (own t []) in
        ap place_at e ∙ place_ref (frame words) (root t) (used_pool (frame words) words keys (root t) u)
