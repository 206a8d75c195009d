-- A new branching, and a record moved into a larger one: what each write needs from those before it, and what they make together.
use Prim.Native.Nat.{ℕ, ◌+◌, ◌^◌, ◌<◌}
use mathlib.Core.Path.{◌≡◌, sym, ap, subst, ◌∙◌}
use mathlib.Core.Logic.{◌≢◌}
use mathlib.Core.List.{List}
use native.Mathlib.Omega.{arith}
use Rattle.points.specs.There.{Up, UpThere}
use lib.ListN.{length, get_or}
use Rattle.lists.specs.Part.{between}
use Rattle.lists.proofs.Parts.{between_length}
use Rattle.prefix.specs.Run.{prefix_of}
use Rattle.prefix.specs.declared.Prefix.{Prefix}
use Rattle.frames.specs.Frame.{FrameOf}
use Rattle.frames.specs.Place.{place_at}
use Rattle.frames.specs.declared.frame.Frame.{Frame}
use Rattle.frames.proofs.Frames.{limit_small}
use Rattle.edits.specs.declared.representation.Change.TheVariants.{Add}
use Rattle.tree.specs.Seen.{tag_at}
use Rattle.writes.specs.Above.{link_up}
use Rattle.writes.specs.At.{branch_at, move_at, change_at, clear_at, Roomy}
use Rattle.writes.proofs.Kept.{branch_kept, move_kept, change_kept, clear_kept, linked_kept}
use Rattle.insert.specs.Apply.{cut_at, CutOrLeaf, forked, ForkReady, grown, GrowReady}
use Rattle.insert.proofs.Cuts.{tag_short}

-- ── a branching: t is the leaf's tag, p the prefix, l the words once what is below is cut, m those with the branching, n those that name it ──
module _ {f : Frame} {words keys tag : List ℕ} {up : Up} {below new witness d c leaf : ℕ} (r : ForkReady f words keys tag up below new witness d c leaf) where
  -- what agrees is no longer than a tag
  pub fork_run : FrameOf f words keys → length (between tag d (d + c)) < 2 ^ 32
  fork_run w =
      omega (arith, between_length tag d (d + c) (omega arith) (omega (arith, r.inside)), r.inside_leaf, tag_short w witness r.seen, limit_small w)

  module _ {t : List ℕ} (et : t ≡ tag_at f words keys witness) where
    pub fork_inside : d + c < length t
    fork_inside = omega (arith, ap length et, r.inside_leaf)

    pub fork_cut : CutOrLeaf f words (place_at below) c t d
    fork_cut = subst (λ (l : List ℕ). CutOrLeaf f words (place_at below) c l d) (sym et) r.cut

    pub fork_parts : get_or tag (d + c) 0 ≢ get_or t (d + c) 0
    fork_parts = subst (λ (l : List ℕ). get_or tag (d + c) 0 ≢ get_or l (d + c) 0) (sym et) r.parts

    module _ {p : Prefix} (ep : p ≡ prefix_of (between tag d (d + c))) {l m : List ℕ} (el : l ≡ cut_at f (place_at below) c t d words)
        (em : m ≡ branch_at f (place_at new) p (get_or tag (d + c) 0) leaf (get_or t (d + c) 0) below l) where
      fork_made : m ≡ forked f below new tag (tag_at f words keys witness) d c leaf words
      unfolding forked
      fork_made =
          let run = prefix_of (between tag d (d + c)) in
          let b = get_or tag (d + c) 0 in
          em
          ∙ ap (λ (q : Prefix). branch_at f (place_at new) q b leaf (get_or t (d + c) 0) below l) ep
          ∙ ap (branch_at f (place_at new) run b leaf (get_or t (d + c) 0) below) el
          ∙ ap (λ (u : List ℕ). branch_at f (place_at new) run b leaf (get_or u (d + c) 0) below (cut_at f (place_at below) c u d words)) et

      pub fork_above : UpThere f m up
      fork_above = subst (λ (x : List ℕ). UpThere f x up) (sym fork_made) r.above

      pub fork_kept : FrameOf f l keys → length m ≡ length l → FrameOf f m keys
      fork_kept v k = branch_kept v m k (place_at new) r.to.pool p (get_or tag (d + c) 0) leaf (get_or t (d + c) 0) below em

      module _ {n : List ℕ} (en : n ≡ link_up f up new m) where
        pub fork_linked : n ≡ link_up f up new (forked f below new tag (tag_at f words keys witness) d c leaf words)
        fork_linked = en ∙ ap (link_up f up new) fork_made

        pub fork_framed : FrameOf f l keys → length m ≡ length l → length n ≡ length m → FrameOf f n keys
        fork_framed v k kn = linked_kept (fork_kept v k) n kn up fork_above new en

-- ── a larger record: l is the words once the record is moved, m those with the child, n those with the old record freed, o those that name the new one ──
module _ {f : Frame} {words keys : List ℕ} {up : Up} {old new byte leaf : ℕ} (g : GrowReady f words up old new byte leaf) (w : FrameOf f words keys)
    {l : List ℕ} (el : l ≡ move_at f (place_at old) (place_at new) words) (kl : length l ≡ length words) where
  pub grow_moved : FrameOf f l keys
  grow_moved = move_kept w l kl (place_at old) (place_at new) g.moves.to.pool el

  pub grow_room : Roomy f l (place_at new)
  grow_room = subst (λ (x : List ℕ). Roomy f x (place_at new)) (sym el) g.room

  module _ {m : List ℕ} (em : m ≡ change_at f (place_at new) byte (Add leaf) l) (km : length m ≡ length l) where
    pub grow_added : FrameOf f m keys
    grow_added = change_kept grow_moved m km (place_at new) g.moves.to.pool byte (Add leaf) em

    module _ {n : List ℕ} (en : n ≡ clear_at f (place_at old) m) (kn : length n ≡ length m) where
      pub grow_freed : FrameOf f n keys
      grow_freed = clear_kept grow_added n kn (place_at old) g.moves.from.pool en

      grow_made : n ≡ grown f (place_at old) (place_at new) byte leaf words
      unfolding grown
      grow_made = en ∙ ap (clear_at f (place_at old)) (em ∙ ap (change_at f (place_at new) byte (Add leaf)) el)

      pub grow_above : UpThere f n up
      grow_above = subst (λ (x : List ℕ). UpThere f x up) (sym grow_made) g.above

      module _ {o : List ℕ} (eo : o ≡ link_up f up new n) where
        pub grow_linked : o ≡ link_up f up new (grown f (place_at old) (place_at new) byte leaf words)
        grow_linked = eo ∙ ap (link_up f up new) grow_made

        pub grow_framed : length o ≡ length n → FrameOf f o keys
        grow_framed ko = linked_kept grow_freed o ko up grow_above new eo
