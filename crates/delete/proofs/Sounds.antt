-- The words after a delete show the store of the tree without the tag, with its links, its root and its count, so the block is sound again.
use Prim.Native.Nat.{ℕ, suc, ◌-◌, ◌<◌}
use mathlib.Core.Path.{◌≡◌, sym, ap, subst, ◌∙◌}
use mathlib.Core.List.{List, []}
use mathlib.Core.Option.{Option, none, some}
use mathlib.Core.Bool.{true}
use native.Mathlib.Omega.{arith}
use Rattle.std.specs.Prelude.{Ok}
use lib.ListN.{length}
use Rattle.states.proofs.OneCell.{used_pool}
use Rattle.frames.specs.Frame.{FrameOf, root_word, count_word, frame}
use Rattle.frames.specs.Place.{in_pool}
use Rattle.frames.specs.declared.frame.Frame.{Frame}
use Rattle.records.specs.View.{Held}
use Rattle.art.specs.Trees.{Tree, contents}
use Rattle.art.specs.Puts.{leave}
use Rattle.art.specs.Facts.{height, delete}
use Rattle.art.specs.Deletes.{Home, held, change}
use Rattle.art.specs.Stores.{leaf_place, unused, Store, write, apply, Used, root, store}
use Rattle.art.specs.Chain.{Links, link_out, Linked, leaves_of}
use Rattle.art.specs.Points as art
use Rattle.art.proofs.Walks.{store_shows}
use Rattle.art.proofs.Deletes.{change_held, change_sane}
use Rattle.art.proofs.DeletePoints.{delete_makes, delete_moves}
use Rattle.art.proofs.Leaves.{cut_linked}
use Rattle.art.proofs.Counts.{cut_count}
use Rattle.art.proofs.Calls.{call_once}
use Rattle.pools.specs.Link.{set_trailer}
use Rattle.view.specs.Links.{UsedOrEnd, links_of}
use Rattle.reading.specs.Answers.{Bytes}
use Rattle.reading.specs.Shown.{Shown}
use Rattle.whole.specs.Sound.{Rooted, Sound}
use Rattle.pointed.proofs.Sounds.{sound_shown}
use Rattle.pointed.proofs.Inners.{leaf_stays, leaf_first}
use Rattle.pointed.proofs.Neighbours.{number_of, numbered}
use Rattle.writes.specs.Leaf.{leaf_out, key_out}
use Rattle.writes.specs.declared.leaf_node.Gap.{Gap}
use Rattle.states.specs.State.{State}
use Rattle.states.proofs.Steps.{state_leaf_out, state_count}
use Rattle.states.proofs.Standing.{kept_end}
use Rattle.states.proofs.Sounds.{sound_state, state_sound}
use Rattle.delete.specs.declared.plan.Cut.{Cut}
use Rattle.delete.specs.Plan.{plan_of}
use Rattle.delete.specs.Without.{SettlesAt, Without, WithoutFrom}
use Rattle.delete.specs.Apply.{pruned, gone_words}
use Rattle.delete.proofs.Cuts.{root_ref}
use Rattle.delete.proofs.Neighbours.{ends_used}
use Rattle.delete.proofs.Outs.{under_inners}
use Rattle.delete.proofs.Plans.{OutFits}
use Rattle.delete.proofs.Grounds.{SoundFits, sound_fits}
use Rattle.delete.proofs.Ready.{gap_links}

-- the reference to a tree's root
rooted_by : (d : Option (Tree Held)) (r : ℕ) → r ≡ root_ref (art.root_of d) → Rooted r d
rooted_by none r e = e
rooted_by (some t) r e = e

module _ (words keys tag : List ℕ) (cut : Cut) (n : ℕ) (gap : Gap) (t : Tree Held) (shown : Shown (frame words) words keys (some t))
    (s : State (frame words) words keys (store t []) (links_of (frame words) words) (root_word words) (length (held (some t))))
    (o : OutFits (frame words) words keys tag t (links_of (frame words) words) (length (held (some t))) cut n gap) where
  abbrev f : Frame
  f = frame words

  abbrev links : Links
  links = links_of (frame words) words

  abbrev σ : Store Held
  σ = store t []

  abbrev home : Home
  home = o.cut_fits.home

  -- the directory without the tag
  abbrev without_tag : Option (Tree Held)
  without_tag = change t (λ a. none) home tag

  deep : height t < suc (height t)
  deep = omega arith

  pool : in_pool f (leaf_place n) ≡ true
  pool = used_pool s (leaf_place n) (subst Used (sym o.leaf_is) tt)

  ends : UsedOrEnd f words keys (links.prev n) × UsedOrEnd f words keys (links.next n)
  ends = subst (λ (m : ℕ). UsedOrEnd f words keys (links.prev m) × UsedOrEnd f words keys (links.next m)) o.number_is (ends_used shown tag o.held o.found)

  -- ── the state after the writes ──
  abbrev under : Store Held
  under = apply σ (art.delete_under σ home o.upper o.up)

  abbrev new_root : ℕ
  new_root = root_ref (art.under_root σ home o.upper o.up (root t))

  stays : (m : ℕ) → under (leaf_place m) ≡ σ (leaf_place m)
  stays = leaf_stays σ (art.delete_under σ home o.upper o.up) (under_inners σ home o.upper o.up)

  leaf_gone : State f (leaf_out f n (links.prev n) (links.next n) (pruned f cut words)) (key_out f n keys) (write under (leaf_place n) unused) (link_out links n) new_root (length (held (some t)))
  leaf_gone =
      let done = o.cut_fits.done.state in
      state_leaf_out done n pool (kept_end s done stays (links.prev n) ends.0) (kept_end s done stays (links.next n) ends.1)

  made : write under (leaf_place n) unused ≡ art.store_of without_tag
  made =
      sym (leaf_first σ (art.delete_under σ home o.upper o.up) (under_inners σ home o.upper o.up) n unused)
      ∙ ap (λ (p : art.Point). apply σ (art.delete_at σ home p)) (sym o.at)
      ∙ delete_makes (suc (height t)) t shown.good shown.once deep home o.cut_fits.roomy tag

  moved : new_root ≡ root_ref (art.root_of without_tag)
  moved =
      ap root_ref (ap (λ (p : art.Point). art.delete_root σ home p (root t)) (sym o.at) ∙ delete_moves (suc (height t)) σ t shown.good (store_shows t [] shown.once) deep home tag)

  gone : State f (gone_words f cut n gap words) (key_out f n keys) (art.store_of without_tag) (link_out links n) new_root (count_word words - 1)
  unfolding gone_words
  gone =
      let gaps = gap_links f words n pool in
      let previous : gap.previous ≡ links.prev n = ap (λ (g : Gap). g.previous) o.gap_is ∙ gaps.0 in
      let next : gap.next ≡ links.next n = ap (λ (g : Gap). g.next) o.gap_is ∙ gaps.1 in
      let at : (p q : ℕ) → List ℕ = λ p q. set_trailer 14 (count_word words - 1) (leaf_out f n p q (pruned f cut words)) in
      let done : State f (at (links.prev n) (links.next n)) (key_out f n keys) (write under (leaf_place n) unused) (link_out links n) new_root (count_word words - 1) = state_count leaf_gone (count_word words - 1) in
      subst (λ (p : ℕ). State f (at p gap.next) (key_out f n keys) (art.store_of without_tag) (link_out links n) new_root (count_word words - 1)) (sym previous)
      (subst (λ (q : ℕ). State f (at (links.prev n) q) (key_out f n keys) (art.store_of without_tag) (link_out links n) new_root (count_word words - 1)) (sym next)
      (subst (λ (τ : Store Held). State f (at (links.prev n) (links.next n)) (key_out f n keys) τ (link_out links n) new_root (count_word words - 1)) made done))

  -- ── so it is sound ──
  gone_sound : (s' : Sound (gone_words f cut n gap words) (key_out f n keys)) × (s'.tree ≡ without_tag)
  gone_sound =
      state_sound without_tag gone (change_sane t shown.good (λ a. none) home tag) (call_once (some t) shown.once (delete tag home) o.cut_fits.roomy) (rooted_by without_tag new_root moved)
      (subst (λ (m : ℕ). Linked (link_out links m) 0 (leaves_of without_tag)) o.number_is
      (cut_linked number_of links t shown.good shown.once (numbered shown) home tag o.held o.found shown.linked))
      (omega (arith, s.count_is, cut_count t shown.good home tag o.held o.found))

  gone_held : FrameOf f (gone_words f cut n gap words) (key_out f n keys) × (s' : Sound (gone_words f cut n gap words) (key_out f n keys)) × (held s'.tree ≡ leave tag (contents t)) × Without f t tag s'.tree
  gone_held = (
    gone.frame,
    gone_sound.0,
    ap held gone_sound.1 ∙ change_held t shown.good (λ a. none) home tag,
    record { home = home; roomy = o.cut_fits.roomy; settles = subst (SettlesAt f σ home) (sym o.at) o.cut_fits.settles; tree_is = gone_sound.1 },
  )

module _ {words keys : List ℕ} (s : Sound words keys) (tag : List ℕ) (bytes : Bytes tag) (cut : Cut) (n : ℕ) (gap : Gap) (e : plan_of (frame words) words keys tag ≡ Ok (record { cut = cut; leaf = n; gap = gap })) where
  abbrev now : List ℕ
  now = gone_words (frame words) cut n gap words

  left_sound : FrameOf (frame words) now (key_out (frame words) n keys) × (s' : Sound now (key_out (frame words) n keys)) × (held s'.tree ≡ leave tag (held s.tree)) × WithoutFrom (frame words) s.tree tag s'.tree
  left_sound = go s.tree (sound_shown s) (sound_state s) (subst (SoundFits words keys tag s.tree) e (sound_fits tag bytes s))
    where
      go : (d : Option (Tree Held)) → Shown (frame words) words keys d → State (frame words) words keys (art.store_of d) (links_of (frame words) words) (root_word words) (length (held d))
          → SoundFits words keys tag d (Ok (record { cut = cut; leaf = n; gap = gap }))
          → FrameOf (frame words) now (key_out (frame words) n keys) × (s' : Sound now (key_out (frame words) n keys)) × (held s'.tree ≡ leave tag (held d)) × WithoutFrom (frame words) d tag s'.tree
      go none shown st h = absurd h
      go (some t) shown st o = gone_held words keys tag cut n gap t shown st o

  -- after a delete a sound block has its frame still
  pub delete_fits : FrameOf (frame words) (gone_words (frame words) cut n gap words) (key_out (frame words) n keys)
  delete_fits = left_sound.0

  -- it is sound, and holds what it held without the tag
  pub delete_sound_lem : (s' : Sound (gone_words (frame words) cut n gap words) (key_out (frame words) n keys)) × (held s'.tree ≡ leave tag (held s.tree))
  delete_sound_lem = (left_sound.1, left_sound.2)

  -- its tree is the one before without the tag, where the record above the leaf went as it should
  pub delete_without : (s' : Sound (gone_words (frame words) cut n gap words) (key_out (frame words) n keys)) × WithoutFrom (frame words) s.tree tag s'.tree
  delete_without = (left_sound.1, left_sound.3)
