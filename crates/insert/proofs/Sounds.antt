-- After a new leaf the block is sound again, and its list is the old one with the tag put in: its cells are those of the grown tree, and its links those of the grown tree's leaves.
use Prim.Native.Nat.{ℕ, ◌+◌, ◌≤◌}
use mathlib.Core.Path.{◌≡◌, refl, sym, ap, ap₂, subst, ◌∙◌}
use mathlib.Core.List.{List, [], ◌∷◌}
use mathlib.Core.Option.{Option, none, some}
use native.Mathlib.Omega.{arith}
use Rattle.std.specs.Prelude.{Ok}
use Rattle.insert.specs.declared.plan.Plan.TheVariants.{New}
use lib.ListN.{length}
use Rattle.frames.specs.Frame.{FrameOf, root_word, count_word, frame}
use Rattle.frames.specs.Place.{ref_of}
use Rattle.frames.specs.declared.frame.Frame.{Frame}
use Rattle.records.specs.View.{Held}
use Rattle.art.specs.Tags.{Tag}
use Rattle.art.specs.Trees.{Tree, leaf, contents}
use Rattle.art.specs.Puts.{put}
use Rattle.art.specs.Changes.{Plan, grow}
use Rattle.art.specs.Deletes.{held}
use Rattle.art.specs.Orders.{after}
use Rattle.art.specs.Stores.{leaf_place, leaf_cell, Store, write, root, store}
use Rattle.art.specs.Chain.{Links, Linked, leaf_ref, before_ref, link_in, option_ref, leaves}
use Rattle.art.specs.Points.{store_of}
use Rattle.art.proofs.Changes.{grow_contents, grow_good}
use Rattle.art.proofs.Counts.{grow_count}
use Rattle.art.proofs.Stores.{once_grow}
use Rattle.art.proofs.Chains.{linked_before, linked_in}
use Rattle.art.proofs.Leaves.{grow_linked}
use Rattle.view.specs.Links.{links_of}
use Rattle.whole.specs.Sound.{Rooted, Sound}
use Rattle.reading.specs.Answers.{Bytes}
use Rattle.reading.specs.Shown.{Shown}
use Rattle.writes.specs.Leaf.{key_in}
use Rattle.writes.specs.declared.leaf_node.Gap.{Gap}
use Rattle.states.specs.State.{State}
use Rattle.states.specs.Lowest.{Lowest}
use Rattle.states.proofs.Standing.{kept_end}
use Rattle.states.proofs.Steps.{state_root, state_count, state_leaf_in}
use Rattle.states.proofs.Lowest.{lowest_leaf}
use Rattle.states.proofs.Sounds.{sound_state, state_sound}
use Rattle.pointed.proofs.Sounds.{sound_shown}
use Rattle.pointed.proofs.Neighbours.{number_of, numbered}
use Rattle.insert.specs.declared.plan.Site.{Site}
use Rattle.insert.specs.Plan.{plan_of}
use Rattle.insert.specs.Apply.{hung, new_words}
use Rattle.insert.specs.Grown.{GrownFrom}
use Rattle.insert.proofs.Plans.{Planned, first, adds, grows, forks, Newly, plan_new}
use Rattle.insert.proofs.Gaps.{gap_next, gap_previous, next_used, previous_used}
use Rattle.insert.proofs.Ready.{new_pool}
use Rattle.insert.proofs.Hangs.{Hung, hung_tree}

-- the block has the frame, is sound, holds what d held and the tag, and its tree is d grown
abbrev NowHolds : Frame → (words keys : List ℕ) → Tag → Held → Option (Tree Held) → Type 0
NowHolds f words keys tag a d = FrameOf f words keys × (s : Sound words keys) × (held s.tree ≡ put tag a (held d)) × GrownFrom f d tag a s.tree

module _ {f : Frame} {words keys tag : List ℕ} {site : Site} {n : ℕ} {gap : Gap} (total : ℕ) (short : length tag ≤ f.form.limit) (p : Newly f words keys tag site n gap) where
  abbrev a : Held
  a = record { number = n; total = total }

  -- ── the leaf and the count, after the tree's records ──
  module _ {d : Option (Tree Held)} {count : ℕ} (s : Shown f words keys d) (st : State f words keys (store_of d) (links_of f words) (root_word words) count) where
    -- the new leaf is the lowest free one
    leaf_low : Lowest f (store_of d) leaf_place n
    leaf_low = lowest_leaf st n p.number p.room

    new_state : (τ : Store Held) (ref : ℕ) → State f (hung f keys tag site (leaf_ref n) words) keys τ (links_of f words) ref count → ((m : ℕ) → τ (leaf_place m) ≡ store_of d (leaf_place m))
        → State f (new_words f keys tag total site n gap words) (key_in f n tag keys) (write τ (leaf_place n) (leaf_cell tag a)) (link_in (links_of f words) n gap.previous gap.next) ref (count_word words + 1)
    unfolding new_words
    new_state τ ref h kept =
        state_count (state_leaf_in h n gap.previous gap.next total tag (new_pool s p) short
        (kept_end st h kept gap.previous (previous_used s tag gap p.placed)) (kept_end st h kept gap.next (next_used s tag gap p.placed))) (count_word words + 1)

  -- ── in a tree ──
  module _ {t : Tree Held} (s : Shown f words keys (some t)) (st : State f words keys (store t []) (links_of f words) (root_word words) (length (contents t))) (rooted : root_word words ≡ ref_of (root t)) where
    tree_linked : (w : List ℕ) (h : Hung f w keys t tag n (links_of f words) (length (contents t)))
        → Linked (link_in (links_of f words) n gap.previous gap.next) 0 (leaves (grow t h.plan tag a))
    tree_linked w h =
        let pl : Plan = h.plan in
        let k : Links = links_of f words in
        subst (λ (x : Links). Linked x 0 (leaves (grow t pl tag a)))
        (ap (λ (m : ℕ). link_in k m (before_ref k (option_ref number_of (after tag (contents t)))) (option_ref number_of (after tag (contents t)))) h.planted.number
        ∙ ap₂ (λ (x y : ℕ). link_in k n x y) (sym (gap_previous s tag gap p.placed)) (sym (gap_next s tag gap p.placed)))
        (grow_linked number_of k t s.good s.once (numbered s) pl tag a (sym h.planted.number) h.apart h.planted.fresh.0 s.linked)

    tree_sound : Hung f (hung f keys tag site (leaf_ref n) words) keys t tag n (links_of f words) (length (contents t)) → NowHolds f (new_words f keys tag total site n gap words) (key_in f n tag keys) tag a (some t)
    tree_sound h =
        let pl : Plan = h.plan in
        let made = subst (λ (σ : Store Held). State f (new_words f keys tag total site n gap words) (key_in f n tag keys) σ (link_in (links_of f words) n gap.previous gap.next) h.ref (count_word words + 1))
        (h.planted.makes a) (new_state s st h.cells h.ref h.state h.planted.kept) in
        let done = state_sound (some (grow t pl tag a)) made (grow_good t s.good pl tag a) (once_grow t pl [] tag a s.once h.planted.fresh) (h.planted.moves a) (tree_linked _ h)
        (omega (arith, st.count_is, grow_count t s.good pl tag a h.apart)) in (
          made.frame,
          done.0,
          ap held done.1 ∙ grow_contents t s.good pl tag a h.apart,
          record {
            plan = pl;
            fresh = h.planted.fresh;
            lowest = subst (Lowest f (store t []) leaf_place) (sym h.planted.number) (leaf_low s st);
            chosen = h.chosen;
            tree_is = done.1;
          },
        )

  -- ── the first tag ──
  module _ (s : Shown f words keys none) (st : State f words keys (store_of none) (links_of f words) (root_word words) 0) where
    first_hung : (x : Site) → Planned f words keys tag x → State f (hung f keys tag x (leaf_ref n) words) keys (store_of none) (links_of f words) (leaf_ref n) 0
    unfolding hung
    first_hung x (first z) = state_root st (leaf_ref n)
    first_hung x (adds up ref byte u i room) = absurd (u s.rooted)
    first_hung x (grows up ref byte k m u i full fr) = absurd (u s.rooted)
    first_hung x (forks up ref l d c k m u i fr) = absurd (u s.rooted)

    first_linked : Linked (link_in (links_of f words) n gap.previous gap.next) 0 (n ∷ [])
    first_linked =
        let k : Links = links_of f words in
        subst (λ (x : Links). Linked x 0 (n ∷ []))
        (ap₂ (λ (x y : ℕ). link_in k n x y) (sym (gap_previous s tag gap p.placed ∙ linked_before k [] [] s.linked)) (sym (gap_next s tag gap p.placed)))
        (linked_in k n [] [] tt (λ h. h) s.linked)

    first_sound : NowHolds f (new_words f keys tag total site n gap words) (key_in f n tag keys) tag a none
    first_sound =
        let made = new_state s st (store_of none) (leaf_ref n) (first_hung site p.planned) (λ m. refl) in
        let done = state_sound (some (leaf n tag a)) made tt tt refl first_linked (omega (arith, st.count_is)) in
        (made.frame, done.0, ap held done.1, (leaf_low s st, done.1))

  -- ── either ──
  block_sound : Bytes tag → Bytes keys → (d : Option (Tree Held)) → Shown f words keys d → State f words keys (store_of d) (links_of f words) (root_word words) (length (held d)) → Rooted (root_word words) d
      → NowHolds f (new_words f keys tag total site n gap words) (key_in f n tag keys) tag a d
  block_sound tag_bytes key-bytes none s st r = first_sound s st
  block_sound tag_bytes key-bytes (some t) s st r =
      tree_sound s st r
      (hung_tree s (subst (λ (x : ℕ). State f words keys (store t []) (links_of f words) x (length (contents t))) r st) tag tag_bytes key-bytes short n (new_pool s p) (leaf_low s st).free site p.planned)

module _ {words keys : List ℕ} (s : Sound words keys) (tag : List ℕ) (tag_bytes : Bytes tag) (key-bytes : Bytes keys) (short : length tag ≤ (frame words).form.limit) (site : Site) (n : ℕ) (gap : Gap) (total : ℕ)
    (e : plan_of (frame words) words keys tag ≡ Ok (New site n gap)) where
  made_sound : NowHolds (frame words) (new_words (frame words) keys tag total site n gap words) (key_in (frame words) n tag keys) tag (record { number = n; total = total }) s.tree
  made_sound = block_sound total short (plan_new (frame words) words keys tag site n gap e) tag_bytes key-bytes s.tree (sound_shown s) (sound_state s) s.rooted

  -- after a new leaf a sound block has its frame still
  pub insert_fits : FrameOf (frame words) (new_words (frame words) keys tag total site n gap words) (key_in (frame words) n tag keys)
  insert_fits = made_sound.0

  -- it is sound, and its list has the tag put in with its leaf's number and its total
  pub insert_sound_lem : (s' : Sound (new_words (frame words) keys tag total site n gap words) (key_in (frame words) n tag keys)) × (held s'.tree ≡ put tag (record { number = n; total = total }) (held s.tree))
  insert_sound_lem = (made_sound.1, made_sound.2)

  -- its tree is the one before, grown by a plan that takes the smallest kinds and lowest numbers
  pub insert_grown : (s' : Sound (new_words (frame words) keys tag total site n gap words) (key_in (frame words) n tag keys)) × GrownFrom (frame words) s.tree tag (record { number = n; total = total }) s'.tree
  insert_grown = (made_sound.1, made_sound.3)
