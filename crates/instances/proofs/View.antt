-- Single writes on the block of A and B with room: each shows the one cell that it wrote, or the links, and every other place is as it was.
use Prim.Native.Nat.{ℕ, ◌≤◌, ◌+◌}
use mathlib.Core.Path.{◌≡◌, refl}
use mathlib.Core.Logic.{◌⊎◌, inl, inr, ◌≢◌}
use mathlib.Core.List.{List, [], ◌∷◌, ◌++◌}
use native.Mathlib.Omega.{arith}
use Rattle.std.specs.Prelude.{Err}
use Rattle.refusals.specs.declared.Refusal.TheVariants.{Unfit}
use lib.ListN.{replicate}
use Rattle.frames.specs.Form.{form_of, sizes_of}
use Rattle.frames.specs.Frame.{FrameOf, frame_with, frame}
use Rattle.frames.specs.Place.{start_at, size_at, record_at, put_at, put_key}
use Rattle.frames.specs.declared.frame.Frame.{Frame}
use Rattle.records.specs.View.{cell_of}
use Rattle.art.specs.Stores.{leaf_place, inner_place, unused, leaf_cell, inner_cell, write}
use Rattle.art.specs.Chain.{link_in, link_out}
use Rattle.lists.specs.Edit.{padded}
use Rattle.pools.specs.Leaf.{leaf_words, set_total}
use Rattle.pools.specs.Link.{set_trailer, set_next, set_previous}
use Rattle.pools.specs.Start.{start_of, out}
use Rattle.view.specs.Cells.{Same, word_zero}
use Rattle.view.specs.Empty.{Empty}
use Rattle.view.specs.Links.{links_of}
use Rattle.view.specs.Pools.{FreeAt, NoneFree}
use Rattle.view.proofs.Apart.{apart, keys_apart}
use Rattle.view.proofs.Puts.{put_cell, put_keeps, put_fits}
use Rattle.view.proofs.Leaves.{write_leaf, clear_leaf, total_cell}
use Rattle.view.proofs.Chains.{in_last, in_first, out_last, out_first}
use Rattle.view.proofs.Trailers.{trailer_view, trailer_fits_lem}
use Rattle.view.proofs.Pools.{lowest_free_lem, lowest_used, kind_free, kind_none}
use Rattle.view.proofs.Starts.{start_empty, start_refused}
use Rattle.whole.proofs.Samples.{two_words}
use Rattle.instances.specs.Opened.{opened}
use Rattle.instances.specs.Blocks.{bare, room, caps, A, C, holding}
use Rattle.instances.proofs.Sounds.{room_framed}

abbrev f : Frame
f = frame room.words

-- ── places share no word ──
records_apart : (start_at f (inner_place 1 0) + size_at f (inner_place 1 0) ≤ start_at f (leaf_place 2)) ⊎ (start_at f (leaf_place 2) + size_at f (leaf_place 2) ≤ start_at f (inner_place 1 0))
unfolding opened
records_apart = apart room_framed (inner_place 1 0) (leaf_place 2) refl refl (λ e. let z : ◌≡◌ {A = ℕ} 0 1 = cc in omega arith)

tags_apart : (0 + 64 ≤ 128) ⊎ (128 + 64 ≤ 0)
tags_apart = keys_apart 64 0 2 (λ e. omega arith)

-- ── a record written: a child more for the record of kind 1 ──
abbrev rec : List ℕ
rec = (1 ∷ 3 ∷ 0 ∷ replicate 8 0) ++ (65 ∷ 66 ∷ 67 ∷ 0 ∷ 5 ∷ 13 ∷ 21 ∷ 0 ∷ [])

put_shows : cell_of f (put_at f room.words (inner_place 1 0) rec) room.keys
    ≡ write (cell_of f room.words room.keys) (inner_place 1 0) (inner_cell 0 [] ((65, leaf_place 0) ∷ (66, leaf_place 1) ∷ (67, leaf_place 2) ∷ []))
unfolding opened
put_shows = put_cell room_framed (inner_place 1 0) rec refl refl

put_leaves : Same f room.words room.keys (put_at f room.words (inner_place 1 0) rec) room.keys (leaf_place 0)
unfolding opened
put_leaves = put_keeps room_framed (inner_place 1 0) rec refl refl (leaf_place 0) refl (λ e. let z : ◌≡◌ {A = ℕ} 0 1 = cc in omega arith)

put_framed : FrameOf f (put_at f room.words (inner_place 1 0) rec) room.keys
unfolding opened
put_framed = put_fits room_framed (inner_place 1 0) rec refl refl

-- ── leaf 2 with C and 9; leaf 0 cleared; another total for A ──
leaf_written : cell_of f (put_at f room.words (leaf_place 2) (leaf_words 1 13 0 9)) (put_key f room.keys 2 (padded 64 C)) ≡ write (cell_of f room.words room.keys) (leaf_place 2) (leaf_cell C (holding 2 9))
unfolding opened
leaf_written = write_leaf room_framed 2 refl C (omega arith) 13 0 9

leaf_cleared : cell_of f (put_at f room.words (leaf_place 0) (replicate 6 0)) (put_key f room.keys 0 (replicate 64 0)) ≡ write (cell_of f room.words room.keys) (leaf_place 0) unused
unfolding opened
leaf_cleared = clear_leaf room_framed 0 refl

total_shown : cell_of f (put_at f room.words (leaf_place 0) (set_total 5 (record_at f room.words (leaf_place 0)))) room.keys ≡ write (cell_of f room.words room.keys) (leaf_place 0) (leaf_cell A (holding 0 5))
unfolding opened
total_shown = total_cell room_framed 0 refl 5 {a = holding 0 7} refl

-- ── leaf 2 linked in after leaf 1, whichever is written first; leaf 1 taken out ──
linked_last : links_of f (put_at f (set_previous f 0 21 (set_next f 13 21 room.words)) (leaf_place 2) (leaf_words 1 13 0 9)) ≡ link_in (links_of f room.words) 2 13 0
unfolding opened
linked_last = in_last room_framed 2 refl 13 0 1 9 (inr (1, refl, refl)) (inl refl)

linked_first : links_of f (set_previous f 0 21 (set_next f 13 21 (put_at f room.words (leaf_place 2) (leaf_words 1 13 0 9)))) ≡ link_in (links_of f room.words) 2 13 0
unfolding opened
linked_first = in_first room_framed 2 refl 13 0 1 9 (inr (1, refl, refl)) (inl refl) (λ e. omega arith) (λ e. omega arith)

unlinked_last : links_of f (put_at f (set_previous f 0 5 (set_next f 5 0 room.words)) (leaf_place 1) (replicate 6 0)) ≡ link_out (links_of f room.words) 1
unfolding opened
unlinked_last = out_last room_framed 1 refl 5 0 refl refl (inr (0, refl, refl)) (inl refl)

unlinked_first : links_of f (set_previous f 0 5 (set_next f 5 0 (put_at f room.words (leaf_place 1) (replicate 6 0)))) ≡ link_out (links_of f room.words) 1
unfolding opened
unlinked_first = out_first room_framed 1 refl 5 0 refl refl (inr (0, refl, refl)) (inl refl) (λ e. omega arith) (λ e. omega arith)

-- ── another tag count ──
count_shows : cell_of f (set_trailer 14 3 room.words) room.keys ≡ cell_of f room.words room.keys
count_shows = trailer_view room_framed 14 3

count_framed : FrameOf f (set_trailer 14 3 room.words) room.keys
count_framed = trailer_fits_lem room_framed 14 3 (omega arith) (omega arith)

-- ── free records: leaf 2 is the lowest free leaf, the one of kind 2 the lowest record; with no room there is none ──
leaf_free : word_zero f room.words (leaf_place 2) ≡ 0
unfolding opened
leaf_free = lowest_free_lem f room.words (leaf_place 2) refl refl

leaf_used : word_zero f room.words (leaf_place 1) ≢ 0
unfolding opened
leaf_used = lowest_used f room.words (leaf_place 1) (omega arith)

kind_two : FreeAt f room.words 1 2 0
unfolding opened
kind_two = kind_free f room.words 1 2 0 refl

no_kind : NoneFree (frame two_words) two_words 1
unfolding opened
no_kind = kind_none (frame two_words) two_words 1 refl

-- ── start: on 47 words and 128 key bytes, and on one word less ──
started : Empty (frame_with (form_of 1) (sizes_of (form_of 1)) (caps 2)) bare.words bare.keys
unfolding opened
started = start_empty (replicate 47 3) (replicate 128 9) 1 (caps 2) refl

refused : start_of (replicate 46 3) (replicate 128 9) 1 (caps 2) ≡ out (Err Unfit) (replicate 46 3) (replicate 128 9)
unfolding opened
refused = start_refused (replicate 46 3) (replicate 128 9) 1 (caps 2) refl
