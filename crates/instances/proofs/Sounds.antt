-- The blocks are sound, by computing; and what any sound block holds, and what its tree is, can be computed from its words.
use Prim.Native.Nat.{ℕ, ◌≤◌}
use mathlib.Core.Path.{◌≡◌, refl, sym, ap, subst, ◌∙◌}
use mathlib.Core.List.{List, [], ◌∷◌}
use mathlib.Core.Option.{Option, none, some}
use native.Mathlib.Omega.{arith}
use Rattle.frames.specs.Frame.{FrameOf, root_word, count_word, frame}
use Rattle.frames.specs.Place.{place_at}
use Rattle.frames.specs.declared.frame.Frame.{Frame}
use Rattle.records.specs.View.{Held, cell_of}
use Rattle.art.specs.Tags.{Tag}
use Rattle.art.specs.Trees.{Tree, leaf}
use Rattle.art.specs.Stores.{Place, leaf_place, inner_place, Cell, unused, leaf_cell, inner_cell, Store}
use Rattle.art.specs.ReadBack.{Seen, read_cell, read, tree_of, first_tag}
use Rattle.art.proofs.ReadBack.{read_shown}
use Rattle.art.proofs.Stores.{used_not}
use Rattle.art.specs.Deletes.{held}
use Rattle.reading.specs.Shown.{Shown}
use Rattle.reading.specs.Listing.{list_of}
use Rattle.reading.proofs.Entries.{tree_shows}
use Rattle.whole.specs.Marks.{places_in}
use Rattle.whole.specs.Sound.{Sound}
use Rattle.whole.proofs.Sounds.{whole_sound}
use Rattle.whole.proofs.Samples.{two_words, two_keys, two_sound}
use Rattle.pointed.proofs.Heights.{shown_height}
use Rattle.pointed.proofs.Sounds.{sound_shown}
use Rattle.demands.specs.Tests.{Passed}
use Rattle.demands.proofs.Reading.{reading_meets}
use Rattle.instances.specs.Opened.{opened}
use Rattle.instances.specs.Blocks.{bare, spare, two, lone, room, three, swapped, full, wide, cramped, long, parted, lend, A, B, C, D, E, J1, J2, AX, holding, entry, pair, triple, quadruple, quintuple, long_tags, parted_tags}

-- ── sound by computing ──
pub bare_sound : Sound bare.words bare.keys
unfolding opened
bare_sound = whole_sound bare.words bare.keys refl

pub spare_sound : Sound spare.words spare.keys
unfolding opened
spare_sound = whole_sound spare.words spare.keys refl

pub lone_sound : Sound lone.words lone.keys
unfolding opened
lone_sound = whole_sound lone.words lone.keys refl

pub room_sound : Sound room.words room.keys
unfolding opened
room_sound = whole_sound room.words room.keys refl

pub three_sound : Sound three.words three.keys
unfolding opened
three_sound = whole_sound three.words three.keys refl

pub swapped_sound : Sound swapped.words swapped.keys
unfolding opened
swapped_sound = whole_sound swapped.words swapped.keys refl

pub full_sound : Sound full.words full.keys
unfolding opened
full_sound = whole_sound full.words full.keys refl

pub wide_sound : Sound wide.words wide.keys
unfolding opened
wide_sound = whole_sound wide.words wide.keys refl

pub cramped_sound : Sound cramped.words cramped.keys
unfolding opened
cramped_sound = whole_sound cramped.words cramped.keys refl

pub long_sound : Sound long.words long.keys
unfolding opened
long_sound = whole_sound long.words long.keys refl

pub parted_sound : Sound parted.words parted.keys
unfolding opened
parted_sound = whole_sound parted.words parted.keys refl

-- ── what a sound block holds ──
-- walking by next leaf lists it
pub holds_is : {words keys : List ℕ} (s : Sound words keys) → held s.tree ≡ list_of words keys (count_word words)
holds_is {words} s = sym ((reading_meets s).walk (count_word words) (omega (arith, s.count)))

-- ── its tree ──
-- read from the root on
abbrev pub tree_in : (words keys : List ℕ) → Option (Tree Held)
tree_in words keys = tree_of (read 129 (cell_of (frame words) words keys) [] (place_at (root_word words)))

-- where nothing stands nothing is read
none_read : (σ : Store Held) (rec : (p : Tag) (x : Place) → Option (Seen σ p x)) (o : Option Tag) (p : Tag) (x : Place) (c : Cell Held) (e : σ x ≡ c) → c ≡ unused → tree_of (read_cell σ rec o p x c e) ≡ none
none_read σ rec o p (leaf_place n) unused e u = refl
none_read σ rec o p (leaf_place n) (leaf_cell t a) e u = absurd (used_not (leaf_cell t a) tt u)
none_read σ rec o p (leaf_place n) (inner_cell len st rs) e u = refl
none_read σ rec o p (inner_place k n) unused e u = refl
none_read σ rec o p (inner_place k n) (leaf_cell t a) e u = refl
none_read σ rec o p (inner_place k n) (inner_cell len st rs) e u = absurd (used_not (inner_cell len st rs) tt u)

tree_read : {f : Frame} {words keys : List ℕ} (d : Option (Tree Held)) → Shown f words keys d → tree_of (read 129 (cell_of f words keys) [] (place_at (root_word words))) ≡ d
tree_read {f} {words} {keys} none s =
    let σ = cell_of f words keys in
    none_read σ (λ q y. read 128 σ q y) (first_tag 129 σ (place_at (root_word words))) [] (place_at (root_word words)) (σ (place_at (root_word words))) refl (s.cells (place_at (root_word words)))
tree_read {f} {words} {keys} (some t) s =
    ap (λ (x : Place). tree_of (read 129 (cell_of f words keys) [] x)) s.rooted ∙ read_shown t s.good [] (cell_of f words keys) (tree_shows s) 129 (shown_height s)

pub tree_is : {words keys : List ℕ} (s : Sound words keys) → s.tree ≡ tree_in words keys
tree_is s = sym (tree_read s.tree (sound_shown s))

-- ── what the blocks hold, and their trees ──
pub two_holds : held two_sound.tree ≡ entry A 0 7 ∷ entry B 1 8 ∷ []
unfolding opened
two_holds = holds_is two_sound

pub spare_holds : held spare_sound.tree ≡ entry A 0 7 ∷ []
unfolding opened
spare_holds = holds_is spare_sound

pub lone_holds : held lone_sound.tree ≡ entry A 0 7 ∷ []
unfolding opened
lone_holds = holds_is lone_sound

pub room_holds : held room_sound.tree ≡ entry A 0 7 ∷ entry B 1 8 ∷ []
unfolding opened
room_holds = holds_is room_sound

pub three_holds : held three_sound.tree ≡ entry A 0 7 ∷ entry B 1 8 ∷ entry C 2 9 ∷ []
unfolding opened
three_holds = holds_is three_sound

pub bare_holds : held bare_sound.tree ≡ []
unfolding opened
bare_holds = holds_is bare_sound

pub full_holds : held full_sound.tree ≡ entry A 0 1 ∷ entry B 1 2 ∷ entry C 2 3 ∷ entry D 3 4 ∷ []
unfolding opened
full_holds = holds_is full_sound

pub wide_holds : held wide_sound.tree ≡ entry A 0 1 ∷ entry B 1 2 ∷ entry C 2 3 ∷ entry D 3 4 ∷ entry E 4 5 ∷ []
unfolding opened
wide_holds = holds_is wide_sound

pub long_holds : held long_sound.tree ≡ entry J1 0 1 ∷ entry J2 1 2 ∷ []
unfolding opened
long_holds = holds_is long_sound

pub parted_holds : held parted_sound.tree ≡ entry J1 0 1 ∷ entry J2 1 2 ∷ entry AX 2 3 ∷ []
unfolding opened
parted_holds = holds_is parted_sound

pub bare_tree : bare_sound.tree ≡ none
unfolding opened
bare_tree = tree_is bare_sound

pub spare_tree : spare_sound.tree ≡ some (leaf 0 A (holding 0 7))
unfolding opened
spare_tree = tree_is spare_sound

pub lone_tree : lone_sound.tree ≡ some (leaf 0 A (holding 0 7))
unfolding opened
lone_tree = tree_is lone_sound

pub two_tree : two_sound.tree ≡ some pair
unfolding opened
two_tree = tree_is two_sound

pub room_tree : room_sound.tree ≡ some pair
unfolding opened
room_tree = tree_is room_sound

pub three_tree : three_sound.tree ≡ some triple
unfolding opened
three_tree = tree_is three_sound

pub full_tree : full_sound.tree ≡ some quadruple
unfolding opened
full_tree = tree_is full_sound

pub wide_tree : wide_sound.tree ≡ some quintuple
unfolding opened
wide_tree = tree_is wide_sound

pub cramped_tree : cramped_sound.tree ≡ some quintuple
unfolding opened
cramped_tree = tree_is cramped_sound

pub long_tree : long_sound.tree ≡ some long_tags
unfolding opened
long_tree = tree_is long_sound

pub parted_tree : parted_sound.tree ≡ some parted_tags
unfolding opened
parted_tree = tree_is parted_sound

-- its frame fits
pub room_framed : FrameOf (frame room.words) room.words room.keys
room_framed = record { read = refl; fits = room_sound.fits }

-- as a reader of the block sees it
pub two_shown : Shown (frame two_words) two_words two_keys (some pair)
two_shown = subst (Shown (frame two_words) two_words two_keys) two_tree (sound_shown two_sound)

-- ── with scratch enough ──
pub two_places : places_in (frame two_words) ≤ 3
unfolding opened
two_places = omega arith

pub lone_places : places_in (frame lone.words) ≤ 2
unfolding opened
lone_places = omega arith

pub room_places : places_in (frame room.words) ≤ 5
unfolding opened
room_places = omega arith

abbrev pub two_passed : Passed (lend two 3)
two_passed = record { room = two_places; sound = two_sound }

abbrev pub lone_passed : Passed (lend lone 2)
lone_passed = record { room = lone_places; sound = lone_sound }

abbrev pub room_passed : Passed (lend room 5)
room_passed = record { room = room_places; sound = room_sound }
