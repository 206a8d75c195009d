-- Blocks that the check finds sound, by computing: an empty one, one of one tag, and one of two tags below an inner record; and the last with one word changed, which it does not.
use Prim.Native.Nat.{ℕ}
use mathlib.Core.Path.{◌≡◌, refl}
use mathlib.Core.List.{List, [], ◌∷◌, ◌++◌}
use mathlib.Core.Bool.{true, false, not, ◌&&◌}
use borrow.Author.Tests.{not-true}
use Rattle.lists.proofs.Tests.{both}
use lib.ListN.{replicate, set}
use Rattle.frames.specs.Kind.{kind_row}
use Rattle.frames.specs.Form.{form_of, form_known, stored_of}
use Rattle.frames.specs.Frame.{form_fits, trailer_fits, frame_fits, frame_of}
use Rattle.records.specs.Own.{prefix_at, head_ok, sorted_ok, body_ok, inner_ok, leaf_ok}
use Rattle.records.specs.Row.{body_row}
use Rattle.tree.specs.Arrive.{arrival_at}
use Rattle.whole.specs.Marks.{places_in, fresh, reached}
use Rattle.tree.specs.Seen.{tag_at}
use Rattle.whole.specs.Witness.{goes_on, stored_agrees}
use Rattle.whole.specs.Visit.{leaf_visit, turn_at, row_end, row_by, record_by}
use Rattle.whole.specs.Sweep.{swept_at, swept_pool, swept}
use Rattle.whole.specs.Check.{root_way, way_well, whole_by, whole_of}
use Rattle.whole.specs.Sound.{Sound}
use Rattle.whole.proofs.Sounds.{whole_sound}

-- no records, and no tag
abbrev pub none_words : List ℕ
none_words = 1 ∷ 0 ∷ 0 ∷ 0 ∷ 0 ∷ 0 ∷ 0 ∷ 0 ∷ 0 ∷ 0 ∷ 0 ∷ 0 ∷ 0 ∷ 0 ∷ 0 ∷ 16 ∷ []

-- a leaf with the tag A
abbrev pub one_words : List ℕ
one_words = 1 ∷ 1 ∷ 0 ∷ 0 ∷ 7 ∷ 0 ∷ 1 ∷ 6 ∷ 6 ∷ 6 ∷ 6 ∷ 6 ∷ 0 ∷ 0 ∷ 0 ∷ 0 ∷ 1 ∷ 5 ∷ 5 ∷ 5 ∷ 1 ∷ 22 ∷ []

abbrev pub one_keys : List ℕ
one_keys = 65 ∷ replicate 63 0

-- a record of kind 1 over two leaves with the tags A and B
abbrev pub two_words : List ℕ
two_words =
    (1 ∷ 2 ∷ 0 ∷ 0 ∷ 0 ∷ 0 ∷ 0 ∷ 0 ∷ 0 ∷ 0 ∷ 0 ∷ 65 ∷ 66 ∷ 0 ∷ 0 ∷ 5 ∷ 13 ∷ 0 ∷ 0 ∷ [])
    ++ (1 ∷ 1 ∷ 0 ∷ 13 ∷ 7 ∷ 0 ∷ 1 ∷ 1 ∷ 5 ∷ 0 ∷ 8 ∷ 0 ∷ [])
    ++ (1 ∷ 31 ∷ 12 ∷ 12 ∷ 12 ∷ 12 ∷ 1 ∷ 0 ∷ 0 ∷ 0 ∷ 2 ∷ 1 ∷ 5 ∷ 13 ∷ 2 ∷ 47 ∷ [])

abbrev pub two_keys : List ℕ
two_keys = 65 ∷ replicate 63 0 ++ 66 ∷ replicate 63 0

-- word 27 is the second leaf's previous
abbrev pub broken_words : List ℕ
broken_words = set two_words 27 0

samples : whole_of none_words [] && (whole_of one_words one_keys && (whole_of two_words two_keys && not (whole_of broken_words two_keys))) ≡ true
unfolding frame_fits trailer_fits form_fits frame_of form_of form_known kind_row stored_of prefix_at head_ok sorted_ok body_ok inner_ok leaf_ok body_row arrival_at places_in fresh reached tag_at goes_on stored_agrees leaf_visit turn_at row_end row_by record_by swept_at swept_pool swept root_way way_well whole_by whole_of
samples = refl

abbrev after_none : (whole_of none_words [] ≡ true) × (whole_of one_words one_keys && (whole_of two_words two_keys && not (whole_of broken_words two_keys)) ≡ true)
after_none = both (whole_of none_words []) (whole_of one_words one_keys && (whole_of two_words two_keys && not (whole_of broken_words two_keys))) samples

abbrev after_one : (whole_of one_words one_keys ≡ true) × (whole_of two_words two_keys && not (whole_of broken_words two_keys) ≡ true)
after_one = both (whole_of one_words one_keys) (whole_of two_words two_keys && not (whole_of broken_words two_keys)) after_none.1

abbrev after_two : (whole_of two_words two_keys ≡ true) × (not (whole_of broken_words two_keys) ≡ true)
after_two = both (whole_of two_words two_keys) (not (whole_of broken_words two_keys)) after_one.1

pub none_sound : Sound none_words []
none_sound = whole_sound none_words [] after_none.0

pub one_sound : Sound one_words one_keys
one_sound = whole_sound one_words one_keys after_one.0

pub two_sound : Sound two_words two_keys
two_sound = whole_sound two_words two_keys after_two.0

pub broken_found : whole_of broken_words two_keys ≡ false
broken_found = not-true (whole_of broken_words two_keys) after_two.1
