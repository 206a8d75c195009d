-- The line of any file: of a saved block that is sound the tally, with number 0, and of every other file 6 with zeros.
use Prim.Native.Nat.{ℕ, ◌+◌, ◌*◌, ◌≤◌}
use mathlib.Core.Path.{◌≡◌, refl, sym, ap, ap₂, subst, ◌∙◌}
use mathlib.Core.Logic.{◌≢◌}
use mathlib.Core.List.{List, [], ◌∷◌}
use mathlib.Core.Bool.{Bool, true, false}
use native.Mathlib.Omega.{arith}
use Rattle.std.specs.Prelude.{Some, None, Ok, Err}
use Rattle.refusals.specs.declared.Refusal.TheVariants.{Damaged}
use Rattle.saved.specs.Saved.{Saved, words_of, keys_of, block_of, file_of}
use lib.ListN.{length, length-drop}
use lib.Dec.{lit≤}
use Rattle.saved.proofs.Blocks.{block_fits, numbers_length}
use Rattle.saved.proofs.Saves.{saved_block, saved_words, saved_keys}
use Rattle.frames.specs.Kind.{kind_row}
use Rattle.frames.specs.Form.{form_of}
use Rattle.frames.specs.Frame.{frame_of}
use Rattle.records.specs.Own.{total_of}
use Rattle.tally.specs.Tally.{added_of}
use Rattle.whole.proofs.Samples.{two_words, two_keys, two_sound}
use Rattle.whole.specs.Check.{whole_of}
use Rattle.whole.specs.Sound.{Sound}
use Rattle.whole.proofs.Sounds.{whole_sound, sound_whole}
use Rattle.stations.specs.Stations.{starts_so, leaf_entry, entry_of, tally_one, tally_from, tally_of}
use Rattle.station.specs.declared.Line.{Line}
use Rattle.station.specs.Line.{line_as, block_line, saved_line, line_of}
use Rattle.station.proofs.Rooms.{plain, total_plain}

module _ (file beginning : List ℕ) where
  pub other_six : None ≡ block_of file → line_of file beginning ≡ line_as (Err Damaged)
  unfolding line_of
  other_six e = ap (saved_line file beginning) (sym e)

  module _ {n : ℕ} (e : (Some n) ≡ block_of file) where
    abbrev words : List ℕ
    words = words_of file n

    abbrev keys : List ℕ
    keys = keys_of file n

    -- the count, the words and the key bytes are the whole file
    bytes : 4 + 4 * length words + length keys ≤ 60000
    bytes = omega (arith, block_fits file e, numbers_length file 4 n, length-drop (4 + 4 * n) file)

    line_plain : line_of file beginning ≡ line_as (plain words keys beginning (whole_of words keys))
    unfolding line_of block_line
    line_plain = ap (saved_line file beginning) (sym e) ∙ ap line_as (total_plain words keys beginning bytes)

    pub sound_line : Sound words keys → line_of file beginning ≡ line_as (Ok (tally_of words keys beginning))
    sound_line s = line_plain ∙ ap (λ (w : Bool). line_as (plain words keys beginning w)) (sound_whole words keys s)

    pub unsound_six : ¬ Sound words keys → line_of file beginning ≡ line_as (Err Damaged)
    unsound_six ne = go (whole_of words keys) refl
      where
        go : (w : Bool) → whole_of words keys ≡ w → line_of file beginning ≡ line_as (Err Damaged)
        go true w = absurd (ne (whole_sound words keys w))
        go false w = line_plain ∙ ap (λ (b : Bool). line_as (plain words keys beginning b)) w

    -- by the whole check it is 0 or 6
    block_number : ((line_of file beginning).number ≡ 7) → ⊥
    block_number h = go (whole_of words keys) (sym (ap (λ (l : Line). l.number) line_plain) ∙ h)
      where
        go : (w : Bool) → (line_as (plain words keys beginning w)).number ≡ 7 → ⊥
        go true z = omega arith
        go false z = omega arith

  -- scratch is never too short
  pub never_short : (line_of file beginning).number ≢ 7
  never_short h = go (block_of file) refl
    where
      go : (b : Saved) → b ≡ block_of file → ⊥
      go (Some n) e = block_number e h
      go None e = let z : ◌≡◌ {A = ℕ} 6 7 = sym (ap (λ (l : Line). l.number) (other_six e)) ∙ h in omega arith

-- ── a block that was saved ──
-- of a sound block that fits a file the line is its tally
pub saved_line_lem : (words keys beginning : List ℕ) → 4 + 4 * length words + length keys ≤ 60000 → Sound words keys → line_of (file_of words keys) beginning ≡ line_as (Ok (tally_of words keys beginning))
saved_line_lem words keys beginning h s =
    let w = saved_words words keys in
    let k = saved_keys words keys in
    sound_line (file_of words keys) beginning (saved_block words keys h) (subst (λ (x : List ℕ). Sound x (keys_of (file_of words keys) (length words))) (sym w) (subst (Sound words) (sym k) s))
    ∙ ap₂ (λ (x y : List ℕ). line_as (Ok (tally_of x y beginning))) w k

-- two tags, A with 7 and B with 8: both begin with nothing, and one begins with A
pub two_lines : (line_of (file_of two_words two_keys) [] ≡ record { number = 0; count = 2; low = 15; carries = 0 }) × (line_of (file_of two_words two_keys) (65 ∷ []) ≡ record { number = 0; count = 1; low = 7; carries = 0 })
unfolding frame_of form_of kind_row starts_so leaf_entry entry_of tally_one tally_from added_of total_of
two_lines = (saved_line_lem two_words two_keys [] (lit≤ tt) two_sound, saved_line_lem two_words two_keys (65 ∷ []) (lit≤ tt) two_sound)
