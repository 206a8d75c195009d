-- What `main` leaves unread changes nothing: of a file that is too long the first 60,001 bytes are too long, and of a beginning that is longer than any tag the first 4,096 bytes are.
use Prim.Native.Nat.{ℕ, zero, suc, ◌+◌, ◌-◌, ◌*◌, ◌≤◌, ◌<◌}
use mathlib.Core.Path.{◌≡◌, refl, sym, ap, ◌∙◌}
use mathlib.Core.List.{List, [], ◌∷◌}
use mathlib.Core.Bool.{Bool, true, false, ◌&&◌, and-false}
use native.Mathlib.Omega.{arith}
use native.Mathlib.Decide.{dec_le}
use Rattle.std.specs.Prelude.{Some, None, Ok}
use Rattle.saved.specs.Saved.{Saved, words_of, keys_of, block_of}
use lib.ListN.{length, take, drop, length-take}
use lib.Seq.{take_all, length-take-le}
use lib.Dec.{eqb, ltb}
use Rattle.lists.specs.Scan.{choose}
use Rattle.lists.specs.Compare.{begins}
use Rattle.art.specs.Stores.{Place, leaf_place, inner_place}
use Rattle.frames.specs.Frame.{frame, first_word, count_word}
use Rattle.frames.specs.Place.{place_at, in_pool, record_at, key_at}
use Rattle.frames.specs.declared.frame.Frame.{Frame}
use Rattle.frames.proofs.Frames.{limit_small}
use Rattle.records.specs.Words.{tag_length}
use Rattle.tally.specs.declared.Tally.{Tally}
use Rattle.tally.specs.Tally.{nothing}
use Rattle.stations.specs.Stations.{starts_so, leaf_entry, no_entry, place_entry, entry_of, tally_one, tally_from}
use Rattle.stations.specs.declared.Entry.{Entry}
use Rattle.saved.proofs.Blocks.{too_long}
use Rattle.whole.specs.Check.{whole_of}
use Rattle.whole.specs.Sound.{Sound}
use Rattle.whole.proofs.Sounds.{whole_sound, sound_whole}
use Rattle.station.specs.Line.{line_as, line_of}
use Rattle.station.proofs.Files.{other_six, sound_line, unsound_six}

-- ── the file ──
pub cut_file : (file beginning : List ℕ) → line_of (take 60001 file) beginning ≡ line_of file beginning
cut_file file beginning = go (dec_le (length file) 60001)
  where
    go : Dec (length file ≤ 60001) → line_of (take 60001 file) beginning ≡ line_of file beginning
    go (yes h) = ap (λ (f : List ℕ). line_of f beginning) (take_all 60001 file h)
    go (no n) =
        let l : length (take 60001 file) ≡ 60001 = length-take-le 60001 file (omega arith) in
        other_six (take 60001 file) beginning (too_long _ (omega arith) (omega arith)) ∙ sym (other_six file beginning (too_long _ (omega arith) (omega arith)))

-- ── the beginning ──
begins_none : (xs ys : List ℕ) → length ys < length xs → begins xs ys ≡ false
begins_none [] ys h = absurd (omega arith)
begins_none (x ∷ xs) [] h = refl
begins_none (x ∷ xs) (y ∷ ys) h = ap (λ (b : Bool). eqb x y && b) (begins_none xs ys (omega arith)) ∙ and-false (eqb x y)

-- so no leaf's tag begins with it
starts_none : (rec key bytes : List ℕ) → length key < length bytes → starts_so rec key bytes ≡ false
unfolding starts_so
starts_none rec key bytes h = go (ltb (length key) (tag_length rec)) (tag_length rec)
  where
    go : (t : Bool) (n : ℕ) → choose t false (begins bytes (take n key)) ≡ false
    go true n = refl
    go false n = begins_none bytes (take n key) (omega (arith, length-take n key))

-- and any two of them find the same in a block
module _ (f : Frame) (words keys : List ℕ) (limit : f.form.limit ≤ 128) (one other : List ℕ) (h : 128 < length one) (g : 128 < length other) where
  key_short : (n : ℕ) → length (key_at f keys n) ≤ 128
  key_short n = let a = n * f.form.limit in omega (arith, length-take (a + f.form.limit - a) (drop a keys))

  leaf_alike : (rec key : List ℕ) → length key ≤ 128 → leaf_entry rec key one ≡ leaf_entry rec key other
  unfolding leaf_entry
  leaf_alike rec key k =
      ap (λ (c : Bool). record { counts = c; total = (leaf_entry rec key one).total; next = (leaf_entry rec key one).next }) (starts_none rec key one (omega arith) ∙ sym (starts_none rec key other (omega arith)))

  entry_alike : (p : Place) → place_entry f words keys one p ≡ place_entry f words keys other p
  entry_alike (leaf_place n) = ap (λ (e : Entry). choose (in_pool f (leaf_place n)) e no_entry) (leaf_alike (record_at f words (leaf_place n)) (key_at f keys n) (key_short n))
  entry_alike (inner_place k n) = refl

  from_alike : (left : ℕ) (t : Tally) (ref : ℕ) → tally_from f words keys one left t ref ≡ tally_from f words keys other left t ref
  unfolding tally_from entry_of
  from_alike zero t ref = refl
  from_alike (suc left) t ref = ap (λ (e : Entry). tally_from f words keys one left (tally_one t e) e.next) (entry_alike (place_at ref)) ∙ from_alike left _ _

long_alike : (file one other : List ℕ) → 128 < length one → 128 < length other → line_of file one ≡ line_of file other
long_alike file one other h g = by (block_of file) refl
  where
    by : (b : Saved) → b ≡ block_of file → line_of file one ≡ line_of file other
    by None e = other_six file one e ∙ sym (other_six file other e)
    by (Some n) e = go (whole_of words keys) refl
      where
        words : List ℕ
        words = words_of file n

        keys : List ℕ
        keys = keys_of file n

        go : (w : Bool) → whole_of words keys ≡ w → line_of file one ≡ line_of file other
        go true w =
            let s = whole_sound words keys w in
            let limit = limit_small (record { read = refl; fits = s.fits }) in
            sound_line file one e s ∙ ap (λ (t : Tally). line_as (Ok t)) (from_alike (frame words) words keys limit one other h g (count_word words) nothing (first_word words)) ∙ sym (sound_line file other e s)
        go false w =
            let ne : ¬ Sound words keys = λ s. (let z : ◌≡◌ {A = ℕ} 0 1 = cc (sound_whole words keys s) in omega arith) in
            unsound_six file one e ne ∙ sym (unsound_six file other e ne)

pub cut_beginning : (file beginning : List ℕ) → line_of file (take 4096 beginning) ≡ line_of file beginning
cut_beginning file beginning = go (dec_le (length beginning) 4096)
  where
    go : Dec (length beginning ≤ 4096) → line_of file (take 4096 beginning) ≡ line_of file beginning
    go (yes h) = ap (line_of file) (take_all 4096 beginning h)
    go (no n) = long_alike file (take 4096 beginning) beginning (omega (arith, length-take-le 4096 beginning (omega arith))) (omega arith)
