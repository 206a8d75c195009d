-- The theorems on files, each applied to one that is written out.
use mathlib.Core.Path.{◌≡◌, refl, sym}
use mathlib.Core.Logic.{◌≢◌}
use mathlib.Core.List.{[], ◌∷◌}
use mathlib.Core.Bool.{true≢false}
use Rattle.std.specs.Prelude.{Ok}
use lib.ListN.{take}
use lib.Dec.{lit≤}
use Rattle.art.specs.Deletes.{held}
use Rattle.art.specs.Listings.{begun_with}
use Rattle.frames.specs.Frame.{frame_fits}
use Rattle.reading.specs.Listing.{totals}
use Rattle.whole.proofs.Samples.{two_words, two_keys, two_sound}
use Rattle.saved.specs.Saved.{block_of, file_of}
use Rattle.saved.proofs.Saves.{saved_block}
use Rattle.stations.specs.Stations.{tally_is}
use Rattle.station.specs.declared.Line.{Line}
use Rattle.station.specs.Line.{line_as, line_of}
use Rattle.station.proofs.Files.{other_six, unsound_six, never_short}
use Rattle.station.proofs.Sorted.{sorted_line}
use Rattle.station.proofs.Cuts.{cut_file, cut_beginning}

-- six and zeros
abbrev six : Line
six = record { number = 6; count = 0; low = 0; carries = 0 }

-- no byte is no block
empty_six : line_of [] [] ≡ six
unfolding block_of
empty_six = other_six [] [] refl

-- a block of no words has no trailer
wordless_six : line_of (0 ∷ 0 ∷ 0 ∷ 0 ∷ []) [] ≡ six
unfolding block_of frame_fits
wordless_six = unsound_six (0 ∷ 0 ∷ 0 ∷ 0 ∷ []) [] refl (λ s. true≢false (sym s.fits))

-- of the file of two tags 7 does not come, and its bytes and those of the beginning are read all
two_never : (line_of (file_of two_words two_keys) []).number ≢ 7
two_never = never_short (file_of two_words two_keys) []

two_uncut : line_of (take 60001 (file_of two_words two_keys)) [] ≡ line_of (file_of two_words two_keys) []
two_uncut = cut_file (file_of two_words two_keys) []

two_all : line_of (file_of two_words two_keys) (take 4096 (65 ∷ [])) ≡ line_of (file_of two_words two_keys) (65 ∷ [])
two_all = cut_beginning (file_of two_words two_keys) (65 ∷ [])

-- both tags are counted, and their totals, 7 and 8, added up
two_sorted : line_of (file_of two_words two_keys) [] ≡ line_as (Ok (tally_is (begun_with [] (totals (held two_sound.tree)))))
two_sorted = sorted_line (file_of two_words two_keys) [] (saved_block two_words two_keys (lit≤ tt)) two_sound
