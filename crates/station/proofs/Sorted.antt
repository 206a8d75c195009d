-- The line of a saved block that is sound is that of its sorted list: the entries that begin so are counted and their totals added up.
use Prim.Native.Nat.{ℕ}
use mathlib.Core.Path.{◌≡◌, ap, ◌∙◌}
use mathlib.Core.List.{List}
use Rattle.std.specs.Prelude.{Some, Ok}
use Rattle.art.specs.Deletes.{held}
use Rattle.art.specs.Listings.{begun_with}
use Rattle.reading.specs.Listing.{totals}
use Rattle.whole.specs.Sound.{Sound}
use Rattle.pointed.proofs.Sounds.{sound_shown}
use Rattle.tally.specs.declared.Tally.{Tally}
use Rattle.stations.specs.Stations.{tally_is}
use Rattle.reading.proofs.Stations.{tally_shown}
use Rattle.saved.specs.Saved.{words_of, keys_of, block_of}
use Rattle.station.specs.Line.{line_as, line_of}
use Rattle.station.proofs.Files.{sound_line}

pub sorted_line : (file beginning : List ℕ) {n : ℕ} → Some n ≡ block_of file → (s : Sound (words_of file n) (keys_of file n)) → line_of file beginning ≡ line_as (Ok (tally_is (begun_with beginning (totals (held s.tree)))))
sorted_line file beginning e s = sound_line file beginning e s ∙ ap (λ (t : Tally). line_as (Ok t)) (tally_shown (sound_shown s) beginning s.count)
