-- The line that the program prints, by the bytes of the file and the beginning.
use Rattle.std.specs.Prelude.{ℕ, List, replicate, Some, None, Err}
use Rattle.refusals.specs.declared.Refusal.TheVariants.{Damaged}
use Rattle.saved.specs.Saved.{Saved, words_of, keys_of, block_of}
use Rattle.stations.specs.Stations.{Totalled, number_of, tally_in, total_of}
use Rattle.station.specs.declared.Line.{Line}

-- what a station total finds, and zeros where it is refused
abbrev pub line_as : Totalled → Line
line_as a = record { number = number_of a; count = (tally_in a).count; low = (tally_in a).low; carries = (tally_in a).carries }

-- scratch is 1,152 zeros, which is enough for every block that fits a file (`never_short`, in proofs/Files)
unfoldable pub block_line : (words keys beginning : List ℕ) → Line
block_line words keys beginning = line_as (total_of words keys (replicate 1152 0) beginning).result

-- any other file is 6
abbrev pub saved_line : (file beginning : List ℕ) → Saved → Line
saved_line file beginning (Some n) = block_line (words_of file n) (keys_of file n) beginning
saved_line file beginning None = line_as (Err Damaged)

-- the line of a file
unfoldable pub line_of : (file beginning : List ℕ) → Line
line_of file beginning = saved_line file beginning (block_of file)
