-- On every sound block the reading calls answer as the sorted list of its tags and totals.
use Prim.Native.Nat.{ℕ}
use mathlib.Core.List.{List}
use Rattle.art.specs.Deletes.{held}
use Rattle.reading.specs.Calls.{Reads}
use Rattle.reading.proofs.Calls.{reads_shown}
use Rattle.whole.specs.Sound.{Sound}
use Rattle.pointed.proofs.Sounds.{sound_shown}

-- what the calls' definitions say of it
pub reading_meets : {words keys : List ℕ} (s : Sound words keys) → Reads words keys (held s.tree)
reading_meets s = reads_shown (sound_shown s)
