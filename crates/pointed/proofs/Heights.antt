-- No form allows tags of more than 128 bytes, and a path has at most as many inner records as a tag has bytes: 129 records are enough for every tree.
use Prim.Native.Nat.{ℕ, ◌<◌}
use mathlib.Core.List.{List}
use mathlib.Core.Option.{some}
use native.Mathlib.Omega.{arith}
use Rattle.frames.specs.declared.frame.Frame.{Frame}
use Rattle.records.specs.View.{Held}
use Rattle.art.specs.Trees.{Tree}
use Rattle.art.specs.Facts.{height}
use Rattle.reading.specs.Shown.{Shown}
use Rattle.reading.proofs.Entries.{few_inner}
use Rattle.frames.proofs.Frames.{limit_small}

-- one number of records is above the height of every tree that a block shows
pub shown_height : {f : Frame} {words keys : List ℕ} {t : Tree Held} → Shown f words keys (some t) → height t < 129
shown_height s = omega (arith, few_inner s, limit_small s.frame)
