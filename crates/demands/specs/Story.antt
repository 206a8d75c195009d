-- What is known of a block after any calls, by the ledger of the accepted ones.
use Rattle.std.specs.Prelude.{ℕ, ◌+◌, List, ◌≡◌}
use Rattle.frames.specs.Frame.{count_word}
use Rattle.art.specs.Drawings.{draw}
use Rattle.art.specs.Deletes.{held}
use Rattle.art.specs.Facts.{branchings}
use Rattle.reading.specs.Answers.{Bytes}
use Rattle.reading.specs.Calls.{Reads}
use Rattle.whole.specs.Sound.{Sound}
use Rattle.demands.specs.Calls.{Call, run}
use Rattle.reading.specs.Listing.{totals}
use Rattle.demands.specs.Histories.{Block, lent, CallBytes}
use Rattle.demands.specs.Drawn.{drawing_of, used_inner}
use Rattle.demands.specs.Listed.{Suffices, Listed}
use Rattle.demands.specs.Ledger.{Ledger}
use Rattle.demands.specs.Programs.{seen, tells}

-- b holds the tags and totals of the ledger, as many as were put in and not taken out
pub record Story (b : Block) (k : Ledger) : Type 0 where
  pub sound : Sound b.words b.keys
  -- its key bytes are bytes still, as the theorems on a next call ask
  pub bytes : Bytes b.keys
  -- what it holds is what the accepted calls define
  pub totals_are : totals (held sound.tree) ≡ k.list
  -- which is sorted, read by the reading calls and listed by a walk from leaf to leaf
  pub reads : Reads b.words b.keys (held sound.tree)
  -- and the answer of any call, made next with scratch enough, is the list's
  pub listed : (c : Call) → CallBytes c → (r : List ℕ) → Suffices c (lent b r) → Listed sound c (tells (seen run) b c r)
  -- it draws what these tags alone draw
  pub draws : drawing_of b.words b.keys ≡ draw k.list
  -- with as many inner records in use as the drawing has branchings
  pub inner : used_inner b.words ≡ branchings (draw k.list)
  -- the count word and the accepted deletes since start are together the accepted new inserts
  pub count : count_word b.words + k.deletes ≡ k.inserts
