-- What comes of a delete on a sound block: as the sorted list of its tags and totals would have it.
use Rattle.std.specs.Prelude.{ℕ, ◌≡◌, List, Ok, Err}
use Rattle.std.proofs.Math.Option.{Option, none, some}
use Rattle.refusals.specs.declared.Refusal.TheVariants.{Missing}
use Rattle.delete.specs.Answer.{Deleted}
use Rattle.records.specs.View.{Held}
use Rattle.art.specs.Tags.{Listing}
use Rattle.art.specs.Listings.{lookup}
use Rattle.art.specs.Puts.{leave}
use Rattle.art.specs.Deletes.{held}
use Rattle.whole.specs.Sound.{Sound}
use Rattle.delete.specs.Delete.{Out}

-- for what is held for the tag: its total, or 1 where nothing is
abbrev pub answer_of : Option Held → Deleted
answer_of none = Err Missing
answer_of (some a) = Ok a.total

-- the answer is the list's, and a sound block is left that holds the list without the tag; scratch is as it was
pub record Deletes (tag scratch : List ℕ) (l : Listing Held) (o : Out) : Type 0 where
  pub answer : o.answer ≡ answer_of (lookup tag l)
  pub sound : Sound o.words o.keys
  pub holds : held sound.tree ≡ leave tag l
  pub scratch_stays : o.scratch ≡ scratch
