-- What a reading call answers, by what the sorted list has.
use Rattle.std.specs.Prelude.{ℕ, ◌<◌, List, get_or, Ok, Err}
use Rattle.std.proofs.Math.Option.{Option, none, some}
use Rattle.refusals.specs.declared.Refusal.TheVariants.{Missing}
use Rattle.tree.specs.Answer.{Found}
use Rattle.records.specs.View.{Held}
use Rattle.tree.specs.declared.lookup.Aim.{Aim}
use Rattle.tree.specs.declared.lookup.Aim.TheVariants.{Exact, Begin}
use Rattle.art.specs.Tags as art

-- each is a byte
abbrev pub Bytes : List ℕ → Type 0
Bytes tag = (i : ℕ) → get_or tag i 0 < 256

-- the leaf of what is held, with its number and its total; or no such tag
abbrev pub answer_of : Option Held → Found
answer_of none = Err Missing
answer_of (some h) = Ok (record { number = h.number; total = h.total })

-- search asks for the tag itself, prefix search for one that begins the given bytes
abbrev pub asked : Aim → art.Aim
asked Exact = art.exact
asked Begin = art.begin
