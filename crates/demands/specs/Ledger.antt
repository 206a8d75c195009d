-- What the accepted calls define, by each call and its number alone: nothing else that a program tells of itself is asked.
use Rattle.std.specs.Prelude.{ℕ, suc, [], ◌∷◌}
use Rattle.std.proofs.Math.Logic.{ite}
use Rattle.std.proofs.Math.Option.{Option, none, some}
use Rattle.art.specs.Tags.{Tag, Listing, tag_dec}
use Rattle.art.specs.Listings.{lookup}
use Rattle.art.specs.Puts.{put}
use Rattle.demands.specs.Calls.{Edit, insert, delete}
use Rattle.demands.specs.Histories.{tag_of}

-- since the last accepted start: the tags with their totals, in order; how many inserts were of a tag that was not held; how many deletes
pub record Ledger : Type 0 where
  pub list : Listing ℕ
  pub inserts : ℕ
  pub deletes : ℕ

-- these three
abbrev pub ledger : Listing ℕ → (inserts deletes : ℕ) → Ledger
ledger l i d = record { list = l; inserts = i; deletes = d }

-- the list without a tag
abbrev pub without : Tag → Listing ℕ → Listing ℕ
without t [] = []
without t (e ∷ l) = ite (tag_dec t e.0) (without t l) (e ∷ without t l)

-- the total that an accepted edit leaves its tag with, none where it takes the tag out
abbrev pub gives : Edit → Option ℕ
gives (insert t total) = some total
gives (delete t) = none

-- a tag is given a total or none, by what was held for it: one that was not held is a new one, a held one is put in anew
abbrev pub given : Tag → Option ℕ → (was : Option ℕ) → Ledger → Ledger
given t none was k = ledger (without t k.list) k.inserts (suc k.deletes)
given t (some total) none k = ledger (put t total k.list) (suc k.inserts) k.deletes
given t (some total) (some old) k = ledger (put t total (without t k.list)) k.inserts k.deletes

-- an accepted edit gives it to its own tag
abbrev pub accepted : Edit → Ledger → Ledger
accepted e k = given (tag_of e) (gives e) (lookup (tag_of e) k.list) k
