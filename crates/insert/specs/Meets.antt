-- What may come of an insert on a sound block: as the sorted list of its tags and totals would have it.
use Rattle.std.specs.Prelude.{ℕ, ◌≡◌, List, Some, None, Ok, Err}
use Rattle.std.proofs.Math.Option.{some}
use Rattle.refusals.specs.declared.Refusal.TheVariants.{Clash, NoLeaf, NoRecord}
use Rattle.insert.specs.Answer.{Inserted}
use Rattle.records.specs.View.{Held}
use Rattle.art.specs.Tags.{Tag}
use Rattle.art.specs.Listings.{lookup}
use Rattle.art.specs.Puts.{put, alter}
use Rattle.art.specs.Deletes.{held}
use Rattle.art.specs.Verdicts.{known, clash, free, judge}
use Rattle.art.specs.Stores.{leaf_place}
use Rattle.art.specs.Points.{store_of}
use Rattle.frames.specs.Frame.{frame}
use Rattle.whole.specs.Sound.{Sound}
use Rattle.states.specs.Lowest.{Lowest}
use Rattle.insert.specs.Room.{LeavesFull, Lacking}
use Rattle.insert.specs.Insert.{Out}

-- what a held tag has afterwards: its leaf's number, and the new total
abbrev pub new_total : ℕ → Held → Held
new_total total h = record { number = h.number; total = total }

-- the tag was held: its old total is returned, and it has the new one
pub record Overwrites {words keys : List ℕ} (s : Sound words keys) (tag : Tag) (total : ℕ) (o : Out) : Type 0 where
  pub old : Held
  pub was : lookup tag (held s.tree) ≡ some old
  pub answers : o.answer ≡ Ok (Some old.total)
  pub sound : Sound o.words o.keys
  pub holds : held sound.tree ≡ alter (λ h. some (new_total total h)) tag (held s.tree)

-- the tag is put in, in the lowest free leaf
pub record PutsIn {words keys : List ℕ} (s : Sound words keys) (tag : Tag) (total : ℕ) (o : Out) : Type 0 where
  pub answers : o.answer ≡ Ok None
  pub sound : Sound o.words o.keys
  pub leaf : ℕ
  pub lowest : Lowest (frame words) (store_of s.tree) leaf_place leaf
  pub holds : held sound.tree ≡ put tag (record { number = leaf; total = total }) (held s.tree)

-- this answer, and no word and no key byte is changed
pub record Refuses (words keys : List ℕ) (r : Inserted) (o : Out) : Type 0 where
  pub answers : o.answer ≡ r
  pub words_kept : o.words ≡ words
  pub keys_kept : o.keys ≡ keys

-- a held tag is overwritten; a clash is refused; so is a new tag where every leaf is in use, then where a record lacks; else it is put in
pub data Inserts {words keys : List ℕ} (s : Sound words keys) (tag : Tag) (total : ℕ) (o : Out) : Type 0 where
  overwrites : judge tag (held s.tree) ≡ known → Overwrites s tag total o → Inserts s tag total o
  clashes : judge tag (held s.tree) ≡ clash → Refuses words keys (Err Clash) o → Inserts s tag total o
  no_leaf : judge tag (held s.tree) ≡ free → LeavesFull (frame words) (store_of s.tree) → Refuses words keys (Err NoLeaf) o → Inserts s tag total o
  no_record : judge tag (held s.tree) ≡ free → ¬ LeavesFull (frame words) (store_of s.tree) → Lacking (frame words) s.tree tag → Refuses words keys (Err NoRecord) o → Inserts s tag total o
  puts_in : judge tag (held s.tree) ≡ free → ¬ LeavesFull (frame words) (store_of s.tree) → ¬ Lacking (frame words) s.tree tag → PutsIn s tag total o → Inserts s tag total o
